-- What stands for the engagement's quarter-hours is one run of readings, or two.
use Rattle.baseline.specs.RunsLaws.{standing-whole}
use Rattle.baseline.proofs.case.Case.standing_sum.Goals as goal

pub returns : goal.returns
returns c =
    let case = c.args.self.now in
    standing-whole case.readings.now case.shown.c case.shown.e c.args.day c.in_ok-first.first c.in_ok-second.second
    (rw (c.reference_at.ensures, c.together-n.ensures) at (c.in_ok-first.ensures))
    (rw (c.reference_at-turned.ensures, c.together-n.ensures) at (c.in_ok-second.ensures))
