-- The tests are those of eligibility; what is summed are the readings of the day.
use Rattle.std.proofs.Common.{sym, ◌∙◌}
use Rattle.baseline.specs.RefersLaws.{refers}
use Rattle.baseline.proofs.case.Case.reference_day.Goals as goal

pub returns-clause-refers : goal.returns-clause-refers
returns-clause-refers c = λ b shows.
    let t = c.in_ok-sum.ensures in
    (refers shows c.args.day (sym c.alike.ensures ∙ c.if-not-alike.false) c.in_ok-sum.sum c.window_good.result t.0 t.1 c.window_good.ensures).1 c.if-not-window_good.false
