-- Of the readings passed it is known whether one is missing, and their sum.
use Rattle.std.proofs.Common.{arith, ◌∙◌}
use Rattle.baseline.proofs.CaseLaws.{sum-next, sum-none-next, whole-there, whole-none}
use Rattle.baseline.proofs.tally.tally_run.Goals as goal
use Rattle.baseline.proofs.tally.tally_run.Goals.{in-Some, in-None}

pub loop-i-preserved : goal.loop-i-preserved
loop-i-preserved c =
    let readings = c.args.readings.now in
    let at = c.args.at in
    let i = c.loop-i.i in
    elim c.match-raised_at.branch [
      | in-Some w ↦
          let told = w.in-Some.ensures in (
            w.whole-is ∙ c.loop-i.invariant.0 ∙ whole-there readings at i w.in-Some.raised told.0 told.1,
            rw (w.sum-is, w.from-sum.ensures) (sum-next readings at i c.loop-i.sum w.in-Some.raised c.loop-i.invariant.1 told.0 (omega arith)),
          )
      | in-None w ↦
          let told = w.in-None.ensures in (
            w.whole-is ∙ whole-none readings at i told,
            rw (w.sum-is) (sum-none-next readings at i c.loop-i.sum c.loop-i.invariant.1 told),
          )
    ]
