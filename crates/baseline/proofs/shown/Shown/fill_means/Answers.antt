-- The places passed hold their quarter-hours' means and the addend.
use Rattle.std.proofs.Common.{ℕ, ◌+◌, ◌<◌, subst, length, arith}
use Rattle.volumes.specs.Quarters.{reference_quarter}
use Rattle.baseline.specs.RunsInner.{start_runs}
use Rattle.baseline.specs.LevelsInner.{Means}
use Rattle.baseline.specs.FillsInner.{Raises}
use Rattle.baseline.specs.FillsLaws.{fills-more, raises}
use Rattle.baseline.proofs.shown.Shown.fill_means.Goals as goal

pub loop-k-init : goal.loop-k-init
loop-k-init c = λ k h. absurd (omega arith)

pub mean-requires : goal.mean-requires
mean-requires c = rw c.reference_quarter.ensures.is (c.requires.0 c.loop-k.k c.loop-k-test.true)

pub loop-k-preserved : goal.loop-k-preserved
loop-k-preserved c =
    let taken = c.args.taken.now in
    let shown = c.args.self.now in
    let x = length taken.starts.now in
    let here : c.loop-k.k < length c.loop-k.levels = omega (arith, c.loop-k.auto.levels, c.loop-k-test.true) in
    fills-more (λ (k : ℕ). Raises (start_runs taken.readings.now (reference_quarter shown.c shown.e.day (shown.e.first + k)) 0 1 taken.starts.now) x c.args.add) c.loop-k.levels c.loop-k.k (c.mean.result + c.args.add) here c.loop-k.invariant
    (raises (start_runs taken.readings.now (reference_quarter shown.c shown.e.day (shown.e.first + c.loop-k.k)) 0 1 taken.starts.now) x c.mean.result c.args.add
    (subst (λ (q : ℕ). Means (start_runs taken.readings.now q 0 1 taken.starts.now) x c.mean.result) c.reference_quarter.ensures.is c.mean.ensures)
    c.requires.1)

pub returns : goal.returns
returns c = λ k h. c.loop-k.invariant k (omega (arith, c.loop-k-test.false))
