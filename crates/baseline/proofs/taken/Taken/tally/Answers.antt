-- Of the days passed it is known whether one misses a reading, and their sum.
use Rattle.std.proofs.Common.{sym, ap₂, ◌∙◌, zero-mul}
use Rattle.std.specs.Prelude.{◌&&◌, get_or}
use mathlib.Core.List.{flat_map}
use Rattle.baseline.specs.TallyInner.{Summed}
use Rattle.baseline.specs.TallyLaws.{tally-none, is_whole, sum-of}
use Rattle.baseline.specs.RunsInner.{start_run}
use Rattle.baseline.specs.RunsLaws.{sums-more}
use Rattle.baseline.proofs.RunsLaws.{wholes-more}
use Rattle.baseline.proofs.taken.Taken.tally.Goals as goal

pub loop-start-init : goal.loop-start-init
unfolding flat_map
loop-start-init c = (sym tally-none.0, rw (zero-mul c.args.n) tally-none.1)

pub loop-start-preserved : goal.loop-start-preserved
loop-start-preserved c =
    let readings = c.args.self.now.readings.now in
    let starts = c.args.self.now.starts.now in
    let n = c.args.n in
    let j = c.loop-start.start-index in
    let day = start_run readings c.args.place c.args.back n (get_or starts j 0) in
    let own : Summed day n c.unwrap_or-sum.result = rw c.unwrap_or-sum.ensures (sum-of day n c.tally_run-tallied.result c.tally_run-tallied.ensures) in (
      ap₂ ◌&&◌ c.loop-start.invariant.0 (c.is_some-whole.ensures ∙ is_whole day n c.tally_run-tallied.result c.tally_run-tallied.ensures) ∙ sym (wholes-more readings starts c.args.place c.args.back n j c.loop-start-test.true),
      sums-more readings starts c.args.place c.args.back n j c.loop-start.sum c.unwrap_or-sum.result c.loop-start-test.true c.loop-start.invariant.1 own,
    )
