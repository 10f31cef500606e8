-- Of the readings passed it is known whether one is missing, and their sum.
use Rattle.std.proofs.Common.{◌≡◌}
use Rattle.volumes.specs.Baseline.{complete}
use Rattle.baseline.specs.TallyInner.{in_run, Summed}
use Rattle.baseline.proofs.tally.tally_run.Given as goal

abbrev pub invariant-loop-i : goal.invariant-loop-i
invariant-loop-i l = (l.whole ≡ complete (in_run l.readings l.at l.i)) × Summed (in_run l.readings l.at l.i) l.i l.sum
