-- The places passed hold their quarter-hours' means and the addend.
use Rattle.std.proofs.Common.{ℕ, ◌+◌, length}
use Rattle.volumes.specs.Quarters.{reference_quarter}
use Rattle.baseline.specs.RunsInner.{start_runs}
use Rattle.baseline.specs.FillsInner.{Raises, Fills}
use Rattle.baseline.proofs.shown.Shown.fill_means.Given as goal

abbrev pub invariant-loop-k : goal.invariant-loop-k
invariant-loop-k l = Fills (λ (k : ℕ). Raises (start_runs l.taken.readings.now (reference_quarter l.self.c l.self.e.day (l.self.e.first + k)) 0 1 l.taken.starts.now) (length l.taken.starts.now) l.add) l.k l.levels
