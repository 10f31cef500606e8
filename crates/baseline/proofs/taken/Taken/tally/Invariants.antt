-- Of the days passed it is known whether one misses a reading, and their sum.
use Rattle.std.proofs.Common.{◌≡◌, ◌*◌, take}
use Rattle.volumes.specs.Baseline.{complete}
use Rattle.baseline.specs.TallyInner.{Summed}
use Rattle.baseline.specs.RunsInner.{start_runs}
use Rattle.baseline.proofs.taken.Taken.tally.Given as goal

abbrev pub invariant-loop-start : goal.invariant-loop-start
invariant-loop-start l =
    (l.whole ≡ complete (start_runs l.self.readings.now l.place l.back l.n (take l.start-index l.self.starts.now)))
    × Summed (start_runs l.self.readings.now l.place l.back l.n (take l.start-index l.self.starts.now)) (l.start-index * l.n) l.sum
