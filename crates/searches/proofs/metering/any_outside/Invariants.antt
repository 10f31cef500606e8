-- After k turns the flag tells whether one of the first k readings was out of range.
use Rattle.std.proofs.Common.{◌≡◌, ◌+◌}
use Rattle.integers.specs.First.{any_below}
use Rattle.book.specs.Metering.{bad_reading}
use Rattle.searches.proofs.metering.any_outside.Given as goal

abbrev pub invariant-loop-k : goal.invariant-loop-k
invariant-loop-k l = l.bad ≡ any_below (λ k. bad_reading l.readings (l.at + k)) l.k
