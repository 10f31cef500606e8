-- The keys passed have become starts, those behind them are as they were.
use Rattle.std.proofs.Common.{◌≡◌, ◌++◌, take, drop}
use Rattle.baseline.specs.RunsInner.{starts_in}
use Rattle.baseline.proofs.taken.start_days.Given as goal

abbrev pub invariant-loop-key : goal.invariant-loop-key
invariant-loop-key l = l.key-items ≡ starts_in l.c (take l.key-index l.initial.key-items) ++ drop l.key-index l.initial.key-items
