-- One pass: the keys passed are in their places, and what is carried is still to be put among those behind.
use Rattle.std.proofs.Common.{◌≡◌, ◌++◌, take, drop}
use Rattle.baseline.specs.RankingInner.{inserted}
use Rattle.baseline.proofs.ranking.insert.Given as goal

abbrev pub invariant-loop-k : goal.invariant-loop-k
invariant-loop-k l = take l.k-index l.k-items ++ inserted l.carried (drop l.k-index l.k-items) ≡ inserted l.key l.initial.k-items
