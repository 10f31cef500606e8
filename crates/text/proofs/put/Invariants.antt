-- After k bytes the list is the first with the tag's first k bytes written at `at`.
use Rattle.std.specs.Prelude.{◌≡◌, take}
use Rattle.text.specs.WrittenInner.{written}
use Rattle.text.proofs.put.Given as goal

abbrev pub invariant-loop-k : goal.invariant-loop-k
invariant-loop-k l = l.out ≡ written l.initial.out l.at (take l.k l.tag)
