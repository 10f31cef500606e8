-- The digits are written from the last: after n - k of them the list is the first with v's last n - k digits written at `at` + k.
use mathlib.Core.Path.{◌≡◌}
use Prim.Native.Nat.{◌+◌, ◌-◌}
use Rattle.text.specs.Decimal.{above, fixed}
use Rattle.text.specs.WrittenInner.{written}
use Rattle.text.proofs.put_fixed.Given as goal

abbrev pub invariant-loop-k : goal.invariant-loop-k
invariant-loop-k l = (l.w ≡ above (l.n - l.k) l.v) × (l.out ≡ written l.initial.out (l.at + l.k) (fixed (l.n - l.k) l.v))
