-- The loop has counted n digits, above which w is left; where n isn't 1 the first of them isn't 0.
use mathlib.Core.Path.{◌≡◌}
use Prim.Native.Nat.{◌-◌, ◌≤◌, ◌<◌}
use Rattle.text.specs.Decimal.{above}
use Rattle.text.proofs.width.Given as goal

abbrev pub invariant-loop-w : goal.invariant-loop-w
invariant-loop-w l = (1 ≤ l.n) × (l.w ≡ above l.n l.v) × (1 < l.n → 0 < above (l.n - 1) l.v)

abbrev pub decreases-loop-w : goal.decreases-loop-w
decreases-loop-w l = l.w
