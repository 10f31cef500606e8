-- The count is that of the engagements passed.
use mathlib.Core.Path.{◌≡◌}
use Prim.Native.Nat.{◌*◌, ◌≤◌}
use Rattle.settlement.specs.PartsLaws.{row_count_to}
use Rattle.settlement.proofs.settle.count_rows.Given as goal

abbrev pub invariant-loop-i : goal.invariant-loop-i
invariant-loop-i l = (l.count ≡ row_count_to l.engagements l.i) × (l.count ≤ 255 * l.i)
