-- A turn stores the row of quarter-hour k behind the k rows before it; its raised reading is not missing, so that it has the reading's watts.
use mathlib.Core.Path.{◌≡◌}
use mathlib.Core.List.{flat_map}
use lib.Seq.{sets}
use Rattle.integers.specs.Ranges.{range}
use Rattle.settlement.specs.RowsInner.{row_at}
use Rattle.settlement.proofs.rows.Terms.write_rows.Given as goal

abbrev pub invariant-loop-k : goal.invariant-loop-k
invariant-loop-k l =
    l.out ≡ sets l.initial.out 0 (flat_map (row_at l.self.version l.self.e.direction l.self.point l.self.e.requested l.levels l.readings l.first) (range 0 l.k))
