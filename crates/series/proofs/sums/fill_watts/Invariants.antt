-- The carry is what the positions passed leave over 30,240; the cells passed hold watts, the others their grains.
use mathlib.Core.Path.{◌≡◌}
use Prim.Native.Nat.{◌%◌}
use Rattle.integers.specs.Running.{up_to, floor_at}
use Rattle.grains.specs.Grains.{per_watt}
use Rattle.series.specs.SumsInner.{by_position, cell_at}
use Rattle.series.proofs.sums.fill_watts.Given as goal

abbrev pub invariant-loop-cell : goal.invariant-loop-cell
invariant-loop-cell l = (l.carry ≡ up_to (cell_at l.initial.cell-items) l.cell-index % per_watt) × (l.cell-items ≡ by_position (floor_at per_watt (cell_at l.initial.cell-items)) l.cell-index l.initial.cell-items)
