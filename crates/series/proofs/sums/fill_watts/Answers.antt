-- The carry is what the positions passed leave over 30,240; the cells passed hold watts, the others their grains.
use mathlib.Core.Path.{◌≡◌, refl, sym, ap, ◌∙◌}
use mathlib.Core.List.{List}
use Prim.Native.Nat.{ℕ, ◌+◌}
use native.Mathlib.Numerals.{add-one}
use native.Mathlib.Omega.{arith}
use lib.ListN.{get_or, set}
use Rattle.integers.specs.Running.{floor_at}
use Rattle.grains.specs.Grains.{per_watt}
use Rattle.series.specs.SumsInner.{cell_at}
use Rattle.series.specs.SumsLaws.{by-none, by-rest, by-more, carried, carry-none}
use Rattle.series.proofs.PartsLaws.{by-whole}
use Rattle.series.proofs.sums.fill_watts.Goals as goal

pub loop-cell-init : goal.loop-cell-init
loop-cell-init c = (carry-none _, sym (by-none _ _))

pub overflow_add-sum : goal.overflow_add-sum
overflow_add-sum c =
    let l = c.loop-cell in
    let at = ap (λ (t : List ℕ). get_or t l.cell-index 0) l.invariant.1 ∙ by-rest (floor_at per_watt (cell_at c.args.cells.now)) l.cell-index c.args.cells.now (omega arith) in
    record { fits = omega (arith, at, l.invariant.0, c.requires l.cell-index (omega arith)) }

pub loop-cell-preserved : goal.loop-cell-preserved
loop-cell-preserved c =
    let l = c.loop-cell in
    let i = l.cell-index in
    let first = c.args.cells.now in
    let f = floor_at per_watt (cell_at first) in
    let cell : get_or l.cell-items i 0 ≡ cell_at first (i + 1) =
    ap (λ (t : List ℕ). get_or t i 0) l.invariant.1 ∙ by-rest f i first (omega arith) ∙ ap (cell_at first) (sym (add-one i)) in
    let k = carried (cell_at first) i l.carry (get_or l.cell-items i 0) l.invariant.0 cell in
    (k.left, ap (λ (t : List ℕ). set t i c.down_to_watts.result) l.invariant.1 ∙ by-more f i first c.down_to_watts.result (omega arith) (c.down_to_watts.ensures ∙ k.whole))

pub returns : goal.returns
returns c = c.loop-cell.invariant.1 ∙ by-whole (floor_at per_watt (cell_at c.args.cells.now)) c.args.cells.now c.loop-cell.cell-index (omega arith)
