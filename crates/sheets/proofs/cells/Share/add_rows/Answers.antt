-- What the party gets of the rows passed is added; the cell of the next is as it was, so that adding to it fits.
use borrow.Author.Rules.{rules}
use native.Mathlib.Omega.{arith}
use mathlib.Core.Path.{◌≡◌, refl, ◌∙◌}
use mathlib.Core.List.{List, []}
use Prim.Native.Nat.{ℕ, ◌+◌, ◌*◌, ◌/◌, ◌≤◌, ◌<◌}
use lib.IntN.{ℤ, pos, ◌+ℤ◌}
use lib.ListN.{length, get_or, set}
use mir.Syntax.{w64}
use mir.Val.{to_z, of_z, SFits}
use mir.ValLaws.{to_z-of_z}
use Rattle.std.specs.Simd.{first_chunks}
use Rattle.integers.specs.Ranges.{range}
use Rattle.book.specs.declared.Point.{Point}
use Rattle.volumes.specs.Settlement.{row_width}
use Rattle.volumes.specs.SoundInner.{Bounded}
use Rattle.volumes.proofs.WidthsLaws.{bounded-fits}
use Rattle.sheets.specs.AddsInner.{adds}
use Rattle.sheets.specs.SharesInner.{source_in, fsp_in, injection_in, correction_most, gets, gets_at, gets_of, RowsSmall}
use Rattle.sheets.specs.SharesLaws.{gets-next, gets-fits}
use Rattle.sheets.proofs.PartsLaws.{chunk-is}
use Rattle.sheets.proofs.cells.Share.add_rows.Goals as goal

-- an i64 holds a correction
held : (z : ℤ) → Bounded correction_most z → to_z w64 (of_z w64 z) ≡ z
held z b = to_z-of_z w64 z (bounded-fits b (omega arith))

-- row k as an array has its three corrections, of which the party gets what it gets of row k
module _ (rows : List ℤ) (chunks : List (List ℤ)) (count k : ℕ) (room : row_width * count ≤ length rows) (small : RowsSmall rows count) (front : chunks ≡ first_chunks row_width (length rows / row_width) rows) (here : k < count) where
  source-is : get_or (get_or chunks k []) 2 (pos 0) ≡ source_in rows k
  source-is = chunk-is chunks rows k 2 front (omega arith) (omega arith)

  fsp-is : get_or (get_or chunks k []) 3 (pos 0) ≡ fsp_in rows k
  fsp-is = chunk-is chunks rows k 3 front (omega arith) (omega arith)

  injection-is : get_or (get_or chunks k []) 4 (pos 0) ≡ injection_in rows k
  injection-is = chunk-is chunks rows k 4 front (omega arith) (omega arith)

  got : (version party : ℕ) (point : Point) {r : ℤ}
      → r ≡ gets version party point (to_z w64 (of_z w64 (get_or (get_or chunks k []) 2 (pos 0)))) (to_z w64 (of_z w64 (get_or (get_or chunks k []) 3 (pos 0)))) (to_z w64 (of_z w64 (get_or (get_or chunks k []) 4 (pos 0))))
      → r ≡ gets_at version party point rows k
  got version party point e = e ∙ rw (source-is, fsp-is, injection-is, held (source_in rows k) (small.source k here), held (fsp_in rows k) (small.fsp k here), held (injection_in rows k) (small.injection k here))

pub loop-k-init : goal.loop-k-init
unfolding gets_of range
loop-k-init c = refl

pub of-requires : goal.of-requires
of-requires c =
    let rows = c.args.rows.now in
    let chunks = c.as_chunks.result.0.now in
    let k = c.loop-k.k in
    let front = c.as_chunks.ensures.front in
    let source : Bounded correction_most (get_or (get_or chunks k []) 2 (pos 0)) = rw (source-is rows chunks _ k c.requires.0 c.requires.1 front (omega arith)) (c.requires.1.source k (omega arith)) in
    let fsp : Bounded correction_most (get_or (get_or chunks k []) 3 (pos 0)) = rw (fsp-is rows chunks _ k c.requires.0 c.requires.1 front (omega arith)) (c.requires.1.fsp k (omega arith)) in
    let injection : Bounded correction_most (get_or (get_or chunks k []) 4 (pos 0)) = rw (injection-is rows chunks _ k c.requires.0 c.requires.1 front (omega arith)) (c.requires.1.injection k (omega arith)) in
    search rules

pub overflow_add-sum : goal.overflow_add-sum
overflow_add-sum c =
    let a = c.args in
    let t = a.self in
    let k = c.loop-k.k in
    let n = length a.sums.now in
    let own : c.of.result ≡ gets_at t.version t.party t.point a.rows.now k = got a.rows.now c.as_chunks.result.0.now n k c.requires.0 c.requires.1 c.as_chunks.ensures.front (omega arith) t.version t.party t.point c.of.ensures in
    let fits : SFits w64 (get_or c.loop-k.sums k (pos 0) +ℤ c.of.result) = rw (own, c.loop-k.invariant) (gets-fits t.version t.party t.point a.rows.now a.sums.now 0 n k k (omega arith) c.requires.2 (omega arith)) in
    search rules

pub loop-k-preserved : goal.loop-k-preserved
loop-k-preserved c =
    let a = c.args in
    let t = a.self in
    let k = c.loop-k.k in
    let n = length a.sums.now in
    let own : c.of.result ≡ gets_at t.version t.party t.point a.rows.now k = got a.rows.now c.as_chunks.result.0.now n k c.requires.0 c.requires.1 c.as_chunks.ensures.front (omega arith) t.version t.party t.point c.of.ensures in
    let fits : SFits w64 (get_or c.loop-k.sums k (pos 0) +ℤ c.of.result) = rw (own, c.loop-k.invariant) (gets-fits t.version t.party t.point a.rows.now a.sums.now 0 n k k (omega arith) c.requires.2 (omega arith)) in
    let more : set c.loop-k.sums k (get_or c.loop-k.sums k (pos 0) +ℤ c.of.result) ≡ adds a.sums.now 0 (gets_of t.version t.party t.point a.rows.now (k + 1)) = rw (own, c.loop-k.invariant) (gets-next t.version t.party t.point a.rows.now a.sums.now 0 k k (omega arith)) in
    search rules
