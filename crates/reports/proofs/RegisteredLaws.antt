-- A book that passes refusals 1 to 7 has such a register: each test that its rows passed says so.
use Rattle.std.specs.Prelude.{◌≡◌, Bool, ◌&&◌, ◌||◌, ℕ, ◌^◌, ◌<◌}
use Rattle.std.proofs.Math.Path.{refl, ap}
use Rattle.std.proofs.Common.{sym, ◌∙◌, arith}
use Rattle.std.proofs.Math.Bool.{true, false, not}
use Rattle.std.proofs.lemmas.Bool.{false≢true}
use mathlib.Core.List.Memᴰ
use mathlib.Core.List.{List, Memᴰ}
use Rattle.std.proofs.Math.Option.{none}
use Rattle.std.proofs.Math.Dec.{eqb, leb, ltb}
use borrow.Author.Tests.{eqb-true, eq-eqb, ltb-true, ltb-false, not-false}
use Rattle.integers.proofs.TestsLaws.{both, neither}
use Rattle.integers.specs.First.{any_below}
use Rattle.integers.specs.Ranges.{range}
use Rattle.quarters.specs.Quarters.{days_of}
use Rattle.book.specs.Header.{version_of, calendar_of, point_count, register_section}
use Rattle.book.specs.HeaderLaws.{headed}
use Rattle.book.specs.Register.{point_at, register_row, delivery_in, access_in, supplier_in, fsp_in, mask_in, upward_in, downward_in, supply_in, supply_of, numbers_good, bytes_good, not_above, differs, bad_point}
use Rattle.book.specs.Judged.{refusal_of}
use Rattle.book.specs.Book.{book_of}
use Rattle.book.specs.declared.Point.{Point}
use Rattle.volumes.proofs.SoundLaws.{passes, first-none, mem-range}
use Rattle.volumes.proofs.BookLaws.{points-length}
use Rattle.reports.specs.RegisteredInner.{NumbersFit, Registered}
use Rattle.integers.proofs.FirstLaws.{any-of}

module _ (version days : ℕ) (register : List ℕ) where
  numbered-row : (i : ℕ) → bad_point version days register i ≡ false → NumbersFit (point_at register i)
  unfolding bad_point numbers_good
  numbered-row i e =
      let row = register_row register i in
      let good = (both (numbers_good days row) (bytes_good version row) (not-false _ (neither (not (numbers_good days row && bytes_good version row)) (not_above register i || any_below (differs register i) i) e).0)).0 in
      let m = ltb (mask_in row) (2 ^ days) && (leb (upward_in row) (10 ^ 9) && leb (downward_in row) (10 ^ 9)) in
      let f = ltb (fsp_in row) (10 ^ 10) && m in
      let s = ltb (supplier_in row) (10 ^ 10) && f in
      let a = ltb (access_in row) (10 ^ 18) && s in
      let e₁ = both (ltb (delivery_in row) (10 ^ 18)) a good in
      let e₂ = both (ltb (access_in row) (10 ^ 18)) s e₁.1 in
      let e₃ = both (ltb (supplier_in row) (10 ^ 10)) f e₂.1 in
      let e₄ = both (ltb (fsp_in row) (10 ^ 10)) m e₃.1 in
      record { access = ltb-true _ _ e₂.0; supplier = ltb-true _ _ e₃.0; fsp = ltb-true _ _ e₄.0 }

  -- row i and an earlier row of its access point
  shared-earlier : (i j : ℕ) → bad_point version days register i ≡ false → j < i → (point_at register i).access ≡ (point_at register j).access → (point_at register i).supply ≡ (point_at register j).supply
  unfolding bad_point
  shared-earlier i j e h q =
      let one = not (numbers_good days (register_row register i) && bytes_good version (register_row register i)) in
      let none-differs = (neither (not_above register i) (any_below (differs register i) i) (neither one (not_above register i || any_below (differs register i) i) e).1).1 in
      let same = eqb (supplier_in (register_row register i)) (supplier_in (register_row register j)) in
      let supply = eqb (supply_in (register_row register i)) (supply_in (register_row register j)) in
      ap supply_of (eqb-true (supply_in (register_row register i)) (supply_in (register_row register j)) (both same supply (go (same && supply) refl none-differs)).1)
    where
      go : (t : Bool) → (eqb (supplier_in (register_row register i)) (supplier_in (register_row register j)) && eqb (supply_in (register_row register i)) (supply_in (register_row register j))) ≡ t → any_below (differs register i) i ≡ false → t ≡ true
      go true f n = refl
      go false f n = absurd (false≢true (sym n ∙ any-of (differs register i) j i h (rw (eq-eqb _ _ q, f))))

  -- any two rows
  shared-rows : (i j : ℕ) → bad_point version days register i ≡ false → bad_point version days register j ≡ false → (point_at register i).access ≡ (point_at register j).access → (point_at register i).supply ≡ (point_at register j).supply
  shared-rows i j e f q = go (ltb j i) refl (ltb i j) refl
    where
      go : (t : Bool) → ltb j i ≡ t → (u : Bool) → ltb i j ≡ u → (point_at register i).supply ≡ (point_at register j).supply
      go true a u b = shared-earlier i j e (ltb-true j i a) q
      go false a true b = sym (shared-earlier j i f (ltb-true i j b) (sym q))
      go false a false b = let k : i ≡ j = omega (arith, ltb-false j i a, ltb-false i j b) in ap (λ n. (point_at register n).supply) k

-- a good row of the register that is this point
abbrev GoodRow : List ℕ → Point → Type 0
GoodRow bytes point = (i : ℕ) × (bad_point (version_of bytes) (days_of (calendar_of bytes)) (register_section bytes) i ≡ false) × (point_at (register_section bytes) i ≡ point)

row_of : (bytes : List ℕ) → refusal_of bytes ≡ none → (point : Point) → Memᴰ point (book_of bytes).points → GoodRow bytes point
unfolding book_of
row_of bytes e point m = go (Memᴰ.of_map (point_at (register_section bytes)) (range 0 (point_count bytes)) m)
  where
    go : (i : ℕ) × Memᴰ i (range 0 (point_count bytes)) × (point_at (register_section bytes) i ≡ point) → GoodRow bytes point
    go (i, k, q) =
        let r = mem-range 0 (point_count bytes) i k in
        (i, first-none (bad_point (version_of bytes) (days_of (calendar_of bytes)) (register_section bytes)) 0 (point_count bytes) (passes bytes e).points i r.0 r.1, q)

numbered-point : (bytes : List ℕ) (point : Point) → GoodRow bytes point → NumbersFit point
numbered-point bytes point (i, f, q) = rw (← q) (numbered-row (version_of bytes) (days_of (calendar_of bytes)) (register_section bytes) i f)

shared-points : (bytes : List ℕ) (a b : Point) → GoodRow bytes a → GoodRow bytes b → a.access ≡ b.access → a.supply ≡ b.supply
shared-points bytes a b (i, f, p) (j, g, r) q =
    sym (ap (λ (x : Point). x.supply) p)
    ∙ shared-rows (version_of bytes) (days_of (calendar_of bytes)) (register_section bytes) i j f g (ap (λ (x : Point). x.access) p ∙ q ∙ sym (ap (λ (x : Point). x.access) r))
    ∙ ap (λ (x : Point). x.supply) r

pub registered : (bytes : List ℕ) → refusal_of bytes ≡ none → Registered (book_of bytes)
registered bytes e =
    record {
      numbered = λ point m. numbered-point bytes point (row_of bytes e point m);
      shared = λ a b m k q. shared-points bytes a b (row_of bytes e a m) (row_of bytes e b k) q;
      few = omega (arith, points-length bytes, (headed bytes (passes bytes e).header).points);
    }
