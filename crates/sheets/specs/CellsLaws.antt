-- A run of numbers added to a sheet's cells adds a function of the position that is 0 elsewhere.
use Rattle.std.specs.Prelude.{◌≡◌, refl, Bool, true, false, List, [], ◌∷◌, ◌++◌, map, ℕ, zero, suc, ◌+◌, ◌-◌, ◌≤◌, ◌<◌, ltb, ℤ, pos, ◌+ℤ◌, length, get_or, set, replicate}
use Rattle.std.proofs.Common.{sym, ap, ap₂, subst, ◌∙◌, arith, length-set, ext_get_or, ltb-true, ltb-false}
use Rattle.std.proofs.Math.IntN.{+ℤ_idr}
use Rattle.std.proofs.lemmas.List.{length-map, set-append_left}
use Rattle.std.proofs.Math.ListN.{get_or-append}
use Rattle.integers.specs.Ranges.{range}
use Rattle.sheets.specs.AddsInner.{add_at, adds}
use Rattle.sheets.specs.AddsLaws.{length-adds, adds-before, adds-behind, adds-within}
use Rattle.integers.proofs.RangesLaws.{length-range, range-shift, get_d-made}

-- what stands behind is left
pub adds-front : (a rest : List ℤ) (at : ℕ) (zs : List ℤ) → at + length zs ≤ length a → adds (a ++ rest) at zs ≡ adds a at zs ++ rest
adds-front a rest at [] h = refl
adds-front a rest at (z ∷ zs) h =
    let e : add_at (a ++ rest) at z ≡ add_at a at z ++ rest =
    ap (λ (y : ℤ). set (a ++ rest) at (y +ℤ z)) (get_or-append a rest (pos 0) at (omega arith)) ∙ set-append_left a rest at (get_or a at (pos 0) +ℤ z) (omega arith) in
    ap (λ (l : List ℤ). adds l (suc at) zs) e ∙ adds-front (add_at a at z) rest (suc at) zs (omega (arith, length-set a at (get_or a at (pos 0) +ℤ z)))

-- the numbers at positions 1 to n: how many, and the one at cell i
pub cells-length : (f : ℕ → ℤ) (n : ℕ) → length (map f (range 1 n)) ≡ n
cells-length f n = length-map (range 1 n) f ∙ length-range 1 n

pub cell : (f : ℕ → ℤ) (n i : ℕ) → i < n → get_or (map f (range 1 n)) i (pos 0) ≡ f (1 + i)
cell f n i h = ap (λ (l : List ℤ). get_or l i (pos 0)) (sym (range-shift f 1 0 n)) ∙ get_d-made (λ k. f (1 + k)) n i (pos 0) h

pub cells-zero : (f : ℕ → ℤ) (n : ℕ) → ((p : ℕ) → f p ≡ pos 0) → map f (range 1 n) ≡ replicate n (pos 0)
unfolding range
cells-zero f n h = go 1 n
  where
    go : (a n : ℕ) → map f (range a n) ≡ replicate n (pos 0)
    go a zero = refl
    go a (suc n) = ap₂ ◌∷◌ (h a) (go (suc a) n)

module _ (f g : ℕ → ℤ) (n at count : ℕ) (inside : at + count ≤ n) (before : (p : ℕ) → p < 1 + at → g p ≡ pos 0) (behind : (p : ℕ) → 1 + at + count ≤ p → g p ≡ pos 0) where
  one_cell : (i : ℕ) → i < n → get_or (adds (map f (range 1 n)) at (map (λ k. g (1 + at + k)) (range 0 count))) i (pos 0) ≡ f (1 + i) +ℤ g (1 + i)
  one_cell i h = go (ltb i at) refl (ltb i (at + count)) refl
    where
      l : List ℤ
      l = map f (range 1 n)

      zs : List ℤ
      zs = map (λ k. g (1 + at + k)) (range 0 count)

      many : length zs ≡ count
      many = length-map (range 0 count) (λ k. g (1 + at + k)) ∙ length-range 0 count

      nothing : (y : ℤ) → y ≡ f (1 + i) → g (1 + i) ≡ pos 0 → y ≡ f (1 + i) +ℤ g (1 + i)
      nothing y p q = p ∙ rw (q, +ℤ_idr (f (1 + i)))

      within : (k : ℕ) → k < count → get_or (adds l at zs) (at + k) (pos 0) ≡ f (1 + (at + k)) +ℤ g (1 + (at + k))
      within k q =
          let d : 1 + at + k ≡ 1 + (at + k) = omega arith in
          adds-within l at zs k (omega (arith, many, cells-length f n)) (omega (arith, many))
          ∙ ap₂ ◌+ℤ◌ (cell f n (at + k) (omega arith)) (get_d-made (λ k. g (1 + at + k)) count k (pos 0) q ∙ ap g d)

      go : (t : Bool) → ltb i at ≡ t → (u : Bool) → ltb i (at + count) ≡ u → get_or (adds l at zs) i (pos 0) ≡ f (1 + i) +ℤ g (1 + i)
      go true p u q =
          nothing (get_or (adds l at zs) i (pos 0)) (adds-before l at zs i (ltb-true i at p) ∙ cell f n i h) (before (1 + i) (omega (arith, ltb-true i at p)))
      go false p false q =
          nothing (get_or (adds l at zs) i (pos 0)) (adds-behind l at zs i (omega (arith, many, ltb-false i (at + count) q)) ∙ cell f n i h) (behind (1 + i) (omega (arith, ltb-false i (at + count) q)))
      go false p true q =
          let a : at ≤ i = ltb-false i at p in
          let b : i < at + count = ltb-true i (at + count) q in
          let e : at + (i - at) ≡ i = omega arith in
          subst (λ (m : ℕ). get_or (adds l at zs) m (pos 0) ≡ f (1 + m) +ℤ g (1 + m)) e (within (i - at) (omega arith))

  pub adds-cells : (rest : List ℤ) → adds (map f (range 1 n) ++ rest) at (map (λ k. g (1 + at + k)) (range 0 count)) ≡ map (λ p. f p +ℤ g p) (range 1 n) ++ rest
  adds-cells rest =
      let zs = map (λ k. g (1 + at + k)) (range 0 count) in
      let many : length zs ≡ count = length-map (range 0 count) (λ k. g (1 + at + k)) ∙ length-range 0 count in
      let long = cells-length f n in
      let whole = length-adds (map f (range 1 n)) at zs in
      adds-front (map f (range 1 n)) rest at zs (omega arith)
      ∙ ap (λ (l : List ℤ). l ++ rest)
      (ext_get_or (pos 0) (adds (map f (range 1 n)) at zs) (map (λ p. f p +ℤ g p) (range 1 n)) (whole ∙ long ∙ sym (cells-length (λ p. f p +ℤ g p) n)) (λ i h. one_cell i (omega arith) ∙ sym (cell (λ p. f p +ℤ g p) n i (omega arith))))
