-- What adding a run of numbers leaves at each place; a run is added number by number.
use Rattle.std.specs.Prelude.{◌≡◌, refl, List, [], ◌∷◌, ◌++◌, map, ℕ, zero, suc, ◌+◌, ◌≤◌, ◌<◌, ℤ, pos, ◌+ℤ◌, length, get_or}
use Rattle.std.proofs.Common.{sym, ap, ◌∙◌, add-zero, add-suc, suc-add, add-one, arith, length-set, get_or-set_same, get_or-set_other}
use Rattle.std.proofs.lemmas.List.{length-map}
use Rattle.integers.specs.Ranges.{range}
use Rattle.sheets.specs.AddsInner.{add_at, adds}
use Rattle.integers.proofs.RangesLaws.{length-range, map-range-next}

pub length-adds : (l : List ℤ) (at : ℕ) (zs : List ℤ) → length (adds l at zs) ≡ length l
length-adds l at [] = refl
length-adds l at (z ∷ zs) = length-adds (add_at l at z) (suc at) zs ∙ length-set l at (get_or l at (pos 0) +ℤ z)

-- before the run, behind it and in it
pub adds-before : (l : List ℤ) (at : ℕ) (zs : List ℤ) (i : ℕ) → i < at → get_or (adds l at zs) i (pos 0) ≡ get_or l i (pos 0)
adds-before l at [] i h = refl
adds-before l at (z ∷ zs) i h =
    adds-before (add_at l at z) (suc at) zs i (omega arith)
    ∙ get_or-set_other l at i (get_or l at (pos 0) +ℤ z) (pos 0) (λ e. omega arith)

pub adds-behind : (l : List ℤ) (at : ℕ) (zs : List ℤ) (i : ℕ) → at + length zs ≤ i → get_or (adds l at zs) i (pos 0) ≡ get_or l i (pos 0)
adds-behind l at [] i h = refl
adds-behind l at (z ∷ zs) i h =
    adds-behind (add_at l at z) (suc at) zs i (omega arith)
    ∙ get_or-set_other l at i (get_or l at (pos 0) +ℤ z) (pos 0) (λ e. omega arith)

pub adds-within : (l : List ℤ) (at : ℕ) (zs : List ℤ) (k : ℕ) → at + length zs ≤ length l → k < length zs → get_or (adds l at zs) (at + k) (pos 0) ≡ get_or l (at + k) (pos 0) +ℤ get_or zs k (pos 0)
adds-within l at [] k h q = absurd (omega arith)
adds-within l at (z ∷ zs) zero h q =
    let e : at + 0 ≡ at = add-zero at in
    rw e (adds-before (add_at l at z) (suc at) zs at (omega arith) ∙ get_or-set_same l at (get_or l at (pos 0) +ℤ z) (pos 0) (omega arith))
adds-within l at (z ∷ zs) (suc k) h q =
    let e : at + suc k ≡ suc at + k = omega arith in
    rw e
    (adds-within (add_at l at z) (suc at) zs k (omega (arith, length-set l at (get_or l at (pos 0) +ℤ z))) (omega arith)
    ∙ ap (λ (y : ℤ). y +ℤ get_or zs k (pos 0)) (get_or-set_other l at (suc at + k) (get_or l at (pos 0) +ℤ z) (pos 0) (λ f. omega arith)))

-- a run behind a run
pub adds-append : (l : List ℤ) (at : ℕ) (a b : List ℤ) → adds (adds l at a) (at + length a) b ≡ adds l at (a ++ b)
adds-append l at [] b = rw add-zero
adds-append l at (z ∷ a) b = rw (add-suc, ← suc-add) (adds-append (add_at l at z) (suc at) a b)

-- one number more
pub adds-next : (l : List ℤ) (at : ℕ) (f : ℕ → ℤ) (k : ℕ) → add_at (adds l at (map f (range 0 k))) (at + k) (f k) ≡ adds l at (map f (range 0 (k + 1)))
adds-next l at f k =
    let n : length (map f (range 0 k)) ≡ k = length-map (range 0 k) f ∙ length-range 0 k in
    let e : map f (range 0 (k + 1)) ≡ map f (range 0 k) ++ (f k ∷ []) =
    ap (λ (m : ℕ). map f (range 0 m)) (add-one k) ∙ map-range-next f 0 k ∙ ap (λ (m : ℕ). map f (range 0 k) ++ (f m ∷ [])) (omega arith) in
    ap (λ (m : ℕ). adds (adds l at (map f (range 0 k))) (at + m) (f k ∷ [])) (sym n) ∙ adds-append l at (map f (range 0 k)) (f k ∷ []) ∙ ap (adds l at) (sym e)
