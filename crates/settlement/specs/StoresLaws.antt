-- Stores in a row: runs of stores one behind the other are one, and parts of one length are stored one behind the other.
use Rattle.std.specs.Prelude.{◌≡◌, set}
use Rattle.std.proofs.Math.Path.{refl, ap, ap₂}
use Rattle.std.proofs.Common.{◌∙◌, add-zero, zero-add, add-suc, suc-add, arith, add-one}
use mathlib.Core.List.{List, [], ◌∷◌, ◌++◌, flat_map, append-nil}
use Prim.Native.Nat.{ℕ, zero, suc, ◌+◌, ◌*◌, ◌≤◌, ◌<◌}
use Rattle.std.proofs.Math.Numerals.{add-two}
use Rattle.std.proofs.Math.ListN.{length}
use Rattle.std.proofs.lemmas.List.Edits.{sets}
use Rattle.integers.specs.Ranges.{range}
use Rattle.integers.proofs.RangesLaws.{length-range, range-next}
use Rattle.integers.proofs.ListsLaws.{flat_map-append, length-flat_map}

module _ {ℓ} {A : Type ℓ} where
  pub sets-append : (l : List A) (at : ℕ) (a b : List A) → sets (sets l at a) (at + length a) b ≡ sets l at (a ++ b)
  sets-append l at [] b = rw add-zero
  sets-append l at (x ∷ a) b = rw (add-suc, ← suc-add) (sets-append (set l at x) (suc at) a b)

  pub five-sets : (l : List A) (at : ℕ) (a b c d e : A) → set (set (set (set (set l at a) (at + 1) b) (at + 2) c) (at + 3) d) (at + 4) e ≡ sets l at (a ∷ b ∷ c ∷ d ∷ e ∷ [])
  five-sets l at a b c d e =
      let three : at + 3 ≡ suc (suc (suc at)) = omega arith in
      let four : at + 4 ≡ suc (suc (suc (suc at))) = omega arith in
      rw (add-one, add-two, three, four)

  -- one more part of `width` elements
  pub sets-next : (width : ℕ) (l : List A) (at : ℕ) (f : ℕ → List A) (k : ℕ) → ((i : ℕ) → length (f i) ≡ width)
      → sets (sets l at (flat_map f (range 0 k))) (at + width * k) (f k) ≡ sets l at (flat_map f (range 0 (k + 1)))
  unfolding flat_map
  sets-next width l at f k h =
      let n : length (flat_map f (range 0 k)) ≡ width * k = length-flat_map width f h (range 0 k) ∙ ap (λ m. width * m) (length-range 0 k) in
      let e : flat_map f (range 0 (k + 1)) ≡ flat_map f (range 0 k) ++ f k =
      ap (λ m. flat_map f (range 0 m)) (add-one k)
      ∙ ap (flat_map f) (range-next 0 k)
      ∙ flat_map-append f (range 0 k) ((0 + k) ∷ [])
      ∙ ap (λ z. flat_map f (range 0 k) ++ z) (append-nil (f (0 + k)) ∙ ap f (zero-add k)) in
      rw (e, ← n) (sets-append l at (flat_map f (range 0 k)) (f k))

  -- functions that agree on the numbers
  pub flat_map-range-cong : (f g : ℕ → List A) (a n : ℕ) → ((i : ℕ) → a ≤ i → i < a + n → f i ≡ g i) → flat_map f (range a n) ≡ flat_map g (range a n)
  unfolding flat_map range
  flat_map-range-cong f g a zero h = refl
  flat_map-range-cong f g a (suc n) h =
      ap₂ ◌++◌ (h a (omega arith) (omega arith)) (flat_map-range-cong f g (suc a) n (λ i p q. h i (omega arith) (omega arith)))
