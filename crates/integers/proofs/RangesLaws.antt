-- Numbers in a row: how many there are, which stands where, one more at the end, another start.
use Rattle.std.specs.Prelude.{◌≡◌, length, get_or}
use Rattle.std.proofs.Math.Path.{refl, ap₂}
use Rattle.std.proofs.Common.{ap, ◌∙◌, arith}
use mathlib.Core.List.{List, [], ◌∷◌, ◌++◌, map, Memᴰ, map-append}
use Prim.Native.Nat.{ℕ, zero, suc, ◌+◌, ◌<◌, ◌≤◌}
use Rattle.integers.specs.Ranges.{range}

pub length-range : (a n : ℕ) → length (range a n) ≡ n
unfolding range
length-range a zero = refl
length-range a (suc n) = ap suc (length-range (suc a) n)

pub get_d-range : (a n i d : ℕ) → i < n → get_or (range a n) i d ≡ a + i
unfolding range
get_d-range a zero i d h = absurd (omega arith)
get_d-range a (suc n) zero d h = omega arith
get_d-range a (suc n) (suc i) d h = let e = get_d-range (suc a) n i d (omega arith) in omega (arith, e)

-- one number more, at the end
pub range-next : (a n : ℕ) → range a (suc n) ≡ range a n ++ ((a + n) ∷ [])
unfolding range
range-next a zero = ap (λ m. m ∷ []) (omega arith)
range-next a (suc n) = ap (λ l. a ∷ l) (range-next (suc a) n ∙ ap (λ m. range (suc a) n ++ (m ∷ [])) (omega arith))

module _ {ℓ} {A : Type ℓ} where
  pub map-range-next : (f : ℕ → A) (a n : ℕ) → map f (range a (suc n)) ≡ map f (range a n) ++ (f (a + n) ∷ [])
  map-range-next f a n = ap (map f) (range-next a n) ∙ map-append f (range a n) ((a + n) ∷ [])

  -- functions that agree on the numbers
  pub map-range-cong : (f g : ℕ → A) (a n : ℕ) → ((i : ℕ) → a ≤ i → i < a + n → f i ≡ g i) → map f (range a n) ≡ map g (range a n)
  unfolding range
  map-range-cong f g a zero h = refl
  map-range-cong f g a (suc n) h = ap₂ ◌∷◌ (h a (omega arith) (omega arith)) (map-range-cong f g (suc a) n (λ i p q. h i (omega arith) (omega arith)))

pub range_split : (a m n : ℕ) → range a (m + n) ≡ range a m ++ range (a + m) n
unfolding range
range_split a zero n = let z : 0 + n ≡ n = omega arith in let y : a + 0 ≡ a = omega arith in rw (z, y)
range_split a (suc m) n = let z : suc m + n ≡ suc (m + n) = omega arith in let y : a + suc m ≡ suc a + m = omega arith in rw (z, y) (ap (λ l. a ∷ l) (range_split (suc a) m n))

pub range-more : (a n : ℕ) → range a (n + 1) ≡ range a n ++ ((a + n) ∷ [])
range-more a n = let s : n + 1 ≡ suc n = omega arith in rw s (range-next a n)

-- counted from another start
pub range-shift : {A : Type 0} (f : ℕ → A) (a b n : ℕ) → map (λ k. f (a + k)) (range b n) ≡ map f (range (a + b) n)
unfolding range
range-shift f a b zero = refl
range-shift f a b (suc n) = let e : a + suc b ≡ suc (a + b) = omega arith in ap (λ (l : List _). f (a + b) ∷ l) (range-shift f a (suc b) n ∙ ap (λ (c : ℕ). map f (range c n)) e)

-- the i-th of the values of a function at numbers in a row, and of those from 0 on
pub get_d-map-range : {A : Type 0} (f : ℕ → A) (a n i : ℕ) (d : A) → i < n → get_or (map f (range a n)) i d ≡ f (a + i)
unfolding range
get_d-map-range f a zero i d h = absurd (omega arith)
get_d-map-range f a (suc n) zero d h = ap f (omega arith)
get_d-map-range f a (suc n) (suc i) d h = get_d-map-range f (suc a) n i d (omega arith) ∙ ap f (omega arith)

pub get_d-made : {A : Type 0} (f : ℕ → A) (n i : ℕ) (d : A) → i < n → get_or (map f (range 0 n)) i d ≡ f i
get_d-made f n i d h = get_d-map-range f 0 n i d h ∙ ap f (omega arith)

-- an element that stands in a list is a member
pub get_d-mem {ℓ} : {A : Type ℓ} (l : List A) (i : ℕ) (d : A) → i < length l → Memᴰ (get_or l i d) l
get_d-mem [] i d h = absurd (omega arith)
get_d-mem (a ∷ l) zero d h = Memᴰ.head refl
get_d-mem (a ∷ l) (suc i) d h = Memᴰ.tail (get_d-mem l i d (omega arith))
