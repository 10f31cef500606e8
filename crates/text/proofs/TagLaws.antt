-- A list begins with a tag exactly where it is the tag and something more.
use Rattle.std.specs.Prelude.{◌≡◌, refl, Bool, true, false, ◌&&◌, List, [], ◌∷◌, ◌++◌, ℕ, ◌+◌, ◌-◌, ◌≤◌, ◌<◌, length, take, drop, get_or, eqb}
use Rattle.std.proofs.Common.{sym, ap, ◌∙◌, length-append, length-drop, drop_of_length-le, take_all, arith, eq-eqb, ne_eqb, eqb-true, add-one, drop-cons}
use Rattle.std.proofs.Math.Bool.{and_assoc}
use Rattle.text.specs.Tag.{begins}

pub begins-append : (t rest : List ℕ) → begins t (t ++ rest) ≡ true
unfolding begins
begins-append [] rest = refl
begins-append (t ∷ ts) rest = rw (eq-eqb t t refl) (begins-append ts rest)

pub begins-split : (t s : List ℕ) → begins t s ≡ true → s ≡ t ++ drop (length t) s
unfolding begins
begins-split [] s e = refl
begins-split (t ∷ ts) [] e = let z : ◌≡◌ {A = ℕ} 0 1 = cc in absurd (omega arith)
begins-split (t ∷ ts) (x ∷ s) e = go (eqb x t) refl e (begins-split ts s)
  where
    go : (b : Bool) → eqb x t ≡ b → (b && begins ts s) ≡ true → (begins ts s ≡ true → s ≡ ts ++ drop (length ts) s) → x ∷ s ≡ t ∷ (ts ++ drop (length ts) s)
    go true f e r = ap (λ (y : ℕ). y ∷ s) (eqb-true x t f) ∙ ap (λ (l : List ℕ). t ∷ l) (r e)
    go false f e r = let z : ◌≡◌ {A = ℕ} 0 1 = cc in absurd (omega arith)

pub begins-length : (t s : List ℕ) → begins t s ≡ true → length t ≤ length s
begins-length t s e = omega (arith, ap length (begins-split t s e), length-append t (drop (length t) s))

-- a tag of two parts
pub begins-both : (a b s : List ℕ) → begins (a ++ b) s ≡ (begins a s && begins b (drop (length a) s))
unfolding begins
begins-both [] b s = refl
begins-both (t ∷ a) b [] = refl
begins-both (t ∷ a) b (x ∷ s) = ap (λ (r : Bool). eqb x t && r) (begins-both a b s) ∙ sym (and_assoc (eqb x t) (begins a s) (begins b (drop (length a) s)))

-- ---- what a loop over a tag goes by: no room for it, and one byte on

-- the part of s from a place to its end
pub to_end : (s : List ℕ) (at : ℕ) → take (length s - at) (drop at s) ≡ drop at s
to_end s at = take_all (length s - at) (drop at s) (omega (arith, length-drop at s))

-- behind the end only the empty tag begins
pub begins-outside : (t s : List ℕ) (at : ℕ) → length s < at → begins t (drop at s) ≡ eqb (length t) 0
unfolding begins
begins-outside [] s at h = refl
begins-outside (t ∷ ts) s at h = rw (drop_of_length-le s {i = at} (omega arith)) (sym (ne_eqb (length (t ∷ ts)) 0 (λ e. omega arith)))

pub begins-short : (t s : List ℕ) → length s < length t → begins t s ≡ false
begins-short t s h = go (begins t s) refl
  where
    go : (b : Bool) → begins t s ≡ b → begins t s ≡ false
    go true e = absurd (omega (arith, begins-length t s e))
    go false e = e

-- where less than a tag is left, only the empty one begins
pub begins-no-room : (s t : List ℕ) (p : ℕ) → length s < p + length t → begins t (drop p s) ≡ eqb (length t) 0
unfolding begins
begins-no-room s [] p h = refl
begins-no-room s (x ∷ t) p h = begins-short (x ∷ t) (drop p s) (omega (arith, length-drop p s)) ∙ sym (ne_eqb (length (x ∷ t)) 0 (λ e. omega arith))

module _ (s t : List ℕ) (p i : ℕ) where
  pub begins-end : length t ≤ i → begins (drop i t) (drop p s) ≡ true
  unfolding begins
  begins-end h = rw (drop_of_length-le t {i = i} h)

  pub begins-step : i < length t → p < length s → begins (drop i t) (drop p s) ≡ (eqb (get_or s p 0) (get_or t i 0) && begins (drop (i + 1) t) (drop (p + 1) s))
  unfolding begins
  begins-step h k = rw (add-one, add-one, drop-cons t i 0 h, drop-cons s p 0 k)

-- the same where list and tag are looked at from the same place on
module _ (s t : List ℕ) (i : ℕ) where
  pub aligned-end : length t ≤ i → begins (drop i t) (drop i s) ≡ true
  aligned-end h = begins-end s t i i h

  pub aligned-step : i < length t → i < length s → begins (drop i t) (drop i s) ≡ (eqb (get_or s i 0) (get_or t i 0) && begins (drop (i + 1) t) (drop (i + 1) s))
  aligned-step h k = begins-step s t i i h k

-- the same, as the check cites them
pub ruleset tags = (to_end, begins-outside, begins-short, aligned-end, aligned-step, and_assoc)
