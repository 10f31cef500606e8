-- Sums over lists, once for any kind of number that adds.
use Rattle.std.specs.Prelude.{◌≡◌, Bool, ℕ, ◌+◌}
use Rattle.std.proofs.Math.Path.{refl, sym, ap, ap₂}
use Rattle.std.proofs.Common.{◌∙◌, eqb-true, arith}
use Rattle.std.proofs.Math.Bool.{true, false, cond}
use mathlib.Core.List.{List, [], ◌∷◌, ◌++◌, map, flat_map, Memᴰ}
use Rattle.std.proofs.Math.Dec.{eqb}
use Rattle.integers.specs.Counts.{times}
use Rattle.integers.specs.Sums.{Adding, sum_by}

module _ {M : Type 0} (S : Adding M) where
  pub right : (a : M) → S.plus a S.none ≡ a
  right a = S.turn a S.none ∙ S.left a

  -- four summands regrouped
  pub swap_four : (a b c d : M) → S.plus (S.plus a b) (S.plus c d) ≡ S.plus (S.plus a c) (S.plus b d)
  swap_four a b c d =
      S.regroup a b (S.plus c d)
      ∙ ap (S.plus a) (sym (S.regroup b c d) ∙ ap (λ x. S.plus x d) (S.turn b c) ∙ S.regroup c b d)
      ∙ sym (S.regroup a c (S.plus b d))

module _ {ℓ} {M : Type 0} {A : Type ℓ} (S : Adding M) where
  pub sum-zero : (l : List A) → sum_by S (λ a. S.none) l ≡ S.none
  unfolding sum_by
  sum-zero [] = refl
  sum-zero (a ∷ l) = S.left (sum_by S (λ b. S.none) l) ∙ sum-zero l

  pub sum-add : (f g : A → M) (l : List A) → sum_by S (λ a. S.plus (f a) (g a)) l ≡ S.plus (sum_by S f l) (sum_by S g l)
  unfolding sum_by
  sum-add f g [] = sym (S.left S.none)
  sum-add f g (a ∷ l) = ap (S.plus (S.plus (f a) (g a))) (sum-add f g l) ∙ swap_four S (f a) (g a) (sum_by S f l) (sum_by S g l)

  -- functions that agree on the list's elements
  pub sum-cong : (f g : A → M) (l : List A) → ((a : A) → Memᴰ a l → f a ≡ g a) → sum_by S f l ≡ sum_by S g l
  unfolding sum_by
  sum-cong f g [] h = refl
  sum-cong f g (a ∷ l) h = ap₂ S.plus (h a (Memᴰ.head refl)) (sum-cong f g l (λ b m. h b (Memᴰ.tail m)))

  -- functions that agree everywhere
  pub sum-all : (f g : A → M) (l : List A) → ((a : A) → f a ≡ g a) → sum_by S f l ≡ sum_by S g l
  sum-all f g l h = sum-cong f g l (λ a _. h a)

  pub sum-append : (f : A → M) (l m : List A) → sum_by S f (l ++ m) ≡ S.plus (sum_by S f l) (sum_by S f m)
  unfolding sum_by
  sum-append f [] m = sym (S.left (sum_by S f m))
  sum-append f (a ∷ l) m = ap (S.plus (f a)) (sum-append f l m) ∙ sym (S.regroup (f a) (sum_by S f l) (sum_by S f m))

  -- a test that does not look at the element goes out of the sum
  pub sum-if : (b : Bool) (f : A → M) (l : List A) → sum_by S (λ a. cond b (f a) S.none) l ≡ cond b (sum_by S f l) S.none
  sum-if true f l = refl
  sum-if false f l = sum-zero l

module _ {ℓ κ} {M : Type 0} {A : Type ℓ} {B : Type κ} (S : Adding M) where
  -- a double sum in either order
  pub sum-swap : (w : A → B → M) (l : List A) (m : List B) → sum_by S (λ a. sum_by S (λ b. w a b) m) l ≡ sum_by S (λ b. sum_by S (λ a. w a b) l) m
  unfolding sum_by
  sum-swap w [] m = sym (sum-zero S m)
  sum-swap w (a ∷ l) m = ap (S.plus (sum_by S (λ b. w a b) m)) (sum-swap w l m) ∙ sym (sum-add S (λ b. w a b) (λ b. sum_by S (λ a. w a b) l) m)

  pub sum-map : (f : B → M) (g : A → B) (l : List A) → sum_by S f (map g l) ≡ sum_by S (λ a. f (g a)) l
  unfolding sum_by
  sum-map f g [] = refl
  sum-map f g (a ∷ l) = ap (S.plus (f (g a))) (sum-map f g l)

  pub sum-flat_map : (f : B → M) (g : A → List B) (l : List A) → sum_by S f (flat_map g l) ≡ sum_by S (λ a. sum_by S f (g a)) l
  unfolding sum_by flat_map
  sum-flat_map f g [] = refl
  sum-flat_map f g (a ∷ l) = sum-append S f (g a) (flat_map g l) ∙ ap (S.plus (sum_by S f (g a))) (sum-flat_map f g l)

-- one place's sum: of a number that does not stand in the list nothing, of one that stands once its value
module _ {M : Type 0} (S : Adding M) (s : ℕ) (f : ℕ → M) where
  pub sum-absent : (l : List ℕ) → times s l ≡ 0 → sum_by S (λ x. cond (eqb s x) (f x) S.none) l ≡ S.none
  unfolding sum_by times
  sum-absent [] h = refl
  sum-absent (q ∷ l) h = go (eqb s q) h (sum-absent l)
    where
      go : (b : Bool) → cond b 1 0 + times s l ≡ 0 → (times s l ≡ 0 → sum_by S (λ x. cond (eqb s x) (f x) S.none) l ≡ S.none) → S.plus (cond b (f q) S.none) (sum_by S (λ x. cond (eqb s x) (f x) S.none) l) ≡ S.none
      go true e rest = absurd (omega arith)
      go false e rest = S.left _ ∙ rest (omega arith)

  pub sum-once : (l : List ℕ) → times s l ≡ 1 → sum_by S (λ x. cond (eqb s x) (f x) S.none) l ≡ f s
  unfolding sum_by times
  sum-once [] h = absurd (omega arith)
  sum-once (q ∷ l) h = go (eqb s q) refl h (sum-once l)
    where
      go : (b : Bool) → eqb s q ≡ b → cond b 1 0 + times s l ≡ 1 → (times s l ≡ 1 → sum_by S (λ x. cond (eqb s x) (f x) S.none) l ≡ f s) → S.plus (cond b (f q) S.none) (sum_by S (λ x. cond (eqb s x) (f x) S.none) l) ≡ f s
      go true t e rest = ap (S.plus (f q)) (sum-absent l (omega arith)) ∙ right S (f q) ∙ ap f (sym (eqb-true s q t))
      go false t e rest = S.left _ ∙ rest (omega arith)
