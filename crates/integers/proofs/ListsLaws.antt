-- Lists made of lists one behind the other, and places that are stored one after the other.
use Rattle.std.specs.Prelude.{◌≡◌, ℕ, suc, ◌+◌, ◌*◌, ◌<◌, length, get_or, set, drop, replicate}
use Rattle.std.proofs.Math.Path.{refl, sym, ap}
use Rattle.std.proofs.Common.{◌∙◌, add-one, arith, length-append, drop-cons}
use mathlib.Core.List.{List, [], ◌∷◌, ◌++◌, flat_map, append_assoc}
use Rattle.std.proofs.Math.Nat.{mul-zero, mul-suc}
use Rattle.std.proofs.lemmas.List.{length-replicate, replicate-append-replicate, set_at}
use Rattle.std.proofs.Math.Seq.{append_snoc}

module _ {ℓ κ} {A : Type ℓ} {B : Type κ} where
  pub flat_map-append : (f : A → List B) (l m : List A) → flat_map f (l ++ m) ≡ flat_map f l ++ flat_map f m
  unfolding flat_map
  flat_map-append f [] m = refl
  flat_map-append f (a ∷ l) m = ap (λ z. f a ++ z) (flat_map-append f l m) ∙ sym (append_assoc (f a) (flat_map f l) (flat_map f m))

  pub length-flat_map : (n : ℕ) (f : A → List B) → ((a : A) → length (f a) ≡ n) → (l : List A) → length (flat_map f l) ≡ n * length l
  unfolding flat_map
  length-flat_map n f h [] = omega (arith, mul-zero n)
  length-flat_map n f h (a ∷ l) = simp (length-append, h, length-flat_map n f h l) (omega (arith, mul-suc n (length l)))

-- the place behind those that are stored is the next one
pub next-cell : {A : Type 0} (stored l : List A) (i : ℕ) (x : A) → length stored ≡ i → i < length l → set (stored ++ drop i l) i x ≡ stored ++ (x ∷ []) ++ drop (i + 1) l
next-cell stored l i x e h =
    ap (λ m. set (stored ++ m) i x) (drop-cons l i x h)
    ∙ set_at stored (get_or l i x) (drop (suc i) l) x i e
    ∙ sym (append_snoc stored x (drop (suc i) l))
    ∙ rw add-one

-- one place more that holds the same
pub same_next : {A : Type 0} (l : List A) (i : ℕ) (v : A) → i < length l → set (replicate i v ++ drop i l) i v ≡ replicate (i + 1) v ++ drop (i + 1) l
same_next l i v h = next-cell (replicate i v) l i v (length-replicate i v) h ∙ rw (replicate-append-replicate i 1 v)
