-- Sums over lists, with their laws proved once for any kind of number that adds: ℕ and ℤ are the two that are used.
use Rattle.std.specs.Prelude.{◌≡◌, List, [], ◌∷◌, ℕ, ◌+◌, ℤ, pos, ◌+ℤ◌}
use Rattle.std.proofs.Common.{zero-add, add_assoc, add_comm}
use Rattle.std.proofs.Math.IntN.{+ℤ_idl, +ℤ_assoc, +ℤ_comm}

-- numbers that add: a zero, a sum, and the three laws that a list's sum needs
pub record Adding (M : Type 0) : Type 0 where
  pub none : M
  pub plus : M → M → M
  pub left : (a : M) → plus none a ≡ a
  pub regroup : (a b c : M) → plus (plus a b) c ≡ plus a (plus b c)
  pub turn : (a b : M) → plus a b ≡ plus b a

abbrev pub naturals : Adding ℕ
naturals = record { none = 0; plus = ◌+◌; left = zero-add; regroup = add_assoc; turn = add_comm }

abbrev pub integers : Adding ℤ
integers = record { none = pos 0; plus = ◌+ℤ◌; left = +ℤ_idl; regroup = +ℤ_assoc; turn = +ℤ_comm }

-- the sum of f over a list
unfoldable pub sum_by {ℓ} : {M : Type 0} {A : Type ℓ} → Adding M → (A → M) → List A → M
sum_by S f [] = S.none
sum_by S f (a ∷ l) = S.plus (f a) (sum_by S f l)

-- the same in ℕ, and in ℤ
abbrev pub sum_of {ℓ} : {A : Type ℓ} → (A → ℕ) → List A → ℕ
sum_of f l = sum_by naturals f l

abbrev pub sum_z {ℓ} : {A : Type ℓ} → (A → ℤ) → List A → ℤ
sum_z f l = sum_by integers f l
