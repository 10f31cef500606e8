-- Kinds and their numbers are each other's; no other number has a kind.
use Rattle.std.specs.Prelude.{◌≡◌, refl, true, ℕ, zero, suc, ◌≤◌}
use Rattle.std.proofs.Common.{sym, ap, arith}
use Rattle.std.proofs.Math.Option.{none, some}
use Rattle.kinds.specs.declared.Kind.{Kind}
use Rattle.kinds.specs.declared.Kind.TheVariants.{Toe01, Toe02, Toe03}
use Rattle.kinds.specs.Numbers.{kind_numbered, kind_number, is_kind}

-- the kind of a kind's number
pub kind-numbered : (kind : Kind) → kind_numbered (kind_number kind) ≡ some kind
kind-numbered Toe01 = refl
kind-numbered Toe02 = refl
kind-numbered Toe03 = refl

-- the number of a number's kind
pub number-kind : (n : ℕ) (kind : Kind) → kind_numbered n ≡ some kind → kind_number kind ≡ n
number-kind zero kind e = let z : ◌≡◌ {A = ℕ} 0 1 = cc in absurd (omega arith)
number-kind (suc zero) kind e = let z : Toe01 ≡ kind = cc in sym (ap kind_number z)
number-kind (suc (suc zero)) kind e = let z : Toe02 ≡ kind = cc in sym (ap kind_number z)
number-kind (suc (suc (suc zero))) kind e = let z : Toe03 ≡ kind = cc in sym (ap kind_number z)
number-kind (suc (suc (suc (suc n)))) kind e = let z : ◌≡◌ {A = ℕ} 0 1 = cc in absurd (omega arith)

pub no_kind : (n : ℕ) → (n ≡ 1 → ⊥) → (n ≡ 2 → ⊥) → (n ≡ 3 → ⊥) → kind_numbered n ≡ none
no_kind zero h i j = refl
no_kind (suc zero) h i j = absurd (h refl)
no_kind (suc (suc zero)) h i j = absurd (i refl)
no_kind (suc (suc (suc zero))) h i j = absurd (j refl)
no_kind (suc (suc (suc (suc n)))) h i j = refl

-- no number of a kind is above 3
pub kind-most : (n : ℕ) → is_kind n ≡ true → n ≤ 3
kind-most zero e = omega arith
kind-most (suc zero) e = omega arith
kind-most (suc (suc zero)) e = omega arith
kind-most (suc (suc (suc zero))) e = omega arith
kind-most (suc (suc (suc (suc n)))) e = let z : ◌≡◌ {A = ℕ} 0 1 = cc in absurd (omega arith)
