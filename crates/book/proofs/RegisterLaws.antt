-- What the register's code finds at a place is what the definitions say of the row there.
use Rattle.std.specs.Prelude.{◌≡◌, refl, ℕ, zero, suc}
use Rattle.book.specs.Register.{situation_of, takers_of, supply_of, method_of}
use Rattle.book.specs.declared.Situation.TheVariants.{NetInjector}
use Rattle.book.specs.declared.Supply.TheVariants.{Injection}
use Rattle.book.specs.declared.Method.TheVariants.{Adjusted}
use Rattle.book.specs.declared.Takers.TheVariants.{Refused}

-- the last case of each byte
pub supply-else : (n : ℕ) → (n ≡ 0 → ⊥) → Injection ≡ supply_of n
supply-else zero h = absurd (h refl)
supply-else (suc n) h = refl

pub method-else : (n : ℕ) → (n ≡ 0 → ⊥) → (n ≡ 1 → ⊥) → Adjusted ≡ method_of n
method-else zero h i = absurd (h refl)
method-else (suc zero) h i = absurd (i refl)
method-else (suc (suc n)) h i = refl

pub situation-else : (n : ℕ) → (n ≡ 0 → ⊥) → (n ≡ 1 → ⊥) → (n ≡ 2 → ⊥) → NetInjector ≡ situation_of n
situation-else zero h i j = absurd (h refl)
situation-else (suc zero) h i j = absurd (i refl)
situation-else (suc (suc zero)) h i j = absurd (j refl)
situation-else (suc (suc (suc n))) h i j = refl

pub takers-else : (n : ℕ) → (n ≡ 0 → ⊥) → (n ≡ 1 → ⊥) → (n ≡ 2 → ⊥) → (n ≡ 3 → ⊥) → Refused ≡ takers_of n
takers-else zero h i j k = absurd (h refl)
takers-else (suc zero) h i j k = absurd (i refl)
takers-else (suc (suc zero)) h i j k = absurd (j refl)
takers-else (suc (suc (suc zero))) h i j k = absurd (k refl)
takers-else (suc (suc (suc (suc n)))) h i j k = refl
