-- A list ranked by falling numbers, and the sum of its largest.
use Rattle.std.specs.Prelude.{cond, List, [], ◌∷◌, ℤ}
use Rattle.std.specs.Int.Signed.{le_z}

-- a goes before the first that is no greater: of equal ones that which stood first stays first
unfoldable pub insert {ℓ} : {A : Type ℓ} → (A → ℤ) → A → List A → List A
insert key a [] = a ∷ []
insert key a (b ∷ l) = cond (le_z (key b) (key a)) (a ∷ b ∷ l) (b ∷ insert key a l)

unfoldable pub ranked {ℓ} : {A : Type ℓ} → (A → ℤ) → List A → List A
ranked key [] = []
ranked key (a ∷ l) = insert key a (ranked key l)
