-- What the engagements' code finds at a place is what the definitions say of the row there.
use Rattle.std.specs.Prelude.{◌≡◌, refl, ℕ, zero, suc}
use Rattle.book.specs.Engagements.{direction_of}
use Rattle.book.specs.declared.Direction.TheVariants.{Down}

pub direction-else : (n : ℕ) → (n ≡ 0 → ⊥) → Down ≡ direction_of n
direction-else zero h = absurd (h refl)
direction-else (suc n) h = refl
