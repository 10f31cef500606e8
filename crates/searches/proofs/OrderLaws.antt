-- The first row of a section stands behind none; any other behind the one before it.
use Rattle.std.specs.Prelude.{◌≡◌, refl, false, not, ◌||◌, List, ℕ, zero, suc, ◌-◌, ◌<◌, leb}
use Rattle.std.proofs.Common.{arith}
use Rattle.book.specs.Engagements.{engagement_row, rises, overlaps, out_of_order}
use Rattle.book.specs.Register.{register_row, delivery_in, not_above}

pub first_row : (engagements : List ℕ) (i : ℕ) → i ≡ 0 → out_of_order engagements i ≡ false
first_row engagements zero h = refl
first_row engagements (suc i) h = absurd (omega arith)

pub later_row : (engagements : List ℕ) (i : ℕ) → 0 < i → out_of_order engagements i ≡ (not (rises (engagement_row engagements (i - 1)) (engagement_row engagements i)) || overlaps (engagement_row engagements (i - 1)) (engagement_row engagements i))
later_row engagements zero h = absurd (omega arith)
later_row engagements (suc i) h = let e : suc i - 1 ≡ i = omega arith in rw e

pub first_point : (register : List ℕ) (i : ℕ) → i ≡ 0 → not_above register i ≡ false
first_point register zero h = refl
first_point register (suc i) h = absurd (omega arith)

pub later_point : (register : List ℕ) (i : ℕ) → 0 < i → not_above register i ≡ leb (delivery_in (register_row register i)) (delivery_in (register_row register (i - 1)))
later_point register zero h = absurd (omega arith)
later_point register (suc i) h = let e : suc i - 1 ≡ i = omega arith in rw e

-- the same, of a row that isn't the first
pub order-at : (engagements : List ℕ) (i : ℕ) → (i ≡ 0 → ⊥) → out_of_order engagements i ≡ (not (rises (engagement_row engagements (i - 1)) (engagement_row engagements i)) || overlaps (engagement_row engagements (i - 1)) (engagement_row engagements i))
order-at engagements zero h = absurd (h refl)
order-at engagements (suc i) h = later_row engagements (suc i) (omega arith)

pub above_at : (register : List ℕ) (i : ℕ) → (i ≡ 0 → ⊥) → not_above register i ≡ leb (delivery_in (register_row register i)) (delivery_in (register_row register (i - 1)))
above_at register zero h = absurd (h refl)
above_at register (suc i) h = later_point register (suc i) (omega arith)
