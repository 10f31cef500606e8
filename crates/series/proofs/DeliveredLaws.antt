-- The calendar and the sections of a book with its delivered volumes are those of the book that its bytes say.
use Rattle.std.specs.Prelude.{◌≡◌, refl, List, ◌∷◌, map, ℕ, zero, suc, replicate}
use Rattle.std.proofs.Common.{ap}
use Rattle.integers.specs.Ranges.{range}
use Rattle.quarters.specs.declared.Calendar.{Calendar}
use Rattle.book.specs.Book.{book_of}
use Rattle.series.specs.SumsInner.{Parts, PartsOf, DeliveredIn}
use Rattle.series.specs.SumsLaws.{parts-of}

pub parts : {bytes volumes register engagements : List ℕ} {c : Calendar} → DeliveredIn bytes volumes → PartsOf bytes c register engagements → Parts c register engagements volumes (book_of bytes)
parts {bytes} {volumes} d p = rw (p.when, p.register, p.engagements) (parts-of bytes volumes d)

-- zeros at the first positions
pub zeros-made : (a n : ℕ) → replicate {A = ℕ} n 0 ≡ map (λ p. 0) (range a n)
unfolding range
zeros-made a zero = refl
zeros-made a (suc n) = ap (λ (l : List ℕ). 0 ∷ l) (zeros-made (suc a) n)
