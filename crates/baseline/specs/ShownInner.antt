-- A book as its sections show it, and an engagement that fits it.
use Rattle.std.specs.Prelude.{◌≡◌, true, false, Option, Some, None, cond, ◌||◌, List, map, ℕ, ◌+◌, ◌-◌, ◌*◌, ◌≤◌, ◌<◌, leb, length, Bool, not, ◌&&◌, eqb, get_or}
use Rattle.integers.specs.Ranges.{range}
use Rattle.integers.proofs.ZLaws.{Over}
use Rattle.wire.specs.Readings.{Reading, reading_at}
use Rattle.book.specs.declared.Engagement.{Engagement}
use Rattle.quarters.specs.Quarters.{days_of, quarters, quarters_of, is_clock_change}
use Rattle.book.specs.Tables.{category_at}
use Rattle.book.specs.Book.{Book}
use Rattle.book.specs.Register.{excludes}
use Rattle.volumes.specs.Baseline.{point_of, engaged, eligible, x_of, y_of, day_sum}
use Rattle.volumes.specs.SoundInner.{XOfY}
use Rattle.baseline.specs.declared.shown.Shown.{Shown}
use Rattle.quarters.specs.QuartersInner.{Ranged}
use Rattle.wire.specs.ReadingsInner.{raise}

-- the calendar's categories and the point's readings are those of a book; the point, its closed days, X and Y are those of the engagement
pub record Shows (shown : Shown) (calendar readings : List ℕ) (book : Book) : Type 0 where
  pub when : book.calendar ≡ shown.c
  pub category : (d : ℕ) → book.category d ≡ category_at calendar d
  pub reading : (k : ℕ) → book.reading shown.e.point k ≡ reading_at readings k
  pub owner : point_of book shown.e ≡ shown.point
  pub closed : (d : ℕ) → excludes shown.closed d ≡ (excludes shown.point.mask d || engaged book shown.e.point d)
  pub takes : shown.x ≡ x_of book shown.e
  pub wants : shown.y ≡ y_of book shown.e

-- the engagement lies in the calendar, and each of its quarter-hours has a reading; X and Y are in range
pub record Fits (shown : Shown) (calendar readings : List ℕ) : Type 0 where
  pub ranged : Ranged shown.c
  pub days : length calendar ≡ days_of shown.c
  pub day : shown.e.day < days_of shown.c
  pub quarter : shown.e.first + shown.e.count ≤ quarters shown.c shown.e.day
  pub some : 1 ≤ shown.e.count
  pub soon : shown.e.notice ≤ 96
  pub room : 4 * quarters_of shown.c ≤ length readings
  pub x_of_y : XOfY shown.x shown.y

-- the reading n quarter-hours before quarter-hour q
abbrev pub before_in : List ℕ → ℕ → ℕ → Reading
before_in readings q n = cond (leb n q) (reading_at readings (q - n)) None

-- the 12 readings from 24 before quarter-hour q
abbrev pub window_in : List ℕ → ℕ → List Reading
window_in readings q = map (λ i. before_in readings q (24 - i)) (range 0 12)

-- the day's category is A's, the day isn't closed, and the clocks don't change on it
abbrev pub alike : List ℕ → Shown → ℕ → Bool
alike calendar shown d =
    eqb (get_or calendar d 0) (get_or calendar shown.e.day 0)
    && (not (excludes shown.closed d) && not (is_clock_change shown.c d))

-- the sum of day d, raised, where the day is eligible
abbrev pub Refers : Book → Engagement → ℕ → Option ℕ → Type 0
Refers book e d (Some sum) = (eligible book e d ≡ true) × Over (raise * e.count) (day_sum book e d) sum
Refers book e d None = eligible book e d ≡ false
