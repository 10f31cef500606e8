-- A sheet of the first engagements of a book.
use Rattle.std.specs.Prelude.{List, map, ℕ, ℤ, take}
use Rattle.integers.specs.Ranges.{range}
use Rattle.integers.specs.Sums.{sum_z}
use Rattle.book.specs.Book.{Book}
use Rattle.quarters.specs.Quarters.{month_quarters}
use Rattle.volumes.specs.Sheets.{correction_at}

-- what they make at a position, and at each of the month
unfoldable pub part_at : Book → ℕ → ℕ → ℕ → ℤ
part_at book party i p = sum_z (correction_at book party p) (take i book.engagements)

unfoldable pub sheet_to : Book → ℕ → ℕ → List ℤ
sheet_to book party i = map (part_at book party i) (range 1 (month_quarters book.calendar))
