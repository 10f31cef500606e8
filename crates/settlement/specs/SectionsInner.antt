-- The book of a book's bytes with given engagements: rows of a section, whose length says how many they are.
use Rattle.std.specs.Prelude.{◌≡◌, Bool, List, map, ℕ, ◌*◌, ◌/◌, length, get_or, drop}
use Rattle.std.proofs.Math.Option.{none}
use Rattle.std.specs.Int.Bits.{bit_or}
use Rattle.integers.specs.Ranges.{range}
use Rattle.integers.specs.Sums.{sum_of}
use Rattle.integers.specs.First.{any_of}
use Rattle.book.specs.declared.Engagement.{Engagement}
use Rattle.book.specs.declared.Point.{Point}
use Rattle.quarters.specs.declared.Calendar.{Calendar}
use Rattle.quarters.specs.Quarters.{origin_of}
use Rattle.book.specs.Header.{version_of, calendar_of, point_count, point_width, engagement_width, calendar_section, table_section, register_section, reading_section}
use Rattle.book.specs.Tables.{category_at, x_at, y_at}
use Rattle.book.specs.Register.{point_at}
use Rattle.book.specs.Metering.{meter_at}
use Rattle.book.specs.Engagements.{engagement_at}
use Rattle.book.specs.Book.{Book}
use Rattle.book.specs.Judged.{refusal_of}
use Rattle.volumes.specs.Baseline.{is_on}
use Rattle.volumes.specs.SoundInner.{Sound}
use Rattle.baseline.specs.declared.shown.Shown.{Shown}

-- "Register, P rows of 64 bytes", "Engagements, 16 bytes"
abbrev pub point_count_in : List ℕ → ℕ
point_count_in register = length register / point_width

abbrev pub engagement_count_in : List ℕ → ℕ
engagement_count_in engagements = length engagements / engagement_width

unfoldable pub engagements_in : List ℕ → List Engagement
engagements_in engagements = map (engagement_at engagements) (range 0 (engagement_count_in engagements))

-- "Each engagement quarter-hour" is a row
unfoldable pub row_count_in : List ℕ → ℕ
row_count_in engagements = sum_of (λ e. e.count) (engagements_in engagements)

-- what the bytes say, with these engagements for their own
unfoldable pub book_with : List ℕ → List ℕ → Book
book_with bytes engagements =
    record {
      version = version_of bytes;
      calendar = calendar_of bytes;
      category = category_at (calendar_section bytes);
      x = x_at (table_section bytes);
      y = y_at (table_section bytes);
      points = map (point_at (register_section bytes)) (range 0 (point_count bytes));
      reading = meter_at (calendar_of bytes) (reading_section bytes);
      engagements = engagements_in engagements;
    }

-- these engagements hold one of point p on day d
unfoldable pub engaged_in : List ℕ → ℕ → ℕ → Bool
engaged_in engagements p d = any_of (is_on p d) (engagements_in engagements)

-- what a calendar's categories, a table and a register show of an engagement, with masks of days for the points
unfoldable pub shown_of : Calendar → List ℕ → List ℕ → List ℕ → List ℕ → Engagement → Shown
shown_of c calendar table register masks e =
    let point : Point = point_at register e.point in
    let category : ℕ = category_at calendar e.day in
    record {
      c = c;
      e = e;
      point = point;
      closed = bit_or point.mask (get_or masks e.point 0);
      x = x_at table category;
      y = y_at table category;
    }

-- what they show of engagement i, with the days on which each point has one
unfoldable pub shown_in : List ℕ → List ℕ → List ℕ → ℕ → Shown
shown_in bytes engagements masks i =
    let e : Engagement = engagement_at engagements i in
    let point : Point = point_at (register_section bytes) e.point in
    let category : ℕ = category_at (calendar_section bytes) e.day in
    record {
      c = calendar_of bytes;
      e = e;
      point = point;
      closed = bit_or point.mask (get_or masks e.point 0);
      x = x_at (table_section bytes) category;
      y = y_at (table_section bytes) category;
    }

-- the readings from those of point p on
abbrev pub readings_of : List ℕ → ℕ → List ℕ
readings_of bytes p = drop (4 * origin_of (calendar_of bytes) p) (reading_section bytes)

-- the bytes pass refusals 1 to 7, and with these engagements too they are a sound book
pub record Opened (bytes engagements : List ℕ) : Type 0 where
  pub passed : refusal_of bytes ≡ none
  pub sound : Sound (book_with bytes engagements)

-- the parts of a book that are read of the bytes: its version, its calendar, and its sections but the last
pub record Spread (bytes : List ℕ) (number : ℕ) (c : Calendar) (first second third fourth : List ℕ) : Type 0 where
  pub version : number ≡ version_of bytes
  pub when : c ≡ calendar_of bytes
  pub calendar : first ≡ calendar_section bytes
  pub table : second ≡ table_section bytes
  pub register : third ≡ register_section bytes
  pub readings : fourth ≡ reading_section bytes
