-- The book as settling sees it, without its bytes.
use Rattle.std.specs.Prelude.{List, map, ℕ}
use Rattle.integers.specs.Ranges.{range}
use Rattle.wire.specs.Readings.{Reading}
use Rattle.quarters.specs.declared.Calendar.{Calendar}
use Rattle.book.specs.Header.{version_of, calendar_of, point_count, engagement_count, calendar_section, table_section, register_section, reading_section, engagement_section}
use Rattle.book.specs.Tables.{category_at, x_at, y_at}
use Rattle.book.specs.Register.{point_at}
use Rattle.book.specs.Metering.{meter_at}
use Rattle.book.specs.Engagements.{engagement_at}
use Rattle.book.specs.declared.Point.{Point}
use Rattle.book.specs.declared.Engagement.{Engagement}

-- which version it is of; categories by day, X and Y by category, readings by point and quarter-hour of the calendar
pub record Book : Type 0 where
  pub version : ℕ
  pub calendar : Calendar
  pub category : ℕ → ℕ
  pub x : ℕ → ℕ
  pub y : ℕ → ℕ
  pub points : List Point
  pub reading : ℕ → ℕ → Reading
  pub engagements : List Engagement

-- what the bytes say
unfoldable pub book_of : List ℕ → Book
book_of bytes =
    record {
      version = version_of bytes;
      calendar = calendar_of bytes;
      category = category_at (calendar_section bytes);
      x = x_at (table_section bytes);
      y = y_at (table_section bytes);
      points = map (point_at (register_section bytes)) (range 0 (point_count bytes));
      reading = meter_at (calendar_of bytes) (reading_section bytes);
      engagements = map (engagement_at (engagement_section bytes)) (range 0 (engagement_count bytes));
    }
