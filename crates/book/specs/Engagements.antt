-- Document 01, "The book", section 5: the engagements.
use Rattle.std.specs.Prelude.{Bool, false, not, ◌&&◌, ◌||◌, List, ℕ, zero, suc, ◌+◌, ◌^◌, eqb, leb, ltb}
use Rattle.wire.specs.Numbers.{number_at}
use Rattle.quarters.specs.declared.Calendar.{Calendar}
use Rattle.quarters.specs.Quarters.{days_of, quarters}
use Rattle.book.specs.Header.{between, engagement_width, row_at}
use Rattle.book.specs.declared.Direction.{Direction}
use Rattle.book.specs.declared.Direction.TheVariants.{Up, Down}
use Rattle.book.specs.declared.Engagement.{Engagement}

-- "direction (0 up, 1 down)"
abbrev pub direction_of : ℕ → Direction
direction_of zero = Up
direction_of (suc n) = Down

-- "16 bytes: point index u16 .., day, first quarter-hour .., count .., direction .., notice .., zero (each u8), requested watts u32 .., zero u32."
abbrev pub point_in : List ℕ → ℕ
point_in row = number_at row 0 2

abbrev pub day_in : List ℕ → ℕ
day_in row = number_at row 2 1

abbrev pub first_in : List ℕ → ℕ
first_in row = number_at row 3 1

abbrev pub count_in : List ℕ → ℕ
count_in row = number_at row 4 1

abbrev pub direction_in : List ℕ → ℕ
direction_in row = number_at row 5 1

-- notice is document 01's own term: quarter-hours before the start
abbrev pub notice_in : List ℕ → ℕ
notice_in row = number_at row 6 1

abbrev pub requested_in : List ℕ → ℕ
requested_in row = number_at row 8 4

-- the engagement that a row describes
abbrev pub engagement_of : List ℕ → Engagement
engagement_of row =
    record {
      point = point_in row;
      day = day_in row;
      first = first_in row;
      count = count_in row;
      direction = direction_of (direction_in row);
      notice = notice_in row;
      requested = requested_in row;
    }

abbrev pub engagement_row : List ℕ → ℕ → List ℕ
engagement_row engagements i = row_at engagement_width engagements i

abbrev pub engagement_at : List ℕ → ℕ → Engagement
engagement_at engagements i = engagement_of (engagement_row engagements i)

-- "point index u16 (below P)", "Days are settled days.", "count (1 or more ..)"; by the day's number of quarter-hours "first is below that number, and first + count
-- at most it"
unfoldable pub place_good : Calendar → ℕ → List ℕ → Bool
place_good c points row =
    ltb (point_in row) points
    && (leb c.lead (day_in row)
    && (ltb (day_in row) (days_of c)
    && (ltb (first_in row) (quarters c (day_in row))
    && (leb 1 (count_in row) && leb (first_in row + count_in row) (quarters c (day_in row))))))

-- "direction (0 up, 1 down), notice (0 to 96), zero (each u8), requested watts u32 (1 to 10^9), zero u32"
unfoldable pub terms_good : List ℕ → Bool
terms_good row =
    leb (direction_in row) 1
    && (leb (notice_in row) 96
    && (eqb (number_at row 7 1) 0
    && (between 1 (10 ^ 9) (requested_in row) && eqb (number_at row 12 4) 0)))

-- "Rows rise by point, day, first": b is above a
abbrev pub rises : List ℕ → List ℕ → Bool
rises a b =
    ltb (point_in a) (point_in b)
    || (eqb (point_in a) (point_in b)
    && (ltb (day_in a) (day_in b) || (eqb (day_in a) (day_in b) && ltb (first_in a) (first_in b))))

-- "rows of one point and day don't overlap": b starts before a of the same point and day ends
abbrev pub overlaps : List ℕ → List ℕ → Bool
overlaps a b = eqb (point_in a) (point_in b) && (eqb (day_in a) (day_in b) && ltb (first_in b) (first_in a + count_in a))

-- row i does not follow the row before it
abbrev pub out_of_order : List ℕ → ℕ → Bool
out_of_order engagements zero = false
out_of_order engagements (suc i) =
    not (rises (engagement_row engagements i) (engagement_row engagements (suc i))) || overlaps (engagement_row engagements i) (engagement_row engagements (suc i))

-- "first bad engagement (of two, the later)": by its own fields, or by the row before it
unfoldable pub bad_engagement : Calendar → ℕ → List ℕ → ℕ → Bool
bad_engagement c points engagements i =
    not (place_good c points (engagement_row engagements i) && terms_good (engagement_row engagements i)) || out_of_order engagements i
