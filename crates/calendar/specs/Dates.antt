-- Dates: lengths of months, day numbers, weekdays, last Sundays, clock-change days, offsets (document 01, "The book" and "The file").
use Rattle.std.specs.Prelude.{◌≡◌, Bool, cond, not, ◌&&◌, ◌||◌, List, [], ◌∷◌, ℕ, zero, suc, pred, ◌+◌, ◌/◌, ◌%◌, ◌≤◌, eqb, leb, ltb, get_or}
use Rattle.integers.specs.Running.{up_to}

-- 4 divides a leap year; where 100 divides it too, 400 does
unfoldable pub leap : ℕ → Bool
leap year = eqb (year % 4) 0 && (not (eqb (year % 100) 0) || eqb (year % 400) 0)

-- "days of the month (Gregorian)", 0 where there is no such month;
-- "outside February a month m is to get 30 + ((m + m / 8) mod 2) days, the division rounded down"
unfoldable pub month_length : ℕ → ℕ → ℕ
month_length year month =
    cond
    (leb 1 month && leb month 12)
    (cond (eqb month 2) (cond (leap year) 29 28) (30 + (month + month / 8) % 2))
    0

-- "a written-out table": the months' lengths, at 1 to 12, in a leap year or in another
abbrev pub lengths : Bool → List ℕ
lengths in_leap = 0 ∷ 31 ∷ cond in_leap 29 28 ∷ 31 ∷ 30 ∷ 31 ∷ 30 ∷ 31 ∷ 31 ∷ 30 ∷ 31 ∷ 30 ∷ 31 ∷ []

-- "For all twelve months, leap year or not, the lengths are to be shown equal to a written-out table, and no answer changes":
-- the latter is of every number, a month's or not
pub record MonthLengths : Type 0 where
  pub lengths_as_listed : (year month : ℕ) → 1 ≤ month → month ≤ 12 → month_length year month ≡ get_or (lengths (leap year)) month 0
  pub no_answer_changes : (year month : ℕ) → month_length year month ≡ get_or (lengths (leap year)) month 0

unfoldable pub year_length : ℕ → ℕ
year_length year = up_to (month_length year) 12

-- the days of the years 1 up to a year, and those of a year's months up to a month, itself left out
abbrev pub days_before_year : ℕ → ℕ
days_before_year year = up_to year_length (pred year)

abbrev pub days_before_month : ℕ → ℕ → ℕ
days_before_month year month = up_to (month_length year) (pred month)

-- days are counted from 1 January of year 1, a Monday, which is day 1
unfoldable pub day_number : ℕ → ℕ → ℕ → ℕ
day_number year month day = days_before_year year + days_before_month year month + day

-- 0 Sunday, 1 Monday, .., 6 Saturday
unfoldable pub weekday : ℕ → ℕ → ℕ → ℕ
weekday year month day = day_number year month day % 7

-- the last Sunday of a month up to a day of it, 0 where there is none
unfoldable pub sunday_up_to : ℕ → ℕ → ℕ → ℕ
sunday_up_to year month zero = 0
sunday_up_to year month (suc day) =
    cond (eqb (weekday year month (suc day)) 0) (suc day) (sunday_up_to year month day)

-- "the last Sunday of March", of October
unfoldable pub last_sunday : ℕ → ℕ → ℕ
last_sunday year month = sunday_up_to year month (month_length year month)

-- the numbers of the two days on which a year's clocks change
unfoldable pub march_sunday : ℕ → ℕ
march_sunday year = day_number year 3 (last_sunday year 3)

unfoldable pub october_sunday : ℕ → ℕ
october_sunday year = day_number year 10 (last_sunday year 10)

-- "Offset +02:00 from the last Sunday of March to that of October, else +01:00": in hours, of the date's noon
unfoldable pub offset_hours : ℕ → ℕ → ℕ → ℕ
offset_hours year month day =
    cond
    (leb (march_sunday year) (day_number year month day) && ltb (day_number year month day) (october_sunday year))
    2
    1

-- "The calendar has N = L + days of the month": of a year, month and lead
unfoldable pub calendar_days : ℕ → ℕ → ℕ → ℕ
calendar_days year month lead = lead + month_length year month

-- the month after a month
unfoldable pub next_year : ℕ → ℕ → ℕ
next_year year month = cond (eqb month 12) (year + 1) year

unfoldable pub next_month : ℕ → ℕ
next_month month = cond (eqb month 12) 1 (month + 1)
