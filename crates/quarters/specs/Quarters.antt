-- Quarter-hours: how many a day, a month and a calendar have, and where one of them lies (document 01, "The book", "Baseline", "Delivered volume,
-- corrections, series", "The file", with document 02, C-12). Nothing else knows on which day there are how many; what those of a day of 92 or 100 look at is `volumes` `looks_at`.
-- A Calendar is a year, a month, the lead days L, document 01's own term, and the clock: on which of its days the clocks change.
use Rattle.std.specs.Prelude.{Bool, cond, not, ℕ, zero, suc, ◌+◌, ◌-◌, ◌*◌, eqb}
use Rattle.calendar.specs.declared.Clock.{Clock}
use Rattle.calendar.specs.declared.Clock.TheVariants.{Same, Shorter, Longer}
use Rattle.calendar.specs.Dates.{month_length, calendar_days}
use Rattle.quarters.specs.declared.Calendar.{Calendar}

-- "The calendar has N = L + days of the month (Gregorian); day 0 is L days before the 1st; days L and up are settled."
abbrev pub days_of : Calendar → ℕ
days_of c = calendar_days c.year c.month c.lead

-- "by point, by day, 96 signed 32-bit watts"; "A clock-change day has 92 or 100 readings": the quarter-hours of day d, by the clock and in a calendar
unfoldable pub quarters_by : Clock → ℕ → ℕ
quarters_by Same d = 96
quarters_by (Shorter at) d = cond (eqb d at) 92 96
quarters_by (Longer at) d = cond (eqb d at) 100 96

unfoldable pub quarters : Calendar → ℕ → ℕ
quarters c d = quarters_by c.clock d

-- a day with 92 or 100
unfoldable pub is_clock_change : Calendar → ℕ → Bool
is_clock_change c d = not (eqb (quarters c d) 96)

-- "Quarter-hours are counted through the whole calendar", "the quarter-hours that passed": where day d starts, behind those of the days before it,
-- the quarter-hours of the whole calendar, and q of day d
unfoldable pub day_start : Calendar → ℕ → ℕ
day_start c zero = 0
day_start c (suc d) = day_start c d + quarters c d

abbrev pub quarters_of : Calendar → ℕ
quarters_of c = day_start c (days_of c)

abbrev pub in_calendar : Calendar → ℕ → ℕ → ℕ
in_calendar c d q = day_start c d + q

-- "Positions count the quarter-hours that the month has": that of quarter-hour q of day d, the first being 1
unfoldable pub position : Calendar → ℕ → ℕ → ℕ
position c d q = day_start c d - day_start c c.lead + q + 1

-- "each quarter-hour of the month": how many there are, which is the last position
unfoldable pub month_quarters : Calendar → ℕ
month_quarters c = quarters_of c - day_start c c.lead

-- "up to 2,972 in March and 2,980 in October", else "96 times the days of the month": of any month, whose calendar isn't known; `month-quarters` has that it is
-- the same number
unfoldable pub quarters_in_month : ℕ → ℕ → ℕ
quarters_in_month year month =
    cond (eqb month 3) 2972 (cond (eqb month 10) 2980 (96 * month_length year month))

-- "by point, by day": the place among the readings where those of point p start
abbrev pub origin_of : Calendar → ℕ → ℕ
origin_of c p = quarters_of c * p
