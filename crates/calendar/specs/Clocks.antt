-- The clock of a calendar: the one day, if any, on which the clocks change (document 02, C-12).
use Rattle.std.specs.Prelude.{Bool, cond, ◌&&◌, ℕ, ◌+◌, ◌-◌, leb, ltb}
use Rattle.calendar.specs.declared.Clock.{Clock}
use Rattle.calendar.specs.declared.Clock.TheVariants.{Same, Shorter, Longer}
use Rattle.calendar.specs.Dates.{day_number, march_sunday, october_sunday, calendar_days}

-- "day 0 is L days before the 1st": of a year, month and lead, whether the calendar holds the day of that number, and as which of its days
abbrev pub holds_day : ℕ → ℕ → ℕ → ℕ → Bool
holds_day year month lead number =
    leb (day_number year month 1) (number + lead)
    && ltb (number + lead) (day_number year month 1 + calendar_days year month lead)

abbrev pub day_of : ℕ → ℕ → ℕ → ℕ → ℕ
day_of year month lead number = number + lead - day_number year month 1

-- on which day of the calendar of a year, month and lead the clocks go forward, "the last Sunday of March", or back, "that of October".
-- The month's own year is enough: a calendar holds no such day of another year (`march-of-any-year`, `october-of-any-year`)
unfoldable pub clock_of : ℕ → ℕ → ℕ → Clock
clock_of year month lead =
    cond
    (holds_day year month lead (march_sunday year))
    (Shorter (day_of year month lead (march_sunday year)))
    (cond
    (holds_day year month lead (october_sunday year))
    (Longer (day_of year month lead (october_sunday year)))
    Same)
