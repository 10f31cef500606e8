-- The instant of a moment, its offset taken off.
use Rattle.std.specs.Prelude.{ℕ, ◌+◌, ◌-◌, ◌*◌}
use Rattle.calendar.specs.Dates.{day_number}
use Rattle.moments.specs.declared.Moment.{Moment}

-- milliseconds from the start of day 0, of a day number and a time of that day
abbrev pub millis : ℕ → ℕ → ℕ → ℕ → ℕ → ℕ
millis days hour minute second milli = (((days * 24 + hour) * 60 + minute) * 60 + second) * 1000 + milli

-- what the clock shows, and the instant, "its offset taken off" (1 and 2 hours are less than a day, so nothing is cut off)
unfoldable pub clock : Moment → ℕ
clock m = millis (day_number m.year m.month m.day) m.hour m.minute m.second m.milli

unfoldable pub instant : Moment → ℕ
instant m = clock m - m.offset * 3600000
