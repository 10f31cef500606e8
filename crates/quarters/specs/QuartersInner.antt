-- Cells of a month, the calendars that a header may have, and bounds that code needs.
use Rattle.std.specs.Prelude.{◌≡◌, ℕ, ◌-◌, ◌*◌, ◌≤◌}
use Rattle.calendar.specs.Clocks.{clock_of}
use Rattle.quarters.specs.declared.Calendar.{Calendar}
use Rattle.quarters.specs.Quarters.{position}

-- the cell of quarter-hour q of day d: positions are counted from 1, cells from 0
abbrev pub cell_of : Calendar → ℕ → ℕ → ℕ
cell_of c d q = position c d q - 1

-- the years, months and lead days that a header may have, with their clock
pub record Ranged (c : Calendar) : Type 0 where
  pub from : 2018 ≤ c.year
  pub to : c.year ≤ 2099
  pub january : 1 ≤ c.month
  pub december : c.month ≤ 12
  pub some : 1 ≤ c.lead
  pub few : c.lead ≤ 33
  pub clock : c.clock ≡ clock_of c.year c.month c.lead

-- what a day has on which the clocks don't change, and so every reference day
abbrev pub usual_day : ℕ
usual_day = 96

-- no day, no month and no calendar has more quarter-hours
abbrev pub longest_day : ℕ
longest_day = 100

abbrev pub longest_month : ℕ
longest_month = 2980

abbrev pub longest_calendar : ℕ
longest_calendar = 6148

-- no book has more settlement rows: 512 engagements of a longest day
abbrev pub most_rows : ℕ
most_rows = 512 * longest_day

-- no book has more bytes of readings: 4 for each of 256 points and a longest calendar
abbrev pub most_reading_bytes : ℕ
most_reading_bytes = 4 * longest_calendar * 256

-- no point's readings start farther on: 255 longest calendars are fewer
abbrev pub farthest_origin : ℕ
farthest_origin = 2000000
