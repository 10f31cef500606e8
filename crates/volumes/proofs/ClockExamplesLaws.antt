-- Clock-change days by example (C-12), computed: March 2021 with one lead day, whose day 28 is the 28th and has 92 quarter-hours, October 2021 with five, whose day 35 is the 31st
-- and has 100, and April 2019 with one, 31 March.
use Rattle.std.specs.Prelude.{◌≡◌, refl, true, false, cond, ◌&&◌, ℕ, ◌+◌, ◌*◌, eqb, leb, ltb, pos, Some, None}
use mathlib.Core.List.{[], ◌∷◌, map, flat_map}
use Rattle.std.proofs.Common.{lit≤}
use Rattle.integers.specs.First.{any_of, any_below}
use Rattle.integers.specs.Keep.{keep}
use Rattle.integers.specs.Ranges.{range}
use Rattle.integers.specs.Running.{up_to}
use Rattle.integers.specs.Sums.{sum_by}
use Rattle.wire.specs.Readings.{Reading}
use Rattle.calendar.specs.declared.Clock.TheVariants.{Shorter, Longer}
use Rattle.calendar.specs.Dates.{leap, month_length, year_length, day_number, weekday, sunday_up_to, last_sunday, march_sunday, october_sunday, calendar_days}
use Rattle.calendar.specs.Clocks.{clock_of}
use Rattle.quarters.specs.declared.Calendar.{Calendar}
use Rattle.quarters.specs.Quarters.{quarters_by, quarters, is_clock_change, day_start, position}
use Rattle.quarters.specs.QuartersInner.{Ranged}
use Rattle.book.specs.declared.Method.{Method}
use Rattle.book.specs.declared.Method.TheVariants.{LastQuarter, HighXOfY, Adjusted}
use Rattle.book.specs.declared.Direction.TheVariants.{Up}
use Rattle.book.specs.declared.Engagement.{Engagement}
use Rattle.book.specs.Book.{Book}
use Rattle.volumes.specs.Quarters.{quarter_hours, start, looks_at, reference_quarter, reference, touches_day, touches}
use Rattle.volumes.specs.Ranking.{insert, ranked}
use Rattle.volumes.specs.Baseline.{point_of, watts, known, complete, mean, reading_before, window, day_reading, day_readings, own_window, day_window, windowed, allowed, suits, engaged, clear, regular, eligible, before, eligible_days, latest, day_sum, taken, high, last_reading, baseline_by, baseline}
use Rattle.volumes.specs.Examples.{point_for, point, plus}

unfoldable pub march : Calendar
march = record { year = 2021; month = 3; lead = 1; clock = Shorter 28 }

unfoldable pub october : Calendar
october = record { year = 2021; month = 10; lead = 5; clock = Longer 35 }

unfoldable pub april : Calendar
april = record { year = 2019; month = 4; lead = 1; clock = Shorter 0 }

-- on a day, from a quarter-hour on, so many; and with a notice
unfoldable pub noticed : ℕ → ℕ → ℕ → ℕ → Engagement
noticed day first count notice =
    record { point = 0; day = day; first = first; count = count; direction = Up; notice = notice; requested = 100 }

unfoldable pub from : ℕ → ℕ → ℕ → Engagement
from day first count = noticed day first count 0

-- one point, all categories 0, X 1 and Y, readings by quarter-hour of the calendar
unfoldable pub over : Calendar → Method → ℕ → (ℕ → Reading) → Book
over c method y reading =
    record {
      version = 1;
      calendar = c;
      category = λ d. 0;
      x = λ k. 1;
      y = λ k. y;
      points = point 1 method 5000 ∷ [];
      reading = λ p q. reading q;
      engagements = [];
    }

-- "Day 33 reads 10 W at 8, day 34 15 W at 9, else 0"
unfoldable pub twice : Book
twice = over october HighXOfY 2 (λ q. Some (pos (cond (eqb q (96 * 33 + 8)) 10 (cond (eqb q (96 * 34 + 9)) 15 0))))

-- day d, which comes before the change, misses its quarter-hours from a up to b, itself left out
unfoldable pub gap : Calendar → Method → ℕ → ℕ → ℕ → Book
gap c method d a b = over c method 1 (λ q. cond (leb (96 * d + a) q && ltb q (96 * d + b)) None (Some (pos 0)))

unfoldable pub whole : Calendar → Method → Book
whole c method = gap c method 0 0 0

-- each quarter-hour of the calendar reads its own number
unfoldable pub counted : Calendar → Method → Book
counted c method = over c method 1 (λ q. Some (pos q))

pub record ByClock : Type 0 where
  -- "A clock-change day has 92 or 100"; positions count what the month has
  pub lengths : map (quarters march) (27 ∷ 28 ∷ 29 ∷ []) ≡ 96 ∷ 92 ∷ 96 ∷ []
  pub lengths_back : map (quarters october) (34 ∷ 35 ∷ 36 ∷ []) ≡ 96 ∷ 100 ∷ 96 ∷ []
  pub starts : map (day_start march) (28 ∷ 29 ∷ 32 ∷ []) ≡ 2688 ∷ 2780 ∷ 3068 ∷ []
  pub last : position march 31 95 ≡ 2972
  pub last_back : position october 35 99 ≡ 2980
  -- "quarter-hours from 8 up look .. 4 later", "those from 12 up look 4 earlier"
  pub places : map (reference_quarter march 28) (7 ∷ 8 ∷ 91 ∷ []) ≡ 7 ∷ 12 ∷ 95 ∷ []
  pub places_back : map (reference_quarter october 35) (8 ∷ 11 ∷ 12 ∷ 99 ∷ []) ≡ 8 ∷ 11 ∷ 8 ∷ 95 ∷ []
  -- a reading that two quarter-hours look at counts twice: 20 against 15
  pub counted_twice : taken twice (from 35 8 5) ≡ 33 ∷ []
  pub baselines : map (baseline twice (from 35 8 5)) (0 ∷ 1 ∷ 2 ∷ 3 ∷ 4 ∷ []) ≡ plus 10 ∷ plus 0 ∷ plus 0 ∷ plus 0 ∷ plus 10 ∷ []
  -- on a day of 92, quarter-hour 8 needs a reference day's 12, and not its 8 to 11
  pub own_number : eligible (gap march HighXOfY 27 8 12) (from 28 8 1) 27 ≡ true
  pub looked_at : eligible (gap march HighXOfY 27 12 13) (from 28 8 1) 27 ≡ false
  -- the change day is no reference day, nor by method 2 the next one in its first 24
  pub never : map (eligible (whole march HighXOfY) (from 30 0 1)) (28 ∷ 29 ∷ []) ≡ false ∷ true ∷ []
  pub never_windows : map (eligible (whole march Adjusted) (from 30 23 1)) (27 ∷ 28 ∷ 29 ∷ []) ≡ true ∷ false ∷ false ∷ []
  pub clear_windows : map (eligible (whole march Adjusted) (from 30 24 1)) (27 ∷ 28 ∷ 29 ∷ []) ≡ true ∷ false ∷ true ∷ []
  -- day 0: the place decides, and not the first quarter-hour
  pub day_zero : (eligible (whole october Adjusted) (from 35 27 1) 0 ≡ false) × (eligible (whole october Adjusted) (from 35 28 1) 0 ≡ true)
  pub day_zero_short : (eligible (whole march Adjusted) (from 28 19 1) 0 ≡ false) × (eligible (whole march Adjusted) (from 28 20 1) 0 ≡ true)
  -- an own window counts the quarter-hours that passed: 29 March's are 68 to 79 of the 28th; those of day 27 are 72 to 83 of the day before
  pub own_window : own_window (counted march Adjusted) (from 29 0 1) ≡ map (λ i. Some (pos (day_start march 28 + 68 + i))) (range 0 12)
  pub other_window : day_window (counted march Adjusted) (from 29 0 1) 27 ≡ map (λ i. Some (pos (day_start march 26 + 72 + i))) (range 0 12)
  -- "24 before the place so found": on a day of 92 first 20 has place 24, so the window is the first 12 of the same day
  pub place_window : day_window (counted march Adjusted) (from 28 20 1) 27 ≡ map (λ i. Some (pos (day_start march 27 + i))) (range 0 12)
  -- April 2019: notice 91 looks at the calendar's first reading, 92 before it
  pub notice : map (λ n. last_reading (counted april LastQuarter) (noticed 1 0 1 n)) (91 ∷ 92 ∷ []) ≡ Some (pos 0) ∷ None ∷ []

-- these clocks are the calendars'
pub clocks-ranged : Ranged march × Ranged october × Ranged april
unfolding march october april clock_of up_to leap month_length year_length day_number weekday sunday_up_to last_sunday march_sunday october_sunday calendar_days
clocks-ranged =
    (record { from = lit≤ tt; to = lit≤ tt; january = lit≤ tt; december = lit≤ tt; some = lit≤ tt; few = lit≤ tt; clock = refl }, record { from = lit≤ tt; to = lit≤ tt; january = lit≤ tt; december = lit≤ tt; some = lit≤ tt; few = lit≤ tt; clock = refl }, record { from = lit≤ tt; to = lit≤ tt; january = lit≤ tt; december = lit≤ tt; some = lit≤ tt; few = lit≤ tt; clock = refl })

pub by-clock : ByClock
unfolding march october april noticed from over twice gap whole counted point_for point quarters_by quarters is_clock_change day_start position quarter_hours start looks_at reference_quarter reference touches_day touches any_of any_below calendar_days month_length leap insert ranked point_of watts known complete mean reading_before window day_reading day_readings own_window day_window windowed allowed suits engaged clear regular eligible before keep eligible_days latest day_sum taken high last_reading baseline_by baseline range sum_by flat_map
by-clock =
    record {
      lengths = refl;
      lengths_back = refl;
      starts = refl;
      last = refl;
      last_back = refl;
      places = refl;
      places_back = refl;
      counted_twice = refl;
      baselines = refl;
      own_number = refl;
      looked_at = refl;
      never = refl;
      never_windows = refl;
      clear_windows = refl;
      day_zero = (refl, refl);
      day_zero_short = (refl, refl);
      own_window = refl;
      other_window = refl;
      place_window = refl;
      notice = refl;
    }
