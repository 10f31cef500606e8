-- Quarter-hours of an engagement, and those of reference days that stand for them (document 01, "Baseline", with document 02, C-12).
use Rattle.std.specs.Prelude.{Bool, cond, ◌&&◌, List, ℕ, suc, ◌+◌, ◌-◌, eqb, leb, ltb}
use Rattle.integers.specs.First.{any_below}
use Rattle.integers.specs.Ranges.{range}
use Rattle.quarters.specs.declared.Calendar.{Calendar}
use Rattle.book.specs.declared.Engagement.{Engagement}
use Rattle.quarters.specs.Quarters.{days_of, quarters, is_clock_change, day_start, in_calendar}

-- an engagement's quarter-hours, counted from 0
unfoldable pub quarter_hours : Engagement → List ℕ
quarter_hours e = range 0 e.count

-- the quarter-hour of the calendar with which the engagement starts: "96 A + s", as "the quarter-hours that passed" are counted
unfoldable pub start : Calendar → Engagement → ℕ
start c e = in_calendar c e.day e.first

-- "For an engagement on a day of 92, quarter-hours from 8 up look at the reference day's quarter-hour 4 later; on a day of 100, those from 12 up look 4 earlier,
-- and those below look at their own number": what quarter-hour q of a day of n looks at
unfoldable pub looks_at : ℕ → ℕ → ℕ
looks_at n q = cond (eqb n 92 && leb 8 q) (q + 4) (cond (eqb n 100 && leb 12 q) (q - 4) q)

-- the quarter-hour of a reference day that stands for quarter-hour q of day a
unfoldable pub reference_quarter : Calendar → ℕ → ℕ → ℕ
reference_quarter c a q = looks_at (quarters c a) q

-- in the calendar, that of day d which stands for quarter-hour k of an engagement
unfoldable pub reference : Calendar → Engagement → ℕ → ℕ → ℕ
reference c e d k = in_calendar c d (reference_quarter c e.day (e.first + k))

-- the window of 12 from 24 before quarter-hour q of the calendar touches day b: one of its 12 lies on it
unfoldable pub touches_day : Calendar → ℕ → ℕ → Bool
touches_day c q b =
    any_below (λ i. leb (day_start c b + 24) (q + i) && ltb (q + i) (day_start c (suc b) + 24)) 12

-- "a day whose window of 12 touches one", a clock-change day
unfoldable pub touches : Calendar → ℕ → Bool
touches c q = any_below (λ b. is_clock_change c b && touches_day c q b) (days_of c)
