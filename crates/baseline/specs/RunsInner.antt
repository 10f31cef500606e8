-- The readings of reference days.
use Rattle.std.specs.Prelude.{cond, ◌&&◌, ℕ, ◌+◌, ◌-◌, ◌*◌, ◌%◌, ◌≤◌, ◌<◌, eqb, ltb, length, get_or}
use mathlib.Core.List.{List, map, flat_map}
use Rattle.wire.specs.Readings.{Reading, reading_at}
use Rattle.quarters.specs.declared.Calendar.{Calendar}
use Rattle.quarters.specs.Quarters.{quarters, day_start, quarters_of}
use Rattle.book.specs.declared.Engagement.{Engagement}
use Rattle.volumes.specs.Quarters.{quarter_hours, reference}
use Rattle.quarters.specs.QuartersInner.{longest_calendar}
use Rattle.baseline.specs.TallyInner.{in_run}

-- those of day d that stand for the engagement's quarter-hours
abbrev pub standing : List ℕ → Calendar → Engagement → ℕ → List Reading
standing readings c e d = map (λ k. reading_at readings (reference c e d k)) (quarter_hours e)

-- from which quarter-hour of a day of n on another number is looked at; 0 where each looks at its own
abbrev pub turn : ℕ → ℕ
turn n = cond (eqb n 92) 8 (cond (eqb n 100) 12 0)

-- how many of the engagement's quarter-hours, from the first on, stand in one run on a reference day: all of them, or those before the turn
unfoldable pub together : Calendar → Engagement → ℕ
together c e =
    cond
    (ltb e.first (turn (quarters c e.day)) && ltb (turn (quarters c e.day)) (e.first + e.count))
    (turn (quarters c e.day) - e.first)
    e.count

-- what stands for the engagement's quarter-hours on a day before it lies in the calendar, each, and both runs
pub record StandsOn (c : Calendar) (e : Engagement) (d : ℕ) : Type 0 where
  pub early : d < 64
  pub each : (k : ℕ) → k < e.count → reference c e d k < quarters_of c
  pub first : reference c e d 0 + together c e ≤ quarters_of c
  pub second : reference c e d (together c e) + (e.count - together c e) ≤ quarters_of c

-- the days that keys tell
abbrev pub days_in : List ℕ → List ℕ
days_in keys = map (λ k. k % 64) keys

-- where those days start in the calendar
abbrev pub starts_in : Calendar → List ℕ → List ℕ
starts_in c keys = map (λ k. day_start c (k % 64)) keys

-- n readings of day d, from `back` before what stands for quarter-hour k of the engagement
abbrev pub day_run : List ℕ → Calendar → Engagement → ℕ → ℕ → ℕ → ℕ → List Reading
day_run readings c e k back n d = in_run readings (reference c e d k - back) n

-- of each of some days
abbrev pub day_runs : List ℕ → Calendar → Engagement → ℕ → ℕ → ℕ → List ℕ → List Reading
day_runs readings c e k back n days = flat_map (day_run readings c e k back n) days

-- n readings from `back` before quarter-hour `place` of a day that starts with quarter-hour s of the calendar, and those of each of some days
abbrev pub start_run : List ℕ → ℕ → ℕ → ℕ → ℕ → List Reading
start_run readings place back n s = in_run readings (s + place - back) n

abbrev pub start_runs : List ℕ → ℕ → ℕ → ℕ → List ℕ → List Reading
start_runs readings place back n starts = flat_map (start_run readings place back n) starts

-- these readings are there to be read
pub record Lies (readings : List ℕ) (place back n s : ℕ) : Type 0 where
  pub inside : s + place ≤ longest_calendar
  pub from : back ≤ s + place
  pub room : 4 * (s + place - back + n) ≤ length readings

pub record Lie (readings starts : List ℕ) (place back n : ℕ) : Type 0 where
  pub short : n ≤ 12
  pub lies : (j : ℕ) → j < length starts → Lies readings place back n (get_or starts j 0)
