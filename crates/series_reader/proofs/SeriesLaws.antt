-- What the code keeps of a series says what the loop over series goes by: its place and its month, and the month behind all.
use Rattle.std.specs.Prelude.{◌≡◌, refl, ◌&&◌, ℕ, suc, eqb}
use Rattle.std.proofs.Common.{sym, ap, ◌∙◌, arith, ne_eqb}
use mathlib.Core.List.{List, [], ◌∷◌}
use Rattle.calendar.specs.declared.dates.Month.{Month}
use Rattle.message.specs.Contents.{TimeSeries, place}
use Rattle.message.specs.Valid.{month_of}
use Rattle.message.specs.Months.{follows, after}
use Rattle.passages.specs.ViewsInner.{year_and_month}
use Rattle.series_reader.specs.ViewsInner.{last_month}
use Rattle.series_reader.specs.TurnsInner.{behind}

-- a month that was seen is of a year from 1 on
pub follows-seen : (m q : Month) → follows (year_and_month m) (year_and_month q) ≡ (eqb q.year m.year && eqb q.month m.month)
unfolding follows
follows-seen m q = rw (ne_eqb m.year 0 (λ e. let i = m.is_month.from in omega arith))

-- the month in the state behind series
abbrev pub on : ℕ × (ℕ × ℕ) → TimeSeries → ℕ × (ℕ × ℕ)
on st s = (suc (place s), month_of s)

month-behind : (st : ℕ × (ℕ × ℕ)) (l : List TimeSeries) → (behind on st l).1 ≡ last_month st.1 l
unfolding behind after
month-behind st [] = refl
month-behind st (s ∷ l) = month-behind (on st s) l

pub month-last : (seen : ℕ × ℕ) (st : ℕ × (ℕ × ℕ)) (l : List TimeSeries) → behind on (0, seen) l ≡ st → last_month seen l ≡ st.1
month-last seen st l e = sym (month-behind (0, seen) l) ∙ ap (λ (x : ℕ × (ℕ × ℕ)). x.1) e
