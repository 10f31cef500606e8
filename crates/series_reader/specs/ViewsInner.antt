-- What the code keeps of a series, and what hangs on those before it.
use Rattle.std.specs.Prelude.{List, ℕ, suc, leb, Option, Some, None}
use Rattle.calendar.specs.declared.dates.Month.{Month}
use Rattle.formats.specs.Format.{Res}
use Rattle.formats.specs.Combine.{only_parse}
use Rattle.message.specs.Contents.{Observation, TimeSeries, place, position}
use Rattle.message.specs.Valid.{month_of}
use Rattle.message.specs.Months.{follows, after}
use Rattle.message.specs.Reading.{Volume, observation_parse, own_series_parse, shared_series_parse}
use Rattle.passages.specs.ViewsInner.{bit, year_and_month}
use Rattle.series_reader.specs.declared.elements.DeliverySeries.{DeliverySeries}
use Rattle.series_reader.specs.declared.series.SeriesOutline.{SeriesOutline}
use mathlib.Core.List.{map}

-- ---- an observation

-- of a position from low on
abbrev pub next_observation : ℕ → ℕ → List ℕ → Res Observation
next_observation last low = only_parse (λ o. leb low (position o)) (observation_parse last)

-- ---- a time series

-- its delivery direction and its month
abbrev pub volume_kept : Volume → ℕ × (ℕ × ℕ)
volume_kept v = (v.0, v.1.1.0)

abbrev pub volume_told : DeliverySeries → ℕ × (ℕ × ℕ)
volume_told v = (bit v.down, year_and_month v.month)

-- its directions and its month
abbrev pub series_outline : TimeSeries → (ℕ × ℕ) × (ℕ × ℕ)
series_outline s = ((s.supply, s.delivery), (s.year, s.month))

abbrev pub outline_of : SeriesOutline → (ℕ × ℕ) × (ℕ × ℕ)
outline_of o = ((bit o.injection, bit o.down), year_and_month o.month)

-- with the supply direction of its access point, or with its own
abbrev pub series_parse : Option ℕ → List ℕ → Res TimeSeries
series_parse (Some x) = shared_series_parse x
series_parse None = own_series_parse

-- ---- one behind the other

-- the least key behind one that was seen
abbrev pub low_of : Option ℕ → ℕ
low_of (Some k) = suc k
low_of None = 0

-- the month that was seen: year 0 and month 0 are none
abbrev pub month_seen : Option Month → ℕ × ℕ
month_seen (Some m) = year_and_month m
month_seen None = (0, 0)

-- the next series: of a place from low on, and of the month that was seen
abbrev pub next_series : Option ℕ → ℕ × (ℕ × ℕ) → List ℕ → Res TimeSeries
next_series shared st = only_parse (λ s. leb st.0 (place s)) (only_parse (λ s. follows st.1 (month_of s)) (series_parse shared))

-- the month that is seen behind series
abbrev pub last_month : ℕ × ℕ → List TimeSeries → ℕ × ℕ
last_month seen l = after seen (map month_of l)
