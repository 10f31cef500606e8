-- Which files are valid (document 01, "The file").
use Rattle.std.specs.Prelude.{◌≡◌, Bool, true, false, ℕ, ◌^◌, ◌≤◌, ◌<◌, length, Option, Some, None}
use mathlib.Core.List.{List, [], ◌∷◌, map, flat_map}
use Rattle.integers.specs.Rises.{rises}
use Rattle.integers.specs.All.{All}
use Rattle.quarters.specs.Quarters.{quarters_in_month}
use Rattle.moments.specs.declared.Moment.{Moment}
use Rattle.moments.specs.Moments.{moment_of}
use Rattle.moments.specs.Ids.{is_transaction_id}
use Rattle.kinds.specs.declared.Kind.{Kind}
use Rattle.kinds.specs.declared.Kind.TheVariants.{Toe01, Toe02, Toe03}
use Rattle.message.specs.Contents.{Observation, TimeSeries, Partner, File, place, position, number}
use Rattle.message.specs.Bytes.{digits, supply_of}

-- counters are numbers of 64 bits
abbrev pub most : ℕ
most = 18446744073709551615

-- "Positions count the quarter-hours that the month has, in the reader too: up to 2,972 in March and 2,980 in October", else "96 times the days of the month"
unfoldable pub last_position : ℕ → ℕ → ℕ
last_position year month = quarters_in_month year month

-- "Quantity is kilowatts with three decimals, above 0 and below 10^9"
pub record IsObservation (last : ℕ) (o : Observation) : Type 0 where
  pub within : o.position ≤ last
  pub some : 1 ≤ o.watts
  pub below : o.watts < 1000000000000

-- how many there are: "Zero watts aren't written, nor empty series, nor a partner without a series; counters count what follows"
pub record IsCounter (n : ℕ) : Type 0 where
  pub some : 1 ≤ n
  pub fits : n ≤ most

-- "a whole month of 2018 to 2099"
pub record IsPeriod (year month : ℕ) : Type 0 where
  pub from : 2018 ≤ year
  pub to : year ≤ 2099
  pub january : 1 ≤ month
  pub december : month ≤ 12

-- a time series from its delivery direction on: "positions rise ... strictly", from 1 on
pub record IsVolume (s : TimeSeries) : Type 0 where
  pub delivery : s.delivery < 2
  pub period : IsPeriod s.year s.month
  pub counted : IsCounter (length s.observations)
  pub rising : rises 1 (map position s.observations) ≡ true
  pub each : All (IsObservation (last_position s.year s.month)) s.observations

pub record IsSeries (s : TimeSeries) : Type 0 where
  pub supply : s.supply < 2
  pub volume : IsVolume s

-- "in TOE03 an EAN stands once, with one supply direction"
abbrev pub OneSupply : Kind → List TimeSeries → Type 0
OneSupply Toe01 l = Unit {0}
OneSupply Toe02 l = Unit {0}
OneSupply Toe03 l = All (λ (s : TimeSeries). s.supply ≡ supply_of l) l

-- "off-take before injection, up before down ... all strictly"
pub record IsPartner (k : Kind) (p : Partner) : Type 0 where
  pub number : p.number < 10 ^ digits k
  pub counted : IsCounter (length p.series)
  pub rising : rises 0 (map place p.series) ≡ true
  pub each : All IsSeries p.series
  pub one : OneSupply k p.series

-- "moment in the form shown, a real date and time of 2018 to 2099, with either offset"
abbrev pub is_real : Option Moment → Bool
is_real (Some m) = true
is_real None = false

abbrev pub is_moment : List ℕ → Bool
is_moment s = is_real (moment_of s)

-- the months of a file's series, and the file's: 0 and 0 where there is none
abbrev pub month_of : TimeSeries → ℕ × ℕ
month_of s = (s.year, s.month)

unfoldable pub periods : List Partner → List (ℕ × ℕ)
periods l = flat_map (λ (p : Partner). map month_of p.series) l

unfoldable pub first_of : List (ℕ × ℕ) → ℕ × ℕ
first_of [] = (0, 0)
first_of (q ∷ l) = q

-- "partners rise ... strictly", "All series of a file have the same period"
pub record IsFile (f : File) : Type 0 where
  pub receiver : f.receiver < 10 ^ 10
  pub id : is_transaction_id f.id ≡ true
  pub moment : is_moment f.moment ≡ true
  pub fits : length f.partners ≤ most
  pub rising : rises 0 (map number f.partners) ≡ true
  pub each : All (IsPartner f.kind) f.partners
  pub same : All (λ q. q ≡ first_of (periods f.partners)) (periods f.partners)
