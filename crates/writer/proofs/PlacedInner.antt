-- Definitions for rows that are told by their places among numbers, six by six: a row at a place, runs of rows from there on, and what these rows hold.
-- They stand for whoever goes by places; the writer goes by rows as arrays of six numbers (RowsInner, RunsInner, ContentsInner). That the rows at places hold what these arrays hold is shown in PlacedContentsLaws.
use Rattle.std.specs.Prelude.{◌≡◌, Bool, true, ◌&&◌, List, ◌∷◌, map, ℕ, zero, suc, ◌+◌, ◌-◌, ◌*◌, ◌≤◌, ◌<◌, eqb, length, get_or}
use Rattle.kinds.specs.declared.Kind.{Kind}
use Rattle.message.specs.Contents.{Observation, TimeSeries, Partner}
use Rattle.message.specs.Valid.{IsPeriod}
use Rattle.message.specs.Keys.{number_keys, directions_keys}
use Rattle.message.specs.Group.{group}
use Rattle.message.specs.Rows.{Row, rows_from, series_of, partners_of}
use Rattle.writer.specs.Rows.{is_row, row_before}

-- ---- rows

abbrev pub row_at : List ℕ → ℕ → Row
row_at l at = (get_or l at 0, ((get_or l (at + 1) 0, get_or l (at + 2) 0), record { position = get_or l (at + 3) 0; watts = get_or l (at + 4) 0 }))

-- six numbers that are a row
unfoldable pub six_at : Kind → ℕ → List ℕ → ℕ → Bool
six_at k last l at = is_row k last (row_at l at) && eqb (get_or l (at + 5) 0) 0

-- n rows that may stand behind the row at a place
unfoldable pub behind : Kind → ℕ → List ℕ → ℕ → ℕ → Bool
behind k last l at zero = true
behind k last l at (suc n) = (six_at k last l (at + 6) && row_before k (row_at l at) (row_at l (at + 6))) && behind k last l (at + 6) n

-- both directions at a place are 0 or 1
pub record Directed (l : List ℕ) (at : ℕ) : Type 0 where
  pub supply : get_or l (at + 1) 0 < 2
  pub delivery : get_or l (at + 2) 0 < 2

-- ---- runs

-- the first r of n rows are the first partner's rows
pub record PartnerRun (l : List ℕ) (at n r : ℕ) : Type 0 where
  pub some : 1 ≤ r
  pub within : r ≤ n
  pub first : group number_keys (rows_from l at n) ≡ (get_or l at 0, map (λ x. x.1) (rows_from l at r)) ∷ group number_keys (rows_from l (at + 6 * r) (n - r))

-- the first r of n rows of one partner are its first series
pub record DirectionsRun (l : List ℕ) (at n r : ℕ) : Type 0 where
  pub some : 1 ≤ r
  pub within : r ≤ n
  pub first :
      group directions_keys (map (λ x. x.1) (rows_from l at n))
      ≡ ((get_or l (at + 1) 0, get_or l (at + 2) 0), map (λ x. x.1.1) (rows_from l at r)) ∷ group directions_keys (map (λ x. x.1) (rows_from l (at + 6 * r) (n - r)))

-- ---- what they hold

unfoldable pub observations_in : List ℕ → ℕ → ℕ → List Observation
observations_in l at n = map (λ r. r.1.1) (rows_from l at n)

-- rows of the same directions as a series of the month q
abbrev pub series_at : ℕ × ℕ → List ℕ → ℕ → ℕ → TimeSeries
series_at q l at n = record { supply = get_or l (at + 1) 0; delivery = get_or l (at + 2) 0; year = q.0; month = q.1; observations = observations_in l at n }

-- the series of rows of one partner
unfoldable pub series_in : ℕ × ℕ → List ℕ → ℕ → ℕ → List TimeSeries
series_in q l at n = map (series_of q) (group directions_keys (map (λ r. r.1) (rows_from l at n)))

abbrev pub partner_at : ℕ × ℕ → List ℕ → ℕ → ℕ → Partner
partner_at q l at n = record { number = get_or l at 0; series = series_in q l at n }

abbrev pub partners_in : ℕ × ℕ → List ℕ → ℕ → ℕ → List Partner
partners_in q l at n = partners_of q (rows_from l at n)

-- the numbers of n rows stand there, their directions are 0 or 1, and the month is a file's
pub record Writable (l : List ℕ) (at n year month : ℕ) : Type 0 where
  pub within : at + 6 * n ≤ length l
  pub directed : (j : ℕ) → j < n → Directed l (at + 6 * j)
  pub period : 1 ≤ n → IsPeriod year month
