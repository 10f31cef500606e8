-- What is written of a series, from its watts by position.
use Rattle.std.specs.Prelude.{List, [], ◌∷◌, map, ℕ}
use Rattle.integers.specs.Ranges.{range}
use Rattle.integers.specs.Keep.{keep}
use Rattle.message.specs.Contents.{Observation}
use Rattle.message.specs.Reading.{observed}
use Rattle.reports.specs.FileRows.{is_written}
use Rattle.series.specs.SumsInner.{cell_at}

-- "Zero watts aren't written": a position's observation, or none
unfoldable pub observation_if : ℕ → ℕ → List Observation
observation_if p watts = keep is_written (observed (p, watts) ∷ [])

-- the observations of the first n positions
unfoldable pub observations_in : List ℕ → ℕ → List Observation
observations_in watts n = keep is_written (map (λ p. observed (p, cell_at watts p)) (range 1 n))
