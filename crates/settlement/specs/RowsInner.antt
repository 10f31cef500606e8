-- Settlement rows from what they depend on (document 01, "Delivered volume, corrections, series").
use mathlib.Core.List.{List, [], ◌∷◌, map, flat_map}
use Rattle.std.specs.Prelude.{ℕ, ◌+◌, ◌≤◌, ◌<◌, ℤ, pos, ◌-ℤ◌, get_or}
use Rattle.wire.specs.Readings.{Reading, reading_at}
use Rattle.grains.specs.Grains.{grains, grains_z}
use Rattle.book.specs.declared.Direction.{Direction}
use Rattle.book.specs.declared.Direction.TheVariants.{Up, Down}
use Rattle.book.specs.declared.Point.{Point}
use Rattle.book.specs.declared.Engagement.{Engagement}
use Rattle.quarters.specs.declared.Calendar.{Calendar}
use Rattle.quarters.specs.Quarters.{origin_of}
use Rattle.volumes.specs.Quarters.{quarter_hours, start}
use Rattle.volumes.specs.Baseline.{watts}
use Rattle.volumes.specs.Settlement.{delivered_by, source_by, injection_by, signed}
use Rattle.settlement.specs.RaisedInner.{baseline_of}

-- the five numbers of a row: baseline, delivered, source, FSP and injection correction, of the requested volume and the baseline, in grains, and the reading, in watts
unfoldable pub row_from : ℕ → Direction → Point → ℕ → ℤ → ℤ → List ℤ
row_from version direction point requested baseline read =
    let volume : ℕ = delivered_by direction point baseline (grains_z read) in
    let source : ℕ = source_by version direction baseline (grains_z read) volume in
    let injection : ℕ = injection_by version direction baseline (grains_z read) volume in
    baseline ∷ pos volume ∷ signed direction (pos source) ∷ signed direction (pos requested -ℤ pos volume) ∷ signed direction (pos injection) ∷ []

-- "the register's largest watts" in a direction
unfoldable pub largest : Direction → Point → ℕ
largest Up point = point.upward
largest Down point = point.downward

-- the place of an engagement's first reading among those of all points
abbrev pub first_reading : Calendar → Engagement → ℕ
first_reading c e = origin_of c e.point + start c e

-- an engagement's own readings, where they stand in a row from `first` on
abbrev pub readings_from : Engagement → List ℕ → ℕ → List Reading
readings_from e readings first = map (λ k. reading_at readings (first + k)) (quarter_hours e)

-- the row of quarter-hour k, of raised baselines, the requested watts and such readings
abbrev pub row_at : ℕ → Direction → Point → ℕ → List ℕ → List ℕ → ℕ → ℕ → List ℤ
row_at version direction point requested levels readings first k =
    row_from version direction point (grains requested) (baseline_of (get_or levels k 0)) (watts (reading_at readings (first + k)))

-- "Each engagement quarter-hour, in order"
unfoldable pub rows_from : ℕ → Engagement → Point → List ℕ → List ℕ → ℕ → List ℤ
rows_from version e point levels readings first = flat_map (row_at version e.direction point e.requested levels readings first) (quarter_hours e)

-- none of the list's first n numbers is greater
pub record AllAtMost (top n : ℕ) (l : List ℕ) : Type 0 where
  pub each : (k : ℕ) → k < n → get_or l k 0 ≤ top
