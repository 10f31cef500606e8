-- Definitions for a reading that keeps a mark and fills rows: what it leaves in the lent rows, "and again to fill the rows".
-- They stand for whoever reads so; the reader itself goes by `Filled`; MarkedFilledLaws leads from what its contracts say to these.
use Rattle.std.specs.Prelude.{◌≡◌, ℕ, ◌+◌, ◌*◌, ◌≤◌, length, drop, Option, Some}
use mathlib.Core.List.{List, flat_map}
use Rattle.text.specs.WrittenInner.{written}
use Rattle.formats.specs.Format.{Res, got}
use Rattle.message.specs.Contents.{TimeSeries, Partner}
use Rattle.message.specs.Rows.{Row, row_numbers, numbers}
use Rattle.series_reader.specs.RowsInner.{rows_of_observation}

-- the rows of a series and a partner
abbrev pub rows_of_series : ℕ → TimeSeries → List Row
rows_of_series partner s = flat_map (rows_of_observation partner (s.supply, s.delivery)) s.observations

abbrev pub rows_of_partner : Partner → List Row
rows_of_partner p = flat_map (rows_of_series p.number) p.series

-- f, read in s at the mark m behind so many rows, leaves as many numbers; where it is there and its rows have room, they stand behind those before them and all else is as it was
pub record Fills {A : Type 0} (f : List ℕ → Res A) (rows_of : A → List Row) (s : List ℕ) (m : Option ℕ) (count : ℕ) (before after : List ℕ) : Type 0 where
  pub keeps : length after ≡ length before
  pub wrote : (p : ℕ) (v : A) (r : List ℕ) → m ≡ Some p → f (drop p s) ≡ got v r → 6 * (count + length (rows_of v)) ≤ length before
      → after ≡ written before (6 * count) (numbers (rows_of v))

-- a row behind so many rows, where it has room; `next` counts it too
pub record Stored (row : Row) (count : ℕ) (before after : List ℕ) (next : ℕ) : Type 0 where
  pub keeps : length after ≡ length before
  pub wrote : 6 * (count + 1) ≤ length before → (after ≡ written before (6 * count) (row_numbers row)) × (next ≡ count + 1)
