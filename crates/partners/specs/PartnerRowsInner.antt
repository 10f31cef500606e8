-- A partner's file rows, as they are filled: series by series, position by position.
use Rattle.std.specs.Prelude.{◌≡◌, ℕ, ◌+◌, length}
use mathlib.Core.List.{List, map, flat_map}
use Rattle.std.proofs.lemmas.List.Edits.{sets}
use Rattle.book.specs.declared.Supply.{Supply}
use Rattle.book.specs.declared.Direction.{Direction}
use Rattle.book.specs.Book.{Book}
use Rattle.volumes.specs.declared.Series.{Series}
use Rattle.volumes.specs.Series.{Kind, grains_at, series_of}
use Rattle.message.specs.Contents.{Observation}
use Rattle.message.specs.Rows.{Row, row_numbers}
use Rattle.reports.specs.FileRows.{supply_number, delivery_number, directions, Volumes, observations_by}
use Rattle.quarters.specs.Quarters.{month_quarters}

-- the row of a series' observation, and of several
abbrev pub row_of : Series → Observation → Row
row_of s o = (s.partner, ((supply_number s.supply, delivery_number s.delivery), o))

unfoldable pub rows_by : Series → List Observation → List Row
rows_by s l = map (row_of s) l

-- those of a series of volumes, and of a partner's four
unfoldable pub series_rows_by : Volumes → ℕ → Series → List Row
series_rows_by volumes last s = rows_by s (observations_by (volumes s) last)

unfoldable pub partner_rows_by : Volumes → ℕ → ℕ → List Row
partner_rows_by volumes last partner = flat_map (λ (d : Supply × Direction). series_rows_by volumes last (series_of partner d.0 d.1)) directions

-- and of a book's own volumes
abbrev pub series_rows_of : Book → Kind → ℕ → Series → List Row
series_rows_of book kind receiver = series_rows_by (grains_at book kind receiver) (month_quarters book.calendar)

abbrev pub partner_rows_of : Book → Kind → ℕ → ℕ → List Row
partner_rows_of book kind receiver = partner_rows_by (grains_at book kind receiver) (month_quarters book.calendar)

-- rows are stored from place `at` on, six numbers each: what that leaves, and the place behind them
pub record FileRowsFilled (rows : List Row) (before : List (List ℕ)) (at : ℕ) (after : List (List ℕ)) (next : ℕ) : Type 0 where
  pub behind : next ≡ at + length rows
  pub list : after ≡ sets before at (map row_numbers rows)
