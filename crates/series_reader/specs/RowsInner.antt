-- The rows of what was read, behind one another in the lent numbers: "and again to fill the rows".
use Rattle.std.specs.Prelude.{◌≡◌, cond, ℕ, ◌+◌, ◌*◌, ◌/◌, ◌%◌, ◌^◌, length, ltb, Option, option_map}
use mathlib.Core.List.{List, [], ◌∷◌, flat_map}
use Rattle.text.specs.WrittenInner.{written}
use Rattle.formats.specs.Format.{Res, got, bind}
use Rattle.cursor.specs.declared.Cursor.{Cursor}
use Rattle.cursor.specs.ReadsInner.{Reads}
use Rattle.message.specs.Contents.{Observation, TimeSeries, Partner}
use Rattle.message.specs.Rows.{Row, row_numbers}
use Rattle.passages.specs.declared.ReadObservation.{ReadObservation}
use Rattle.passages.specs.ViewsInner.{observation_of}
use Rattle.series_reader.specs.declared.rows.Key.{Key}
use Rattle.series_reader.specs.declared.rows.Rows.{Rows}

abbrev pub directions : Key → ℕ × ℕ
directions k = (k.supply, k.delivery)

-- ---- the rows of an observation, a series and a partner

abbrev pub rows_of_observation : ℕ → ℕ × ℕ → Observation → List Row
rows_of_observation partner ways o = (partner, (ways, o)) ∷ []

unfoldable pub rows_of_observations : ℕ → ℕ × ℕ → List Observation → List Row
rows_of_observations partner ways l = flat_map (rows_of_observation partner ways) l

abbrev pub rows_of_series : ℕ → TimeSeries → List Row
rows_of_series partner s = rows_of_observations partner (s.supply, s.delivery) s.observations

unfoldable pub rows_of_all : ℕ → List TimeSeries → List Row
rows_of_all partner l = flat_map (rows_of_series partner) l

abbrev pub rows_of_partner : Partner → List Row
rows_of_partner p = rows_of_all p.number p.series

-- ---- the lent numbers, and how many rows were read

abbrev pub held : Rows → List ℕ × ℕ
held r = (r.numbers.now, r.count)

-- a row more: it is written where it has room, and counted
unfoldable pub with_row : Row → List ℕ × ℕ → List ℕ × ℕ
with_row r h = (cond (ltb h.1 (length h.0 / 6)) (written h.0 (h.1 * 6) (row_numbers r)) h.0, (h.1 + 1) % 2 ^ 64)

unfoldable pub with_rows : List Row → List ℕ × ℕ → List ℕ × ℕ
with_rows [] h = h
with_rows (r ∷ rows) h = with_rows rows (with_row r h)

-- the same numbers are lent
pub record Lent (before after : Rows) : Type 0 where
  pub same : after.numbers.ghost_name ≡ before.numbers.ghost_name
  pub long : length after.numbers.now ≡ length before.numbers.now

-- an observation's row
pub record Pushed (k : Key) (o : ReadObservation) (before after : Rows) : Type 0 where
  pub lent : Lent before after
  pub row : held after ≡ with_row (k.partner, (directions k, observation_of o)) (held before)

-- ---- a reading whose rows are stored

-- what f reads, as what is kept of it and the numbers with its rows
abbrev pub filling : {A B : Type 0} → (List ℕ → Res A) → (A → B) → (A → List Row) → Rows → List ℕ → Res (B × (List ℕ × ℕ))
filling f kept rows_of before s = bind (f s) (λ a q. got (kept a, with_rows (rows_of a) (held before)) q)

abbrev pub holding : {B : Type 0} → Rows → Option B → Option (B × (List ℕ × ℕ))
holding after r = option_map (λ b. (b, held after)) r

-- f is read, and of what it says `kept` is answered and its rows go behind those that were read before
pub record Filled {A B : Type 0} (f : List ℕ → Res A) (kept : A → B) (rows_of : A → List Row) (old new : Cursor) (before after : Rows) (r : Option B) : Type 0 where
  pub reads : Reads (filling f kept rows_of before) old new (holding after r)
  pub lent : Lent before after
