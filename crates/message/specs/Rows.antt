-- A file's rows: "six u64 a row: partner, supply, delivery direction, position, watts, 0".
use Rattle.std.specs.Prelude.{◌≡◌, Bool, true, ◌&&◌, ℕ, zero, suc, ◌+◌, ◌/◌, ◌%◌, eqb, length, get_or}
use mathlib.Core.List.{List, [], ◌∷◌, map, flat_map}
use Rattle.kinds.specs.declared.Kind.{Kind}
use Rattle.message.specs.Contents.{Observation, TimeSeries, Partner, File}
use Rattle.message.specs.Valid.{periods, first_of, IsFile}
use Rattle.message.specs.Keys.{number_keys, directions_keys}
use Rattle.message.specs.Group.{group, spread}

-- partner, supply and delivery direction, and the observation
abbrev pub Row : Type 0
Row = ℕ × ((ℕ × ℕ) × Observation)

unfoldable pub row_numbers : Row → List ℕ
row_numbers r = r.0 ∷ r.1.0.0 ∷ r.1.0.1 ∷ r.1.1.position ∷ r.1.1.watts ∷ 0 ∷ []

unfoldable pub numbers : List Row → List ℕ
numbers rows = flat_map row_numbers rows

-- n rows from number k on
unfoldable pub rows_from : List ℕ → ℕ → ℕ → List Row
rows_from l k zero = []
rows_from l k (suc n) =
    (get_or l k 0, ((get_or l (k + 1) 0, get_or l (k + 2) 0), record { position = get_or l (k + 3) 0; watts = get_or l (k + 4) 0 })) ∷ rows_from l (k + 6) n

unfoldable pub rows_in : List ℕ → List Row
rows_in l = rows_from l 0 (length l / 6)

-- not "a length that isn't six numbers a row", and each sixth number is 0
unfoldable pub zeros : List ℕ → ℕ → ℕ → Bool
zeros l k zero = true
zeros l k (suc n) = eqb (get_or l (k + 5) 0) 0 && zeros l (k + 6) n

unfoldable pub in_sixes : List ℕ → Bool
in_sixes l = eqb (length l % 6) 0 && zeros l 0 (length l / 6)

-- ---- the rows of partners

abbrev pub series_rows : TimeSeries → (ℕ × ℕ) × List Observation
series_rows s = ((s.supply, s.delivery), s.observations)

abbrev pub partner_rows : Partner → ℕ × List ((ℕ × ℕ) × Observation)
partner_rows p = (p.number, spread (map series_rows p.series))

unfoldable pub rows_of : List Partner → List Row
rows_of ps = spread (map partner_rows ps)

-- ---- the partners of rows: neighbouring rows of one partner, and of the same directions, all of the month q

abbrev pub series_of : ℕ × ℕ → (ℕ × ℕ) × List Observation → TimeSeries
series_of q g = record { supply = g.0.0; delivery = g.0.1; year = q.0; month = q.1; observations = g.1 }

abbrev pub partner_of : ℕ × ℕ → ℕ × List ((ℕ × ℕ) × Observation) → Partner
partner_of q g = record { number = g.0; series = map (series_of q) (group directions_keys g.1) }

unfoldable pub partners_of : ℕ × ℕ → List Row → List Partner
partners_of q rows = map (partner_of q) (group number_keys rows)

-- ---- a file by its rows

-- "kind, receiver, year, month and six u64 a row", ID and moment
pub record Message : Type 0 where
  pub kind : Kind
  pub receiver : ℕ
  pub id : List ℕ
  pub moment : List ℕ
  pub year : ℕ
  pub month : ℕ
  pub rows : List Row

unfoldable pub contents : Message → File
contents m = record { kind = m.kind; receiver = m.receiver; id = m.id; moment = m.moment; partners = partners_of (m.year, m.month) m.rows }

-- "A file without series reads as year 0 and month 0"
unfoldable pub message : File → Message
message f =
    record {
      kind = f.kind;
      receiver = f.receiver;
      id = f.id;
      moment = f.moment;
      year = (first_of (periods f.partners)).0;
      month = (first_of (periods f.partners)).1;
      rows = rows_of f.partners;
    }

-- "rows, receiver, year or month that no file has give 13"; "writing from no rows takes these two and no others"
pub record IsMessage (m : Message) : Type 0 where
  pub file : IsFile (contents m)
  pub none : length m.rows ≡ 0 → (m.year ≡ 0) × (m.month ≡ 0)
