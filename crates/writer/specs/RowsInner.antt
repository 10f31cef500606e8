-- A row as six numbers, and the order of rows as it is judged.
use Rattle.std.specs.Prelude.{Bool, ◌&&◌, ◌||◌, List, ℕ, eqb, ltb, get_or}
use Rattle.kinds.specs.declared.Kind.{Kind}
use Rattle.message.specs.Contents.{Observation}
use Rattle.message.specs.Rows.{Row}
use Rattle.message.specs.Keys.{number_keys, directions_keys}
use Rattle.writer.specs.Order.{by}
use Rattle.writer.specs.Rows.{is_row, one_supply, later}

abbrev pub row_in : List ℕ → Row
row_in a = (get_or a 0 0, ((get_or a 1 0, get_or a 2 0), record { position = get_or a 3 0; watts = get_or a 4 0 }))

-- six numbers that are a row, the sixth 0
abbrev pub is_six : Kind → ℕ → List ℕ → Bool
is_six k last a = is_row k last (row_in a) && eqb (get_or a 5 0) 0

-- directions that come before others: by supply, then by delivery
abbrev pub pair_before : ℕ × ℕ → ℕ × ℕ → Bool
pair_before p q = ltb p.0 q.0 || (eqb p.0 q.0 && ltb p.1 q.1)

abbrev pub directions_earlier : Kind → (ℕ × ℕ) × Observation → (ℕ × ℕ) × Observation → Bool
directions_earlier k = by directions_keys (λ p q. pair_before p q && one_supply k p.0 q.0) later

-- `row_before`, of directions that are 0 or 1
abbrev pub row_earlier : Kind → Row → Row → Bool
row_earlier k = by number_keys ltb (directions_earlier k)
