-- Which rows a file has, row by row: each row by itself, and each behind the one before it (document 01, "The file").
use Rattle.std.specs.Prelude.{Bool, true, ◌&&◌, List, [], ◌∷◌, ℕ, ◌+◌, ◌*◌, ◌^◌, eqb, leb, ltb}
use Rattle.kinds.specs.declared.Kind.{Kind}
use Rattle.kinds.specs.declared.Kind.TheVariants.{Toe01, Toe02, Toe03}
use Rattle.message.specs.Contents.{Observation}
use Rattle.message.specs.Bytes.{digits}
use Rattle.message.specs.Valid.{last_position}
use Rattle.message.specs.Reading.{is_period}
use Rattle.message.specs.Keys.{number_keys, directions_keys}
use Rattle.message.specs.Rows.{Row, rows_in, in_sixes, Message}
use Rattle.writer.specs.Order.{every, ordered, by, both}

-- "Positions count the quarter-hours that the month has", up to its last; "above 0 and below 10^9" kilowatts
unfoldable pub is_observation : ℕ → Observation → Bool
is_observation last o = (leb 1 o.position && leb o.position last) && (leb 1 o.watts && ltb o.watts 1000000000000)

-- supply and delivery direction, 0 or 1 each
unfoldable pub is_directions : ℕ × ℕ → Bool
is_directions p = ltb p.0 2 && ltb p.1 2

-- "Numbers of companies have 10 digits, EANs 18"
unfoldable pub is_number : Kind → ℕ → Bool
is_number k n = ltb n (10 ^ digits k)

abbrev pub is_row : Kind → ℕ → Row → Bool
is_row k last = both (is_number k) (both is_directions (is_observation last))

-- "in TOE03 an EAN stands once, with one supply direction"
unfoldable pub one_supply : Kind → ℕ → ℕ → Bool
one_supply Toe01 s t = true
one_supply Toe02 s t = true
one_supply Toe03 s t = eqb s t

-- "partners rise, off-take before injection, up before down, positions rise, all strictly"
unfoldable pub later_directions : Kind → ℕ × ℕ → ℕ × ℕ → Bool
later_directions k p q = ltb (p.0 * 2 + p.1) (q.0 * 2 + q.1) && one_supply k p.0 q.0

unfoldable pub later : Observation → Observation → Bool
later a b = ltb a.position b.position

abbrev pub directions_before : Kind → (ℕ × ℕ) × Observation → (ℕ × ℕ) × Observation → Bool
directions_before k = by directions_keys (later_directions k) later

abbrev pub row_before : Kind → Row → Row → Bool
row_before k = by number_keys ltb (directions_before k)

-- "A file without series reads as year 0 and month 0; writing from no rows takes these two and no others"
unfoldable pub of_month : Kind → ℕ → ℕ → List Row → Bool
of_month k year month [] = eqb year 0 && eqb month 0
of_month k year month (r ∷ rows) =
    is_period (year, month) && (every (is_row k (last_position year month)) (r ∷ rows) && ordered (row_before k) (r ∷ rows))

-- not "rows, receiver, year or month that no file has", nor "a length that isn't six numbers a row"
unfoldable pub is_rows : Kind → ℕ → ℕ → ℕ → List ℕ → Bool
is_rows k receiver year month l = ltb receiver (10 ^ 10) && (in_sixes l && of_month k year month (rows_in l))

-- a file by its rows' numbers
abbrev pub rows_message : Kind → ℕ → ℕ → ℕ → List ℕ → List ℕ → List ℕ → Message
rows_message k receiver year month l id moment = record { kind = k; receiver = receiver; id = id; moment = moment; year = year; month = month; rows = rows_in l }
