-- Document 01, "Delivered volume, corrections, series" and "The file": the file that a book gives a receiver, and its rows.
use Rattle.std.specs.Prelude.{Bool, cond, ◌&&◌, List, [], ◌∷◌, map, ℕ, eqb, ltb}
use Rattle.integers.specs.Ranges.{range}
use Rattle.integers.specs.Running.{floor_at}
use Rattle.integers.specs.Keep.{keep, is_some}
use Rattle.integers.specs.Ascending.{ascending}
use Rattle.grains.specs.Grains.{per_watt}
use Rattle.book.specs.declared.Supply.{Supply}
use Rattle.book.specs.declared.Supply.TheVariants.{OffTake, Injection}
use Rattle.book.specs.declared.Direction.{Direction}
use Rattle.book.specs.declared.Direction.TheVariants.{Up, Down}
use Rattle.book.specs.declared.Point.{Point}
use Rattle.book.specs.Book.{Book}
use Rattle.volumes.specs.declared.Series.{Series}
use Rattle.volumes.specs.Series.{Kind, takes, receiver_of, partner_of, grains_at, series_of}
use Rattle.message.specs.Contents.{Observation, TimeSeries, Partner, File}
use Rattle.message.specs.Bytes.{file_bytes}
use Rattle.message.specs.Rows.{Row, rows_of, Message}
use Rattle.quarters.specs.Quarters.{month_quarters}

-- "supply direction (0 off-take, 1 injection)", "direction (0 up, 1 down)": as numbers of a row
unfoldable pub supply_number : Supply → ℕ
supply_number OffTake = 0
supply_number Injection = 1

unfoldable pub delivery_number : Direction → ℕ
delivery_number Up = 0
delivery_number Down = 1

-- "the taken ones that have the receiver"
unfoldable pub is_taken : Kind → ℕ → Point → Bool
is_taken kind receiver point = takes kind point.situation && eqb (receiver_of kind point) receiver

-- "partners rise": those of these points, each once
unfoldable pub partner_numbers : Book → Kind → ℕ → List ℕ
partner_numbers book kind receiver = ascending (map (partner_of kind) (keep (is_taken kind receiver) book.points))

-- "off-take before injection, up before down"
unfoldable pub directions : List (Supply × Direction)
directions = (OffTake, Up) ∷ (OffTake, Down) ∷ (Injection, Up) ∷ (Injection, Down) ∷ []

-- "Zero watts aren't written"
unfoldable pub is_written : Observation → Bool
is_written o = ltb 0 o.watts

-- ---- partners, of volumes: grains by series and position

abbrev pub Volumes : Type 0
Volumes = Series → ℕ → ℕ

-- "The watts at a position are the series' grains up to it, over 30,240 rounded down, less the same before it."
unfoldable pub observation_by : (ℕ → ℕ) → ℕ → Observation
observation_by grains p = record { position = p; watts = floor_at per_watt grains p }

-- "positions rise": from 1 to the month's last
unfoldable pub observations_by : (ℕ → ℕ) → ℕ → List Observation
observations_by grains last = keep is_written (map (observation_by grains) (range 1 last))

-- "A series is one partner, supply and delivery direction", "the same period, a whole month"
unfoldable pub time_series_by : Volumes → ℕ × ℕ → ℕ → ℕ → Supply × Direction → TimeSeries
time_series_by volumes q last partner d =
    record {
      supply = supply_number d.0;
      delivery = delivery_number d.1;
      year = q.0;
      month = q.1;
      observations = observations_by (volumes (series_of partner d.0 d.1)) last;
    }

-- "nor empty series"
unfoldable pub partner_by : Volumes → ℕ × ℕ → ℕ → ℕ → Partner
partner_by volumes q last partner = record { number = partner; series = keep (λ s. is_some s.observations) (map (time_series_by volumes q last partner) directions) }

-- "nor a partner without a series"
unfoldable pub partners_by : Volumes → ℕ × ℕ → ℕ → List ℕ → List Partner
partners_by volumes q last partners = keep (λ p. is_some p.series) (map (partner_by volumes q last) partners)

unfoldable pub partners_of : Book → Kind → ℕ → List Partner
partners_of book kind receiver = partners_by (grains_at book kind receiver) (book.calendar.year, book.calendar.month) (month_quarters book.calendar) (partner_numbers book kind receiver)

-- the file of a kind for a receiver, with an ID and a moment
unfoldable pub file_of : Book → Kind → ℕ → List ℕ → List ℕ → File
file_of book kind receiver id moment = record { kind = kind; receiver = receiver; id = id; moment = moment; partners = partners_of book kind receiver }

-- "Elements as in case F": its bytes
unfoldable pub file_text : Book → Kind → ℕ → List ℕ → List ℕ → List ℕ
file_text book kind receiver id moment = file_bytes (file_of book kind receiver id moment)

-- "six u64 a row: partner, supply, delivery direction, position, watts, 0"
unfoldable pub file_rows : Book → Kind → ℕ → List Row
file_rows book kind receiver = rows_of (partners_of book kind receiver)

-- "A file without series reads as year 0 and month 0"; else the book's
unfoldable pub month_in : Book → List Row → ℕ × ℕ
month_in book rows = cond (is_some rows) (book.calendar.year, book.calendar.month) (0, 0)

-- the file as it reads: "kind, receiver, year, month and six u64 a row", ID and moment
unfoldable pub message_of : Book → Kind → ℕ → List ℕ → List ℕ → Message
message_of book kind receiver id moment =
    let q : ℕ × ℕ = month_in book (file_rows book kind receiver) in
    record {
      kind = kind;
      receiver = receiver;
      id = id;
      moment = moment;
      year = q.0;
      month = q.1;
      rows = file_rows book kind receiver;
    }
