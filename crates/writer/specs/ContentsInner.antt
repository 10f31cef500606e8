-- What rows hold: their observations, their series and their partners.
use Rattle.std.specs.Prelude.{List, [], map, ℕ, get_or}
use Rattle.message.specs.Contents.{Observation, TimeSeries, Partner}
use Rattle.message.specs.Keys.{directions_keys}
use Rattle.message.specs.Group.{group}
use Rattle.message.specs.Rows.{Message, series_of, partners_of}
use Rattle.emitter.specs.declared.Title.{Title}
use Rattle.writer.specs.RowsInner.{row_in}

abbrev pub observations_in : List (List ℕ) → List Observation
observations_in rows = map (λ r. r.1.1) (map row_in rows)

-- rows of the same directions as a series of the month q
abbrev pub series_at : ℕ × ℕ → List (List ℕ) → TimeSeries
series_at q rows = record { supply = get_or (get_or rows 0 []) 1 0; delivery = get_or (get_or rows 0 []) 2 0; year = q.0; month = q.1; observations = observations_in rows }

-- the series of rows of one partner
abbrev pub series_in : ℕ × ℕ → List (List ℕ) → List TimeSeries
series_in q rows = map (series_of q) (group directions_keys (map (λ r. r.1) (map row_in rows)))

abbrev pub partner_at : ℕ × ℕ → List (List ℕ) → Partner
partner_at q rows = record { number = get_or (get_or rows 0 []) 0 0; series = series_in q rows }

abbrev pub partners_in : ℕ × ℕ → List (List ℕ) → List Partner
partners_in q rows = partners_of q (map row_in rows)

-- the file of rows
abbrev pub message_by : Title → List ℕ → List ℕ → List (List ℕ) → Message
message_by title id moment rows = record { kind = title.kind; receiver = title.receiver; id = id; moment = moment; year = title.year; month = title.month; rows = map row_in rows }
