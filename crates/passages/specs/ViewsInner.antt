-- What the code's values say: an observation, and the year and month of a period.
use Rattle.std.specs.Prelude.{List, ℕ, Option, Some, None, Bool, true, false}
use Rattle.text.specs.Ascii.{bytes}
use Rattle.formats.specs.Format.{Res}
use Rattle.formats.specs.Combine.{pre_parse, post_parse, seq_parse}
use Rattle.formats.specs.Exactly.{fixed_parse}
use Rattle.calendar.specs.declared.dates.Month.{Month}
use Rattle.message.specs.Bytes.{opening}
use Rattle.message.specs.Contents.{Observation}
use Rattle.message.specs.Reading.{is_period}
use Rattle.passages.specs.declared.ReadObservation.{ReadObservation}

-- "supply direction (0 off-take, 1 injection)", "direction (0 up, 1 down)"
abbrev pub bit : Bool → ℕ
bit true = 1
bit false = 0

abbrev pub numbers_of : ReadObservation → ℕ × ℕ
numbers_of o = (o.position, o.watts)

abbrev pub observation_of : ReadObservation → Observation
observation_of o = record { position = o.position; watts = o.watts }

abbrev pub year_and_month : Month → ℕ × ℕ
year_and_month m = (m.year, m.month)

-- the year and month of a period, where it is one
abbrev pub kept_if : Bool → ℕ × ℕ → Option (ℕ × ℕ)
kept_if true q = Some q
kept_if false q = None

abbrev pub month_in : ℕ × ℕ → Option (ℕ × ℕ)
month_in q = kept_if (is_period q) q

-- any year and month, where a period's first moment has them
abbrev pub any_month_parse : List ℕ → Res (ℕ × ℕ)
any_month_parse = pre_parse (opening "PeriodStart") (seq_parse (post_parse (fixed_parse 4) (λ y. bytes "-")) (λ y. fixed_parse 2))
