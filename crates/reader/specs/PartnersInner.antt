-- What the code keeps of a partner, and what hangs on those before it.
use Rattle.std.specs.Prelude.{ℕ, leb}
use mathlib.Core.List.{List, flat_map}
use Rattle.formats.specs.Format.{Res}
use Rattle.formats.specs.Combine.{pre_parse, post_parse, seq_parse, map_parse, only_parse}
use Rattle.formats.specs.Exactly.{fixed_parse}
use Rattle.kinds.specs.declared.Kind.{Kind}
use Rattle.message.specs.Contents.{TimeSeries, Partner, number}
use Rattle.message.specs.Bytes.{ending}
use Rattle.message.specs.Valid.{periods}
use Rattle.message.specs.Months.{after, next_months}
use Rattle.message.specs.Rows.{Row}
use Rattle.message.specs.Reading.{counted_parse, own_series_parse, series_list_parse, partner_parse}
use Rattle.series_reader.specs.RowsInner.{rows_of_partner}
use Rattle.series_reader.specs.ViewsInner.{month_seen}
use Rattle.reader.specs.declared.partners.ReadPartner.{ReadPartner}

-- a supplier or an FSP, by the tags before and behind its number and at its end
unfoldable pub company_parse : List ℕ → List ℕ → List ℕ → ℕ × ℕ → List ℕ → Res Partner
company_parse before behind end seen =
    map_parse (λ (p : ℕ × (ℕ × List TimeSeries)). record { number = p.0; series = p.1.1 }) (pre_parse before
    (seq_parse (post_parse (fixed_parse 10) (λ a. behind))
    (λ a. seq_parse (post_parse counted_parse (λ n. ending "DirectionCounter"))
    (λ n. post_parse (series_list_parse own_series_parse n seen) (λ l. end)))))

-- its number, and the month that is seen behind it
abbrev pub kept_of_partner : ℕ × ℕ → Partner → ℕ × (ℕ × ℕ)
kept_of_partner seen p = (p.number, next_months seen p)

abbrev pub partner_told : ReadPartner → ℕ × (ℕ × ℕ)
partner_told t = (t.number, month_seen t.seen.month)

-- the next partner: of a number from low on
abbrev pub next_partner : Kind → ℕ × (ℕ × ℕ) → List ℕ → Res Partner
next_partner k st = only_parse (λ p. leb st.0 (number p)) (partner_parse k st.1)

unfoldable pub rows_of_partners : List Partner → List Row
rows_of_partners l = flat_map rows_of_partner l

-- the month that is seen behind all
abbrev pub month_behind : List Partner → ℕ × ℕ
month_behind l = after (0, 0) (periods l)
