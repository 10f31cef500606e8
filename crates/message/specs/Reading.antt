-- How the bytes of a file are read, from the inside out: each reading says what it found and what is left behind it. The formats in proofs/ read so.
use Rattle.std.specs.Prelude.{Bool, ◌&&◌, List, [], ◌∷◌, ◌++◌, ℕ, zero, suc, ◌+◌, ◌*◌, leb, ltb, drop}
use Rattle.text.specs.Ascii.{bytes}
use Rattle.formats.specs.Format.{Res}
use Rattle.formats.specs.Combine.{pre_parse, post_parse, seq_parse, map_parse, only_parse}
use Rattle.formats.specs.Words.{words_parse}
use Rattle.formats.specs.Exactly.{exactly_parse, fixed_parse}
use Rattle.formats.specs.Numbers.{number_parse}
use Rattle.formats.specs.Name.{name_byte, name_parse}
use Rattle.formats.specs.Rising.{rising_parse}
use Rattle.moments.specs.Moments.{moment_bytes, period_start, period_end}
use Rattle.kinds.specs.declared.Kind.{Kind}
use Rattle.kinds.specs.declared.Kind.TheVariants.{Toe01, Toe02, Toe03}
use Rattle.message.specs.Contents.{Observation, TimeSeries, Partner, File, place, position, number}
use Rattle.message.specs.Bytes.{opening, ending, closing, element, root, counter, group, partner, digits, supplies, deliveries}
use Rattle.message.specs.Valid.{most, last_position, is_moment, month_of}
use Rattle.message.specs.Months.{follows, next_months}
use Rattle.message.specs.Rows.{Message, message}

-- a number without leading zeros and the < that ends it
unfoldable pub plain_parse : List ℕ → Res ℕ
plain_parse = number_parse 60 most

-- how many follow, at least one
unfoldable pub counted_parse : List ℕ → Res ℕ
counted_parse = only_parse (λ n. ltb 0 n) plain_parse

-- ---- observations

unfoldable pub quantity_parse : List ℕ → Res ℕ
quantity_parse = map_parse (λ (p : ℕ × ℕ). p.0 * 1000 + p.1) (seq_parse (number_parse 46 999999999) (λ k. fixed_parse 3))

-- a position of the month, and watts
abbrev pub observable : ℕ → ℕ × ℕ → Bool
observable last p = leb p.0 last && ltb 0 p.1

abbrev pub observed : ℕ × ℕ → Observation
observed p = record { position = p.0; watts = p.1 }

-- any position and any watts
unfoldable pub position_parse : List ℕ → Res (ℕ × ℕ)
position_parse =
    pre_parse (opening "Observation" ++ opening "Position")
    (seq_parse (post_parse plain_parse (λ p. ending "Position" ++ opening "Quantity"))
    (λ p. post_parse quantity_parse (λ w. closing "Quantity" ++ closing "Observation")))

unfoldable pub observation_parse : ℕ → List ℕ → Res Observation
observation_parse last = map_parse observed (only_parse (observable last) position_parse)

-- n of them, from position 1 on
unfoldable pub observations_parse : ℕ → ℕ → List ℕ → Res (List Observation)
observations_parse last n = rising_parse {S = Unit {0}} (λ u. observation_parse last) position (λ u o. u) n 1 tt

-- ---- the period

unfoldable pub is_period : ℕ × ℕ → Bool
is_period q = (leb 2018 q.0 && leb q.0 2099) && (leb 1 q.1 && leb q.1 12)

-- what follows year and month
unfoldable pub behind_month : ℕ × ℕ → List ℕ
behind_month q =
    drop 7 (moment_bytes (period_start q.0 q.1)) ++ closing "PeriodStart"
    ++ element "PeriodEnd" (moment_bytes (period_end q.0 q.1))
    ++ element "PeriodResolution" (bytes "PT15M")

-- the year and the month of its first moment
unfoldable pub month_parse : List ℕ → Res (ℕ × ℕ)
month_parse = only_parse is_period (pre_parse (opening "PeriodStart") (seq_parse (post_parse (fixed_parse 4) (λ y. bytes "-")) (λ y. fixed_parse 2)))

unfoldable pub period_parse : List ℕ → Res (ℕ × ℕ)
period_parse = map_parse (λ q. q) (post_parse month_parse behind_month)

-- ---- a time series

-- delivery direction, how many observations, their month and they
abbrev pub Volume : Type 0
Volume = ℕ × (ℕ × ((ℕ × ℕ) × List Observation))

-- a series of any supply direction
unfoldable pub of_volume : ℕ → Volume → TimeSeries
of_volume supply v = record { supply = supply; delivery = v.0; year = v.1.1.0.0; month = v.1.1.0.1; observations = v.1.1.1 }

unfoldable pub volume_parse : List ℕ → Res Volume
volume_parse =
    pre_parse (opening "DeliveryDirection")
    (seq_parse (post_parse (words_parse deliveries) (λ d. closing "DeliveryDirection" ++ element "UnitType" (bytes "KWT") ++ opening "ObservationCounter"))
    (λ d. seq_parse (post_parse counted_parse (λ n. ending "ObservationCounter" ++ opening "TimeSeriesPeriod"))
    (λ n. seq_parse period_parse (λ q. post_parse (observations_parse (last_position q.0 q.1) n) (λ l. closing "TimeSeriesPeriod")))))

-- its supply direction in it (TOE01, TOE02), or that of its access point (TOE03)
unfoldable pub own_series_parse : List ℕ → Res TimeSeries
own_series_parse =
    map_parse (λ (p : ℕ × Volume). of_volume p.0 p.1) (pre_parse (opening "ToETimeSeries" ++ opening "SupplyDirection")
    (seq_parse (post_parse (words_parse supplies) (λ x. closing "SupplyDirection")) (λ x. post_parse volume_parse (λ v. closing "ToETimeSeries"))))

unfoldable pub shared_series_parse : ℕ → List ℕ → Res TimeSeries
shared_series_parse x = map_parse (of_volume x) (pre_parse (opening "ToETimeSeries") (post_parse volume_parse (λ v. closing "ToETimeSeries")))

-- n series of a reading: they rise, and each is of the month that was seen before it
unfoldable pub series_list_parse : (List ℕ → Res TimeSeries) → ℕ → ℕ × ℕ → List ℕ → Res (List TimeSeries)
series_list_parse f n seen = map_parse (λ l. l) (rising_parse (λ q. only_parse (λ s. follows q (month_of s)) f) place (λ q s. month_of s) n 0 seen)

-- ---- a partner

-- with the supply direction in each time series (TOE01, TOE02)
unfoldable pub own_partner_parse : Kind → ℕ × ℕ → List ℕ → Res Partner
own_partner_parse k seen =
    map_parse (λ (p : ℕ × (ℕ × List TimeSeries)). record { number = p.0; series = p.1.1 }) (pre_parse (opening (group k) ++ opening (partner k))
    (seq_parse (post_parse (fixed_parse (digits k)) (λ a. closing (partner k) ++ opening "DirectionCounter"))
    (λ a. seq_parse (post_parse counted_parse (λ n. ending "DirectionCounter"))
    (λ n. post_parse (series_list_parse own_series_parse n seen) (λ l. closing (group k))))))

-- with the supply direction of the access point (TOE03)
unfoldable pub shared_partner_parse : ℕ × ℕ → List ℕ → Res Partner
shared_partner_parse seen =
    map_parse (λ (p : ℕ × (ℕ × (ℕ × List TimeSeries))). record { number = p.0; series = p.1.1.1 }) (pre_parse (opening (group Toe03) ++ opening (partner Toe03))
    (seq_parse (post_parse (fixed_parse (digits Toe03)) (λ a. closing (partner Toe03) ++ opening "SupplyDirection"))
    (λ a. seq_parse (post_parse (words_parse supplies) (λ x. closing "SupplyDirection" ++ opening "DirectionCounter"))
    (λ x. seq_parse (post_parse counted_parse (λ n. ending "DirectionCounter"))
    (λ n. post_parse (series_list_parse (shared_series_parse x) n seen) (λ l. closing (group Toe03)))))))

unfoldable pub partner_parse : Kind → ℕ × ℕ → List ℕ → Res Partner
partner_parse Toe01 seen = own_partner_parse Toe01 seen
partner_parse Toe02 seen = own_partner_parse Toe02 seen
partner_parse Toe03 seen = shared_partner_parse seen

-- ---- the file

-- the kind, by the root's name
unfoldable pub roots : List (List ℕ)
roots = opening (root Toe01) ∷ opening (root Toe02) ∷ opening (root Toe03) ∷ []

unfoldable pub kind_of : ℕ → Kind
kind_of zero = Toe01
kind_of (suc zero) = Toe02
kind_of (suc (suc n)) = Toe03

unfoldable pub kind_parse : List ℕ → Res Kind
kind_parse = map_parse kind_of (words_parse roots)

-- n partners: they rise, and the first is of any month
unfoldable pub partners_parse : Kind → ℕ → List ℕ → Res (List Partner)
partners_parse k n = rising_parse (partner_parse k) number next_months n 0 (0, 0)

abbrev pub Parts : Type 0
Parts = Kind × (List ℕ × (List ℕ × (ℕ × (ℕ × List Partner))))

unfoldable pub file_of : Parts → File
file_of p = record { kind = p.0; receiver = p.1.1.1.0; id = p.1.0; moment = p.1.1.0; partners = p.1.1.1.1.1 }

unfoldable pub file_parse : List ℕ → Res File
file_parse =
    map_parse file_of (seq_parse kind_parse (λ k. pre_parse (opening "TransactionID")
    (seq_parse (post_parse (name_parse name_byte 1 36 60) (λ i. ending "TransactionID" ++ opening "MessageCreateDateTime"))
    (λ i. seq_parse (post_parse (exactly_parse 29 is_moment) (λ m. closing "MessageCreateDateTime" ++ opening "ReceiverID"))
    (λ m. seq_parse (post_parse (fixed_parse 10) (λ r. closing "ReceiverID" ++ opening (counter k)))
    (λ r. seq_parse (post_parse plain_parse (λ n. ending (counter k)))
    (λ n. post_parse (partners_parse k n) (λ l. closing (root k)))))))))

-- a file by its rows
unfoldable pub message_parse : List ℕ → Res Message
message_parse = map_parse message file_parse
