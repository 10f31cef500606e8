-- A file's bytes: "Elements as in case F, no white space".
use mathlib.Core.List.{List, [], ◌∷◌, ◌++◌, flat_map}
use Rattle.std.specs.Prelude.{ℕ, ◌/◌, ◌%◌, length}
use Prim.Native.String.{String}
use Rattle.text.specs.Ascii.{bytes}
use Rattle.text.specs.Decimal.{fixed, plain}
use Rattle.formats.specs.Words.{word_at}
use Rattle.moments.specs.Moments.{moment_bytes, period_start, period_end}
use Rattle.kinds.specs.declared.Kind.{Kind}
use Rattle.kinds.specs.declared.Kind.TheVariants.{Toe01, Toe02, Toe03}
use Rattle.message.specs.Contents.{Observation, TimeSeries, Partner, File}

-- <name>, /name>, </name> (60 is the byte <), and an element
unfoldable pub opening : String → List ℕ
opening name = bytes "<" ++ bytes name ++ bytes ">"

unfoldable pub ending : String → List ℕ
ending name = bytes "/" ++ bytes name ++ bytes ">"

unfoldable pub closing : String → List ℕ
closing name = 60 ∷ ending name

abbrev pub element : String → List ℕ → List ℕ
element name content = opening name ++ content ++ closing name

-- ---- the names that hang on the kind

unfoldable pub root : Kind → String
root Toe01 = "AggregatedToEVolumesForFSP"
root Toe02 = "AggregatedToEVolumesForSupplier"
root Toe03 = "IndividualToEVolumesForSupplier"

unfoldable pub counter : Kind → String
counter Toe01 = "SupplierCounter"
counter Toe02 = "FSPCounter"
counter Toe03 = "SDPSupplyCounter"

unfoldable pub group : Kind → String
group Toe01 = "SupplierSeries"
group Toe02 = "FspSeries"
group Toe03 = "SDPSupplySeries"

unfoldable pub partner : Kind → String
partner Toe01 = "SupplierEnterpriseNumber"
partner Toe02 = "FSPEnterpriseNumber"
partner Toe03 = "SDPSupply"

-- "Numbers of companies have 10 digits, EANs 18"
unfoldable pub digits : Kind → ℕ
digits Toe01 = 10
digits Toe02 = 10
digits Toe03 = 18

-- ---- from the inside out

-- "Quantity is kilowatts with three decimals", of watts
unfoldable pub quantity_bytes : ℕ → List ℕ
quantity_bytes watts = plain (watts / 1000) ++ bytes "." ++ fixed 3 (watts % 1000)

unfoldable pub observation_bytes : Observation → List ℕ
observation_bytes o = element "Observation" (element "Position" (plain o.position) ++ element "Quantity" (quantity_bytes o.watts))

-- the period of a month: "Offset +02:00 from the last Sunday of March to that of October, else +01:00", of each end its own
unfoldable pub period_bytes : ℕ → ℕ → List ℕ
period_bytes year month =
    element "PeriodStart" (moment_bytes (period_start year month))
    ++ element "PeriodEnd" (moment_bytes (period_end year month))
    ++ element "PeriodResolution" (bytes "PT15M")

-- "supply direction (0 off-take, 1 injection)", "direction (0 up, 1 down)", in case F's words
unfoldable pub supplies : List (List ℕ)
supplies = bytes "Off-take" ∷ bytes "Injection" ∷ []

unfoldable pub deliveries : List (List ℕ)
deliveries = bytes "DeliveryUp" ∷ bytes "DeliveryDown" ∷ []

unfoldable pub supply_bytes : ℕ → List ℕ
supply_bytes supply = element "SupplyDirection" (word_at supplies supply)

-- a time series from its delivery direction on
unfoldable pub volume_bytes : TimeSeries → List ℕ
volume_bytes s =
    element "DeliveryDirection" (word_at deliveries s.delivery)
    ++ element "UnitType" (bytes "KWT")
    ++ element "ObservationCounter" (plain (length s.observations))
    ++ element "TimeSeriesPeriod" (period_bytes s.year s.month ++ flat_map observation_bytes s.observations)

-- the supply direction stands in the time series, or, in TOE03, with the access point
abbrev pub in_series : Kind → List ℕ → List ℕ
in_series Toe01 b = b
in_series Toe02 b = b
in_series Toe03 b = []

abbrev pub with_partner : Kind → List ℕ → List ℕ
with_partner Toe01 b = []
with_partner Toe02 b = []
with_partner Toe03 b = b

unfoldable pub series_bytes : Kind → TimeSeries → List ℕ
series_bytes k s = element "ToETimeSeries" (in_series k (supply_bytes s.supply) ++ volume_bytes s)

-- a partner's supply direction, where it has one: that of its first series
unfoldable pub supply_of : List TimeSeries → ℕ
supply_of [] = 0
supply_of (s ∷ l) = s.supply

unfoldable pub partner_bytes : Kind → Partner → List ℕ
partner_bytes k p =
    element (group k) (element (partner k) (fixed (digits k) p.number)
    ++ with_partner k (supply_bytes (supply_of p.series))
    ++ element "DirectionCounter" (plain (length p.series))
    ++ flat_map (series_bytes k) p.series)

unfoldable pub file_bytes : File → List ℕ
file_bytes f =
    element (root f.kind) (element "TransactionID" f.id
    ++ element "MessageCreateDateTime" f.moment
    ++ element "ReceiverID" (fixed 10 f.receiver)
    ++ element (counter f.kind) (plain (length f.partners))
    ++ flat_map (partner_bytes f.kind) f.partners)
