-- The parts of a file as they are laid, one behind the other: what stands before the parts that each holds, and what behind.
use Rattle.std.specs.Prelude.{List, ◌++◌, ℕ}
use Rattle.text.specs.Ascii.{bytes}
use Rattle.text.specs.Decimal.{fixed, plain}
use Rattle.formats.specs.Words.{word_at}
use Rattle.kinds.specs.declared.Kind.{Kind}
use Rattle.message.specs.Bytes.{opening, closing, element, root, counter, group, partner, digits, period_bytes, supply_bytes, deliveries, in_series, with_partner}

-- ---- tags, by the bytes of their names: <name>, </name>, and an element

abbrev pub open_tag : List ℕ → List ℕ
open_tag name = bytes "<" ++ (name ++ bytes ">")

abbrev pub close_tag : List ℕ → List ℕ
close_tag name = bytes "</" ++ (name ++ bytes ">")

abbrev pub element_of : List ℕ → List ℕ → List ℕ
element_of name content = open_tag name ++ (content ++ close_tag name)

-- ---- a time series

unfoldable pub delivery_bytes : ℕ → List ℕ
delivery_bytes delivery = element "DeliveryDirection" (word_at deliveries delivery)

-- from its delivery direction up to its observations, of which there are n
unfoldable pub head_bytes : ℕ → ℕ → ℕ → ℕ → List ℕ
head_bytes delivery n year month =
    delivery_bytes delivery ++ (element "UnitType" (bytes "KWT") ++ (element "ObservationCounter" (plain n) ++ (opening "TimeSeriesPeriod" ++ period_bytes year month)))

unfoldable pub series_head : Kind → ℕ → ℕ → ℕ → ℕ → ℕ → List ℕ
series_head k supply delivery n year month = opening "ToETimeSeries" ++ (in_series k (supply_bytes supply) ++ head_bytes delivery n year month)

unfoldable pub series_end : List ℕ
series_end = closing "TimeSeriesPeriod" ++ closing "ToETimeSeries"

-- ---- a partner, up to its series, of which there are n

unfoldable pub partner_head : Kind → ℕ → ℕ → ℕ → List ℕ
partner_head k number supply n =
    opening (group k) ++ (element (partner k) (fixed (digits k) number) ++ (with_partner k (supply_bytes supply) ++ element "DirectionCounter" (plain n)))

unfoldable pub partner_end : Kind → List ℕ
partner_end k = closing (group k)

-- ---- a file, up to its partners, of which there are n

unfoldable pub origin_bytes : Kind → List ℕ → List ℕ → List ℕ
origin_bytes k id moment = opening (root k) ++ (element "TransactionID" id ++ element "MessageCreateDateTime" moment)

unfoldable pub file_head : Kind → List ℕ → List ℕ → ℕ → ℕ → List ℕ
file_head k id moment receiver n = origin_bytes k id moment ++ (element "ReceiverID" (fixed 10 receiver) ++ element (counter k) (plain n))

unfoldable pub file_end : Kind → List ℕ
file_end k = closing (root k)
