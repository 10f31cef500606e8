-- Document 01, "The book", section 3: the register of delivery points.
use Rattle.std.specs.Prelude.{Bool, false, cond, not, ◌&&◌, ◌||◌, List, ℕ, zero, suc, ◌/◌, ◌%◌, ◌^◌, eqb, leb, ltb}
use Rattle.integers.specs.First.{any_below}
use Rattle.wire.specs.Numbers.{number_at}
use Rattle.book.specs.Header.{splits, point_width, row_at}
use Rattle.book.specs.declared.Situation.{Situation}
use Rattle.book.specs.declared.Situation.TheVariants.{Transfer, PassThrough, OptOut, NetInjector}
use Rattle.book.specs.declared.Supply.{Supply}
use Rattle.book.specs.declared.Supply.TheVariants.{OffTake, Injection}
use Rattle.book.specs.declared.Method.{Method}
use Rattle.book.specs.declared.Method.TheVariants.{LastQuarter, HighXOfY, Adjusted}
use Rattle.book.specs.declared.Point.{Point}
use Rattle.book.specs.declared.Takers.{Takers}
use Rattle.book.specs.declared.Takers.TheVariants.{Aggregated, Individual, Neither, Refused}

-- "situation (0 transfer, 1 pass-through, 2 opt-out, 3 net injector)"
abbrev pub situation_of : ℕ → Situation
situation_of zero = Transfer
situation_of (suc zero) = PassThrough
situation_of (suc (suc zero)) = OptOut
situation_of (suc (suc (suc n))) = NetInjector

-- "TOE01 .. and TOE02 .. take transfer points; TOE03 .. takes pass-through points; the rest appear in none"; other values are refused
abbrev pub takers_of : ℕ → Takers
takers_of zero = Aggregated
takers_of (suc zero) = Individual
takers_of (suc (suc zero)) = Neither
takers_of (suc (suc (suc zero))) = Neither
takers_of (suc (suc (suc (suc n)))) = Refused

-- "supply direction (0 off-take, 1 injection)"
abbrev pub supply_of : ℕ → Supply
supply_of zero = OffTake
supply_of (suc n) = Injection

-- "method (0 last quarter-hour, 1 High X of Y, 2 the same with adjustment)"
abbrev pub method_of : ℕ → Method
method_of zero = LastQuarter
method_of (suc zero) = HighXOfY
method_of (suc (suc n)) = Adjusted

-- "delivery point EAN u64, access point EAN u64 (below 10^18), supplier u64, FSP u64 (below 10^10), excluded-days mask u64, largest upward and
-- downward watts (u32, at most 10^9), source balance party u16, FSP balance party u16, then one byte each: situation .., supply direction .., method"
abbrev pub delivery_in : List ℕ → ℕ
delivery_in row = number_at row 0 8

abbrev pub access_in : List ℕ → ℕ
access_in row = number_at row 8 8

abbrev pub supplier_in : List ℕ → ℕ
supplier_in row = number_at row 16 8

abbrev pub fsp_in : List ℕ → ℕ
fsp_in row = number_at row 24 8

abbrev pub mask_in : List ℕ → ℕ
mask_in row = number_at row 32 8

abbrev pub upward_in : List ℕ → ℕ
upward_in row = number_at row 40 4

abbrev pub downward_in : List ℕ → ℕ
downward_in row = number_at row 44 4

abbrev pub source_party_in : List ℕ → ℕ
source_party_in row = number_at row 48 2

abbrev pub fsp_party_in : List ℕ → ℕ
fsp_party_in row = number_at row 50 2

-- 02, C-14: "the injection party in bytes 56 and 57 of the register row"; in version 1 they are zero, and no party
abbrev pub injection_party_in : List ℕ → ℕ
injection_party_in row = number_at row 56 2

abbrev pub situation_in : List ℕ → ℕ
situation_in row = number_at row 52 1

abbrev pub supply_in : List ℕ → ℕ
supply_in row = number_at row 53 1

abbrev pub method_in : List ℕ → ℕ
method_in row = number_at row 54 1

-- the delivery point that a row describes
abbrev pub point_of : List ℕ → Point
point_of row =
    record {
      delivery = delivery_in row;
      access = access_in row;
      supplier = supplier_in row;
      fsp = fsp_in row;
      mask = mask_in row;
      upward = upward_in row;
      downward = downward_in row;
      sourceparty = source_party_in row;
      fspparty = fsp_party_in row;
      injectionparty = injection_party_in row;
      situation = situation_of (situation_in row);
      takers = takers_of (situation_in row);
      supply = supply_of (supply_in row);
      method = method_of (method_in row);
    }

-- row i of the register, and its delivery point
abbrev pub register_row : List ℕ → ℕ → List ℕ
register_row register i = row_at point_width register i

abbrev pub point_at : List ℕ → ℕ → Point
point_at register i = point_of (register_row register i)

-- "Bit d of the mask, counted from the lowest, excludes day d"
abbrev pub excludes : ℕ → ℕ → Bool
excludes mask d = eqb (mask / 2 ^ d % 2) 1

-- the numbers: "below 10^18", "below 10^10", "bits from N up are 0", "at most 10^9"
unfoldable pub numbers_good : ℕ → List ℕ → Bool
numbers_good days row =
    ltb (delivery_in row) (10 ^ 18)
    && (ltb (access_in row) (10 ^ 18)
    && (ltb (supplier_in row) (10 ^ 10)
    && (ltb (fsp_in row) (10 ^ 10)
    && (ltb (mask_in row) (2 ^ days)
    && (leb (upward_in row) (10 ^ 9) && leb (downward_in row) (10 ^ 9))))))

-- the bytes that are no column: "nine zero bytes"; 02, C-14: in version 2 "bytes 55 and 58 to 63 remain zero"
unfoldable pub rest_good : ℕ → List ℕ → Bool
rest_good version row =
    cond (splits version)
    (eqb (number_at row 55 1) 0 && eqb (number_at row 58 6) 0)
    (eqb (number_at row 55 9) 0)

-- the bytes: a situation, a supply direction and a method that there are, and the rest
unfoldable pub bytes_good : ℕ → List ℕ → Bool
bytes_good version row = leb (situation_in row) 3 && (leb (supply_in row) 1 && (leb (method_in row) 2 && rest_good version row))

-- "Delivery EANs rise strictly.": row i is not above the row before it
abbrev pub not_above : List ℕ → ℕ → Bool
not_above register zero = false
not_above register (suc i) = leb (delivery_in (register_row register (suc i))) (delivery_in (register_row register i))

-- "Rows of one access point share supplier and supply direction.": rows i and j don't
abbrev pub differs : List ℕ → ℕ → ℕ → Bool
differs register i j =
    eqb (access_in (register_row register i)) (access_in (register_row register j))
    && not (eqb (supplier_in (register_row register i)) (supplier_in (register_row register j)) && eqb (supply_in (register_row register i)) (supply_in (register_row register j)))

-- "first bad register row (of two, the later)": by its own fields, by the row before it, or by an earlier row of its access point
unfoldable pub bad_point : ℕ → ℕ → List ℕ → ℕ → Bool
bad_point version days register i =
    not (numbers_good days (register_row register i) && bytes_good version (register_row register i))
    || (not_above register i || any_below (differs register i) i)
