-- Decimals as bytes.
use Rattle.std.specs.Prelude.{Bool, true, false, ◌&&◌, List, [], ◌∷◌, ℕ, zero, suc, ◌+◌, ◌-◌, ◌*◌, ◌/◌, ◌%◌, ◌^◌, length, take, drop, leb, Option, Some, None}

-- the bytes '0' to '9'
abbrev pub digit : ℕ → Bool
digit x = leb 48 x && leb x 57

unfoldable pub digits : List ℕ → Bool
digits [] = true
digits (x ∷ l) = digit x && digits l

-- the number that digits say, the most significant first, behind those that say acc
unfoldable pub value_from : ℕ → List ℕ → ℕ
value_from acc [] = acc
value_from acc (x ∷ l) = value_from (acc * 10 + (x - 48)) l

abbrev pub value_of : List ℕ → ℕ
value_of l = value_from 0 l

-- v without its last n digits
unfoldable pub above : ℕ → ℕ → ℕ
above n v = v / 10 ^ n

-- v's last n digits, the most significant first
unfoldable pub fixed : ℕ → ℕ → List ℕ
fixed zero v = []
fixed (suc n) v = (48 + above n v % 10) ∷ fixed n v

-- how many digits w has, and none for 0; n is at least as many
unfoldable pub count : ℕ → ℕ → ℕ
count zero w = 0
count (suc n) zero = 0
count (suc n) (suc w) = suc (count n (suc w / 10))

-- v without leading zeros: its last digit, behind those that the rest has
unfoldable pub plain : ℕ → List ℕ
plain v = fixed (suc (count v (v / 10))) v

-- what stands at a place, read as a number of n digits
abbrev pub pick_number : Bool → Option ℕ → Option ℕ
pick_number true r = r
pick_number false r = None

unfoldable pub fixed_at : List ℕ → ℕ → ℕ → Option ℕ
fixed_at s at n =
    pick_number (leb (at + n) (length s))
    (pick_number (digits (take n (drop at s))) (Some (value_of (take n (drop at s)))))
