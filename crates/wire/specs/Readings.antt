-- "96 signed 32-bit watts, .., off-take positive, or -2^31 for missing" (document 01, "The book", section 4)
use Rattle.std.specs.Prelude.{ℕ, suc, ◌*◌, Bool, true, false, List, ℤ, pos, negsuc, ◌==◌, Option, Some, None}
use Rattle.std.specs.Int.{w32}
use Rattle.std.proofs.Common.{to_z}
use Rattle.wire.specs.Numbers.{number_at}

-- a reading: watts, off-take positive, or none
abbrev pub Reading : Type 0
Reading = Option ℤ

-- the signed number in the 4 bytes of reading i
abbrev pub watts_at : List ℕ → ℕ → ℤ
watts_at xs i = to_z w32 (number_at xs (4 * i) 4)

abbrev pub missing_if : Bool → Reading → Reading
missing_if true r = None
missing_if false r = r

-- "-2^31 for missing"; `negsuc w` is - (w + 1)
unfoldable pub reading_of : ℤ → Reading
reading_of (pos w) = Some (pos w)
reading_of (negsuc w) = missing_if (suc w == 2147483648) (Some (negsuc w))

abbrev pub reading_at : List ℕ → ℕ → Reading
reading_at xs i = reading_of (watts_at xs i)
