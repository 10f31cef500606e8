-- A reading raised by 2^31 watts, which has no sign; a missing one is 0.
use Rattle.std.specs.Prelude.{◌≡◌, ℕ, ◌≤◌, List, pos, ◌+ℤ◌, Option, Some, None}
use Rattle.integers.proofs.ZLaws.{up, Within}
use Rattle.wire.specs.Readings.{Reading, watts_at, reading_at}

-- what a raised reading has more than the reading, in watts: the least reading that isn't missing is then 1
abbrev pub raise : ℕ
raise = 2147483648

-- a reading without a sign: its watts and the raise, and 0 where it is missing
unfoldable pub raised : Reading → ℕ
raised (Some z) = up (z +ℤ pos raise)
raised None = 0

-- r is reading i, raised; and what stands there is a number of 32 bits
pub record Raised (xs : List ℕ) (i r : ℕ) : Type 0 where
  pub is : r ≡ raised (reading_at xs i)
  pub range : Within (watts_at xs i) raise

-- the same of one that is there, which isn't 0, or of none
abbrev pub RaisedIf : List ℕ → ℕ → Option ℕ → Type 0
RaisedIf xs i (Some r) = Raised xs i r × (1 ≤ r)
RaisedIf xs i None = Raised xs i 0
