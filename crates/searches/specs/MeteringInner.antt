-- A reading's range, told from the raised reading; and whether some readings hold one out of range.
use Rattle.std.specs.Prelude.{Bool, not, ◌&&◌, ◌||◌, List, ℕ, ◌+◌, ◌-◌, ◌^◌, eqb, ltb}
use Rattle.integers.specs.First.{any_below}
use Rattle.wire.specs.ReadingsInner.{raise}
use Rattle.book.specs.Metering.{bad_reading}

-- the same of a raised reading, 0 being missing: `outside_is` of MeteringLaws
abbrev pub is_outside : ℕ → Bool
is_outside r = not (eqb r 0) && (ltb r (raise - 10 ^ 9) || ltb (raise + 10 ^ 9) r)

-- one of n readings from `at` on is bad
unfoldable pub any_bad : List ℕ → ℕ → ℕ → Bool
any_bad readings at n = any_below (λ k. bad_reading readings (at + k)) n
