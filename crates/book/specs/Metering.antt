-- Document 01, "The book", section 4: the readings.
use Rattle.std.specs.Prelude.{Bool, true, not, ◌&&◌, List, ℕ, ◌+◌, ◌*◌, ◌/◌, ◌^◌, pos, neg_ℤ, Some, None}
use Rattle.std.proofs.Math.Option.{Option, none, some}
use Rattle.std.specs.Int.Signed.{le_z}
use Rattle.integers.specs.First.{first}
use Rattle.wire.specs.Readings.{Reading, reading_at}
use Rattle.quarters.specs.declared.Calendar.{Calendar}
use Rattle.quarters.specs.Quarters.{quarters_of, origin_of}

-- "by point, by day, .. signed 32-bit watts": of point p at quarter-hour k of the calendar
abbrev pub meter_at : Calendar → List ℕ → ℕ → ℕ → Reading
meter_at c readings p k = reading_at readings (origin_of c p + k)

-- "each from -10^9 to 10^9, off-take positive, or -2^31 for missing, which any may be"
unfoldable pub reading_good : Reading → Bool
reading_good (Some w) = le_z (neg_ℤ (pos (10 ^ 9))) w && le_z w (pos (10 ^ 9))
reading_good None = true

abbrev pub bad_reading : List ℕ → ℕ → Bool
bad_reading readings i = not (reading_good (reading_at readings i))

abbrev pub point_of_reading : ℕ → Option ℕ → Option ℕ
point_of_reading quarters none = none
point_of_reading quarters (some i) = some (i / quarters)

-- "6, point: first reading out of range", among those of n points
unfoldable pub first_bad_reading : Calendar → List ℕ → ℕ → Option ℕ
first_bad_reading c readings n = point_of_reading (quarters_of c) (first (bad_reading readings) 0 (quarters_of c * n))
