-- Runs of readings, and their sums.
use Rattle.std.specs.Prelude.{◌≡◌, true, false, Option, Some, None, List, map, ℕ, ◌*◌, ◌≤◌}
use Rattle.integers.specs.Ranges.{range}
use Rattle.integers.specs.Sums.{sum_z}
use Rattle.integers.proofs.ZLaws.{Over}
use Rattle.wire.specs.Readings.{Reading, reading_at}
use Rattle.volumes.specs.Baseline.{watts, complete}
use Rattle.wire.specs.ReadingsInner.{raise}

-- n readings from reading `at` on
abbrev pub in_run : List ℕ → ℕ → ℕ → List Reading
in_run readings at n = map (reading_at readings) (range at n)

-- the sum of a list of n readings with a raise for each, where none is missing
pub record Summed (list : List Reading) (n sum : ℕ) : Type 0 where
  pub over : complete list ≡ true → Over (raise * n) (sum_z watts list) sum
  pub small : sum ≤ 4294967295 * n

-- that sum, and nothing where a reading is missing
abbrev pub Tallied : List Reading → ℕ → Option ℕ → Type 0
Tallied list n (Some sum) = (complete list ≡ true) × Summed list n sum
Tallied list n None = complete list ≡ false

-- no sum is more than this
abbrev pub AtMost : ℕ → Option ℕ → Type 0
AtMost most (Some sum) = sum ≤ most
AtMost most None = Unit {0}
