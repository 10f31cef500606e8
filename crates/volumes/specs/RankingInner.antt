-- The sum of the largest.
use Rattle.std.specs.Prelude.{List, ℕ, ℤ, take}
use Rattle.integers.specs.Sums.{sum_z}
use Rattle.volumes.specs.Ranking.{ranked}

-- the sum of the n largest, of which LargestLaws speaks
unfoldable pub sum_of_largest {ℓ} : {A : Type ℓ} → (A → ℤ) → ℕ → List A → ℤ
sum_of_largest key n l = sum_z key (take n (ranked key l))
