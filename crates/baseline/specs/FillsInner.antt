-- What a raised baseline says of the readings that it is made of.
use Rattle.std.specs.Prelude.{◌≡◌, true, List, ℕ, ◌+◌, ◌≤◌, ◌<◌, ◌*◌, ℤ, pos, ◌+ℤ◌, ◌*ℤ◌, get_or, drop}
use Rattle.integers.specs.Sums.{sum_z}
use Rattle.integers.proofs.ZLaws.{Over}
use Rattle.grains.specs.Grains.{grains, share}
use Rattle.wire.specs.Readings.{Reading}
use Rattle.quarters.specs.declared.Calendar.{Calendar}
use Rattle.book.specs.declared.Engagement.{Engagement}
use Rattle.book.specs.declared.Method.{Method}
use Rattle.book.specs.declared.Method.TheVariants.{HighXOfY, Adjusted}
use Rattle.volumes.specs.Quarters.{reference_quarter}
use Rattle.volumes.specs.Baseline.{watts, complete}
use Rattle.baseline.specs.RunsInner.{Lie}
use Rattle.baseline.specs.LevelsInner.{Adds}
use Rattle.wire.specs.ReadingsInner.{raise}

-- the mean of n readings, an addend, and three raises, of which the addend has two
pub record Raises (list : List Reading) (n add r : ℕ) : Type 0 where
  pub level : (z : ℤ) → complete list ≡ true → Over (grains (2 * raise)) z add → Over (grains (3 * raise)) (sum_z watts list *ℤ pos (share n) +ℤ z) r
  pub small : r ≤ grains 12884901887

-- each of n places holds what it is to
abbrev pub Fills : (ℕ → ℕ → Type 0) → ℕ → List ℕ → Type 0
Fills holds n levels = (k : ℕ) → k < n → holds k (get_or levels k 0)

-- and the others are as they were
pub record FillsLevels (holds : ℕ → ℕ → Type 0) (n : ℕ) (before after : List ℕ) : Type 0 where
  pub each : (k : ℕ) → k < n → holds k (get_or after k 0)
  pub rest : drop n after ≡ drop n before

-- what each of the first n quarter-hours needs to be read of the days
abbrev pub LieAll : List ℕ → List ℕ → Calendar → Engagement → ℕ → Type 0
LieAll readings starts c e n = (k : ℕ) → k < n → Lie readings starts (reference_quarter c e.day (e.first + k)) 0 1

-- what the days' windows need, where method 2 looks at them
abbrev pub Adding : Method → List ℕ → List ℕ → ℕ → Type 0
Adding method readings starts place = method ≡ Adjusted → Lie readings starts place 24 12

-- method 2's addend; method 1 adds nothing
pub record Added (method : Method) (own days : List Reading) (x r : ℕ) : Type 0 where
  pub adjusted : method ≡ Adjusted → Adds own days x r
  pub plain : method ≡ HighXOfY → r ≡ grains (2 * raise)
  pub small : r ≤ grains (4 * raise)
