-- What a level says of readings that are there.
use Rattle.std.specs.Prelude.{◌≡◌, true, List, ℕ, ◌*◌, ◌≤◌, pos, ◌*ℤ◌, ◌-ℤ◌}
use Rattle.integers.specs.Sums.{sum_z}
use Rattle.integers.proofs.ZLaws.{Over}
use Rattle.grains.specs.Grains.{grains, grains_z, share}
use Rattle.wire.specs.Readings.{Reading}
use Rattle.volumes.specs.Baseline.{watts, known, complete}
use Rattle.wire.specs.ReadingsInner.{raise}

-- a reading and three raises
pub record Lasts (reading : Reading) (r : ℕ) : Type 0 where
  pub level : known reading ≡ true → Over (grains (3 * raise)) (grains_z (watts reading)) r
  pub small : r ≤ grains (4 * raise)

-- the mean of n readings and a raise
pub record Means (list : List Reading) (n r : ℕ) : Type 0 where
  pub level : complete list ≡ true → Over (grains raise) (sum_z watts list *ℤ pos (share n)) r
  pub small : r ≤ grains 4294967295

-- the mean of 12 readings less that of 12 x, and two raises
pub record Adds (own days : List Reading) (x r : ℕ) : Type 0 where
  pub level : complete own ≡ true → complete days ≡ true → Over (grains (2 * raise)) (sum_z watts own *ℤ pos (share 12) -ℤ sum_z watts days *ℤ pos (share (12 * x))) r
  pub small : r ≤ grains (4 * raise)
