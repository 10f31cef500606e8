-- Numbers by which a watt's grains divide.
use Rattle.std.specs.Prelude.{◌≡◌, ℕ, ◌*◌}
use Rattle.grains.specs.Grains.{per_watt, share}

-- a watt has n whole shares
pub record Shares (n : ℕ) : Type 0 where
  pub whole : n * share n ≡ per_watt
