-- Levels in arithmetic: a mean's bias is one reading's, and biases cancel in a difference.
use Rattle.std.specs.Prelude.{ℕ, ◌+◌, ◌-◌, ◌≤◌, ◌*◌, ℤ, ◌-ℤ◌}
use Rattle.std.proofs.Common.{arith}
use Rattle.integers.proofs.ZLaws.{Over, dif, mul}
use Rattle.grains.specs.Grains.{per_watt, grains, grains_z}
use Rattle.wire.specs.ReadingsInner.{raise}

-- a reading and two raises more
pub lifted : (w : ℤ) (raised : ℕ) → Over raise w raised → Over (grains (3 * raise)) (grains_z w) (grains raised + grains (2 * raise))
lifted w raised o = record { law = omega (arith, o.law, mul w per_watt) }

-- a less b and two raises, where both have one bias
pub difference : (g y : ℕ) (z w : ℤ) (a b : ℕ) → Over g z a → Over g w b → b ≤ a + y → Over y (z -ℤ w) (a + y - b)
difference g y z w a b o p h = record { law = omega (arith, o.law, p.law, dif z w) }
