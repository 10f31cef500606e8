-- Numbers without a sign: a level, which is a baseline and the bias, in grains, and a raised reading.
use Rattle.std.specs.Prelude.{ℕ, ◌*◌, ℤ}
use Rattle.std.proofs.Math.IntN.{sub_ℕ}
use Rattle.grains.specs.Grains.{grains}
use Rattle.wire.specs.ReadingsInner.{raise}

-- three raises, in grains: as much as method 2 can take off, a reading's raise for each of its three means
abbrev pub bias : ℕ
bias = grains (3 * raise)

-- 2^34 watts, in grains: no raised baseline is greater
abbrev pub greatest : ℕ
greatest = grains (8 * raise)

-- the baseline of a raised one, and the watts of a raised reading
unfoldable pub baseline_of : ℕ → ℤ
baseline_of level = sub_ℕ level bias

unfoldable pub watts_of : ℕ → ℤ
watts_of raised = sub_ℕ raised raise
