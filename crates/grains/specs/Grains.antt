-- "One watt is 30,240 grains; all results are whole grains." (document 01, "Baseline"). Grain is document 01's own term.
use Rattle.std.specs.Prelude.{ℕ, ◌*◌, ◌/◌, ℤ, pos, ◌*ℤ◌}

abbrev pub per_watt : ℕ
per_watt = 30240

-- watts as grains
abbrev pub grains : ℕ → ℕ
grains watts = watts * per_watt

abbrev pub grains_z : ℤ → ℤ
grains_z watts = watts *ℤ pos per_watt

-- whole watts, "rounded down"
abbrev pub whole_watts : ℕ → ℕ
whole_watts g = g / per_watt

-- what each of n readings adds to their mean, for a watt
abbrev pub share : ℕ → ℕ
share n = per_watt / n
