-- The readings of one point stand in the section of readings behind those of the points before it.
use Rattle.std.specs.Prelude.{◌≡◌, List, ℕ, ◌+◌, ◌*◌, take, drop}
use Rattle.std.specs.Int.{w32}
use Rattle.std.proofs.Common.{ap, ◌∙◌, to_z, arith, drop-drop}
use Rattle.wire.specs.Numbers.{little}
use Rattle.wire.specs.Readings.{reading_at, reading_of}

-- reading k of those from reading `origin` on
pub reading-from : (readings : List ℕ) (origin k : ℕ) → reading_at (drop (4 * origin) readings) k ≡ reading_at readings (origin + k)
reading-from readings origin k =
    let place : 4 * origin + 4 * k ≡ 4 * (origin + k) = omega arith in
    ap (λ (l : List ℕ). reading_of (to_z w32 (little (take 4 l)))) (drop-drop (4 * k) (4 * origin) readings ∙ ap (λ (n : ℕ). drop n readings) place)
