-- What `raised_at` works out: adding 2^31, and leaving out what passes 2^32, raises the reading that the 4 bytes say.
use Rattle.std.specs.Prelude.{◌≡◌, ℕ, ◌+◌, ◌*◌, ◌%◌, ◌^◌, ◌<◌, List}
use Rattle.std.proofs.Common.{ap, ◌∙◌, to_z}
use Rattle.std.specs.Int.{w32}
use Rattle.wire.specs.Numbers.{number_at}
use Rattle.wire.specs.Readings.{reading_of}
use Rattle.wire.specs.ReadingsInner.{Raised, raise, raised}
use Rattle.wire.specs.ReadingsLaws.{raised-bits, in-range}

pub raised_bytes : (xs : List ℕ) (i n : ℕ) → n ≡ number_at xs (4 * i) 4 → n < 4294967296 → Raised xs i ((n + raise) % 2 ^ 32)
raised_bytes xs i n e h =
    record {
      is = raised-bits n h ∙ ap (λ (n : ℕ). raised (reading_of (to_z w32 n))) e;
      range = rw (← e) (in-range n h);
    }
