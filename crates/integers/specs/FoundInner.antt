-- What a search of std's answers, as the number that the definitions speak of.
use Rattle.std.specs.Prelude.{ℕ, Option, Some, None}
use Rattle.std.proofs.Math.Option as maybe

abbrev pub found_at : Option ℕ → maybe.Option ℕ
found_at (Some i) = maybe.some i
found_at None = maybe.none
