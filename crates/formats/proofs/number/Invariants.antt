-- The loop stands at p behind digits that say a value: what is read at `at` is what follows there. The test before the sum keeps it
-- within max, so that no number of digits wraps.
use Rattle.std.specs.Prelude.{◌≡◌, ◌≤◌, drop}
use Rattle.formats.specs.Numbers.{number_parse, more_parse}
use Rattle.formats.proofs.number.Given as goal

abbrev pub invariant-loop-p : goal.invariant-loop-p
invariant-loop-p l = (l.value ≤ l.max) × (number_parse l.stop l.max (drop l.at l.s) ≡ more_parse l.stop l.max l.value (drop l.p l.s))
