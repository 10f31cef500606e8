-- The loop stands behind i digits that say a value: what all n bytes say is what the others say behind it.
use Rattle.std.specs.Prelude.{◌≡◌, drop}
use Rattle.text.specs.Decimal.{above}
use Rattle.text.proofs.FixedLaws.{number_from}
use Rattle.text.proofs.fixed_at.Given as goal

abbrev pub invariant-loop-x : goal.invariant-loop-x
invariant-loop-x l = (above l.x-index l.value ≡ 0) × (number_from 0 l.digits ≡ number_from l.value (drop l.x-index l.digits))
