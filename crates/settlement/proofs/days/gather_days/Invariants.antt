-- The days of the engagements passed have come to those before.
use mathlib.Core.Path.{◌≡◌}
use lib.ListN.{length}
use Rattle.settlement.specs.DaysLaws.{GathersTo}
use Rattle.settlement.proofs.days.gather_days.Given as goal

abbrev pub invariant-loop-i : goal.invariant-loop-i
invariant-loop-i l = (length l.engaged ≡ length l.initial.engaged) × GathersTo l.engagements l.i l.initial.engaged l.engaged
