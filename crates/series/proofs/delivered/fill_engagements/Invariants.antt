-- The volumes of the engagements passed are stored, one behind the other; the rest is as it was.
use mathlib.Core.Path.{◌≡◌}
use lib.Seq.{sets}
use Rattle.settlement.specs.OpenedInner.{book_in}
use Rattle.settlement.specs.PartsLaws.{row_count_to, parts_to}
use Rattle.series.specs.VolumesInner.{volumes_of}
use Rattle.series.proofs.delivered.fill_engagements.Given as goal

abbrev pub invariant-loop-i : goal.invariant-loop-i
invariant-loop-i l = (l.at ≡ row_count_to l.opened.engagements.now l.i) × (l.volumes ≡ sets l.initial.volumes 0 (parts_to (volumes_of (book_in l.opened)) l.opened.engagements.now l.i))
