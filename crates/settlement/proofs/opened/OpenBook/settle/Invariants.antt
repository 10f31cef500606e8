-- The rows of the engagements passed are filled, one behind the other; the rest is as it was.
use mathlib.Core.Path.{◌≡◌}
use Prim.Native.Nat.{◌*◌}
use lib.Seq.{sets}
use Rattle.volumes.specs.Settlement.{row_width, rows_of}
use Rattle.settlement.specs.OpenedInner.{book_in}
use Rattle.settlement.specs.PartsLaws.{row_count_to, parts_to}
use Rattle.settlement.proofs.opened.OpenBook.settle.Given as goal

abbrev pub invariant-loop-i : goal.invariant-loop-i
invariant-loop-i l =
    (l.at ≡ row_width * row_count_to l.self.engagements.now l.i) × (l.out ≡ sets l.initial.out 0 (parts_to (rows_of (book_in l.self)) l.self.engagements.now l.i))
