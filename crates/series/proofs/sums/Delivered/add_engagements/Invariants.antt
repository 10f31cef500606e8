-- The cells hold the grains of the engagements passed; a turn adds those of one more.
use mathlib.Core.Path.{◌≡◌}
use lib.ListN.{length}
use Rattle.quarters.specs.Quarters.{month_quarters}
use Rattle.book.specs.Book.{book_of}
use Rattle.settlement.specs.PartsLaws.{row_count_to}
use Rattle.series.specs.SumsInner.{by_position, grains_to}
use Rattle.series.proofs.sums.Delivered.add_engagements.Given as goal

abbrev pub invariant-loop-i : goal.invariant-loop-i
invariant-loop-i l =
    (l.at ≡ row_count_to l.self.engagements.now l.i)
    × (length l.grains ≡ length l.initial.grains)
    × (l.grains ≡ by_position (grains_to (book_of l.self.book.now) l.s.role.kind l.s.role.receiver l.s.series l.i) (month_quarters l.self.c.calendar) l.initial.grains)
