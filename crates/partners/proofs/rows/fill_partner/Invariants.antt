-- The rows of the directions passed are stored, one behind the other.
use Prim.Native.Nat.{◌*◌, ◌≤◌}
use Rattle.book.specs.Book.{book_of}
use Rattle.quarters.specs.QuartersInner.{longest_month}
use Rattle.partners.specs.PartnerRowsInner.{FileRowsFilled}
use Rattle.partners.proofs.DirectionsLaws.{rows_to}
use Rattle.partners.proofs.rows.fill_partner.Given as goal

abbrev pub invariant-loop-supply : goal.invariant-loop-supply
invariant-loop-supply l =
    FileRowsFilled (rows_to (book_of l.delivered.book.now) l.role.kind l.role.receiver l.partner l.supply-index) l.initial.rows 0 l.rows l.at
    × (l.at ≤ l.supply-index * longest_month)
