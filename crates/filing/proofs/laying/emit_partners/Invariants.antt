-- What is laid, and the partners from a number on, make all, and so do their counts; `next` is the first of these.
use Rattle.std.proofs.Common.{◌≡◌, length}
use Rattle.std.specs.Prelude.{◌<◌, unwrap_or, IfSome}
use Prim.Native.Nat.{◌-◌}
use Rattle.book.specs.Book.{book_of}
use Rattle.partners.specs.PartnersInner.{no_partner}
use Rattle.filing.proofs.PartnersLaws.{Reached}
use Rattle.filing.proofs.laying.emit_partners.Given as goal

abbrev pub invariant-loop-next : goal.invariant-loop-next
invariant-loop-next g l =
    record {
      reached : Reached g.S.Sink.lays (book_of l.delivered.book.now) l.role.kind l.role.receiver l.initial.sink (unwrap_or l.next no_partner) l.count l.sink;
      below : IfSome l.next (λ n. n < no_partner);
      rows : length l.rows ≡ length l.initial.rows;
    }

abbrev pub decreases-loop-next : goal.decreases-loop-next
decreases-loop-next g l = no_partner - unwrap_or l.next no_partner
