-- What is laid, and the partners from a number on, make all, and so do their counts; `next` is the first of these.
use Rattle.std.proofs.Common.{◌≡◌, ◌≤◌, ◌+◌, refl, ap, sym, subst, rules, arith, ℕ, Some, None}
use Rattle.std.specs.Prelude.{◌<◌}
use Rattle.partners.specs.PartnersInner.{no_partner}
use Rattle.std.proofs.lemmas.Grind.{common_steps}
use mathlib.Core.List.{flat_map}
use Rattle.book.specs.Book.{book_of}
use Rattle.message.specs.Bytes.{partner_bytes}
use Rattle.reports.specs.FileRows.{partners_of}
use Rattle.reports.proofs.FormLaws.{partners-few}
use Rattle.partners.specs.PartnerRowsLaws.{next_known}
use Rattle.filing.specs.LayingInner.{given}
use Rattle.filing.proofs.PartnersLaws.{own, next-of, reached-none, reached-then, reached-stops, reached-all, none-left}
use Rattle.filing.proofs.laying.emit_partners.Goals as goal

pub loop-next-init : goal.loop-next-init
loop-next-init g c =
    let a = c.args in
    record { reached = reached-none g.met.S.Sink.laws (book_of a.delivered.now.book.now) a.role.kind a.role.receiver a.sink.now _ (next-of a.delivered.now a.role.kind a.role.receiver 0 _ c.next_partner-next.ensures.least); below = c.next_partner-next.ensures.below; rows = refl }

pub emit_partner-requires : goal.emit_partner-requires
emit_partner-requires g c =
    let a = c.args in
    let v = rw c.in-Some.is at c.loop-next.invariant.reached in
    let known : c.in-Some.partner < no_partner = rw c.in-Some.is at c.loop-next.invariant.below in
    (omega (arith, c.loop-next.invariant.rows, c.requires), next_known (book_of a.delivered.now.book.now) a.role.kind a.role.receiver v.low c.in-Some.partner v.following known)

pub returns-in_err-count-clause-laid : goal.returns-in_err-count-clause-laid
returns-in_err-count-clause-laid g c =
    let a = c.args in
    let v = rw c.in-Some.is at c.loop-next.invariant.reached in
    let known : c.in-Some.partner < no_partner = rw c.in-Some.is at c.loop-next.invariant.below in
    reached-stops g.met.S.Sink.laws (book_of a.delivered.now.book.now) a.role.kind a.role.receiver v known c.in_err-count.ensures.laid (ap given c.from_residual.ensures)

pub overflow_add-count : goal.overflow_add-count
overflow_add-count g c =
    let a = c.args in
    let few = partners-few (book_of a.delivered.now.book.now) a.role.kind a.role.receiver (own a.delivered.now) in
    let fits : c.loop-next.count + c.in_ok-count.field-0 ≤ 257 = omega (arith, few, c.loop-next.invariant.reached.counted, c.in_ok-count.ensures.count.1) in
    search rules

pub loop-next-preserved : goal.loop-next-preserved
loop-next-preserved g c =
    let a = c.args in
    let v = rw c.in-Some.is at c.loop-next.invariant.reached in
    let known : c.in-Some.partner < no_partner = rw c.in-Some.is at c.loop-next.invariant.below in
    record {
      reached =
          reached-then g.met.S.Sink.laws (book_of a.delivered.now.book.now) a.role.kind a.role.receiver c.in_ok-count.field-0 _ v known c.in_ok-count.ensures.laid c.in_ok-count.ensures.count.0
          (next-of a.delivered.now a.role.kind a.role.receiver (c.in-Some.partner + 1) _ c.next_partner-next-in-Some.ensures.least);
      below = c.next_partner-next-in-Some.ensures.below;
      rows = search rules;
    }

pub returns-clause-laid : goal.returns-clause-laid
returns-clause-laid g c =
    let a = c.args in
    (reached-all g.met.S.Sink.laws (book_of a.delivered.now.book.now) a.role.kind a.role.receiver (own a.delivered.now) c.loop-next.invariant.reached (none-left c.loop-next.next c.in_default.not-Some)).0

pub returns-clause-count : goal.returns-clause-count
returns-clause-count g c =
    let a = c.args in
    (reached-all g.met.S.Sink.laws (book_of a.delivered.now.book.now) a.role.kind a.role.receiver (own a.delivered.now) c.loop-next.invariant.reached (none-left c.loop-next.next c.in_default.not-Some)).1
