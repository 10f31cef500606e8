-- What is shown of the engagement is the book's, so the rows filled are its rows.
use mathlib.Core.Path.{sym, ap, ◌∙◌}
use lib.Seq.{sets}
use Prim.Native.Nat.{◌*◌}
use Rattle.book.specs.declared.Engagement.{Engagement}
use Rattle.volumes.specs.Settlement.{refusal_number, row_width, rows_of}
use Rattle.baseline.specs.FilledInner.{Unrefused}
use Rattle.settlement.specs.SectionsInner.{book_with}
use Rattle.settlement.specs.OpenedInner.{book_in}
use native.Mathlib.Omega.{arith}
use Rattle.settlement.proofs.opened.OpenBook.settle_engagement_at.Goals as goal

pub settle_engagement-requires : goal.settle_engagement-requires
settle_engagement-requires c =
    let case = c.case_at-case.result in
    let book = book_in c.args.self.now in
    let own = c.case_at-case.ensures.1 in
    let settled : Unrefused case.shown case.calendar.now case.readings.now book = record { shows = c.case_at-case.ensures.0; good = ap (refusal_number book) own ∙ c.requires.1 } in
    (record { fits = case.fits; book = book; settled = settled }, omega (arith, ap (λ (e : Engagement). row_width * e.count) own, c.requires.2))

pub returns : goal.returns
unfolding book_with
returns c =
    let o = c.args.self.now in
    let case = c.case_at-case.result in
    let book = book_in o in
    let own = c.case_at-case.ensures.1 in
    let settled : Unrefused case.shown case.calendar.now case.readings.now book = record { shows = c.case_at-case.ensures.0; good = ap (refusal_number book) own ∙ c.requires.1 } in (
      ap (λ (e : Engagement). row_width * e.count) own,
      c.settle_engagement.ensures book (sym o.spread.version) settled ∙ ap (λ (e : Engagement). sets c.args.out.now 0 (rows_of book e)) own,
    )
