-- The rows of the engagements passed are filled, one behind the other; the rest is as it was.
use mathlib.Core.Path.{◌≡◌, sym, ap, ◌∙◌}
use mathlib.Core.List.{List}
use Prim.Native.Nat.{ℕ, ◌+◌, ◌-◌, ◌*◌, ◌≤◌, ◌<◌}
use lib.IntN.{ℤ}
use lib.ListN.{length, drop, length-take, length-drop}
use lib.Seq.{sets, length-sets}
use Rattle.book.specs.Engagements.{engagement_at}
use Rattle.volumes.specs.Settlement.{row_width, rows_of, row_count}
use Rattle.volumes.proofs.SettlementLaws.{rows_of-length}
use Rattle.settlement.specs.OpenedInner.{book_in}
use Rattle.settlement.specs.SectionsInner.{engagement_count_in, book_with}
use Rattle.settlement.specs.SectionsLaws.{count-with}
use Rattle.settlement.specs.PartsLaws.{row_count_to, count_none, count-more, count_most, parts_to, parts_none, parts_more}
use Rattle.settlement.specs.SettlingLaws.{rows-all, not-refused}
use Rattle.settlement.proofs.PartWritesLaws.{part-stored}
use native.Mathlib.Omega.{arith}
use borrow.Author.Rules.{rules}
use Rattle.settlement.proofs.opened.OpenBook.settle.Goals as goal

-- there is room for the rows of one engagement more
room : (bytes engagements : List ℕ) (lent out : List ℤ) (i at : ℕ) → i < engagement_count_in engagements → row_width * row_count (book_with bytes engagements) ≤ length lent → at ≡ row_width * row_count_to engagements i
    → out ≡ sets lent 0 (parts_to (rows_of (book_with bytes engagements)) engagements i) → at + row_width * (engagement_at engagements i).count ≤ length out
room bytes engagements lent out i at h r e f =
    let same = ap length f ∙ length-sets lent 0 (parts_to (rows_of (book_with bytes engagements)) engagements i) in
    omega (arith, same, count-more engagements i h, count_most engagements (i + 1), count-with bytes engagements)

pub loop-i-init : goal.loop-i-init
loop-i-init c = (omega (arith, count_none c.args.self.now.engagements.now), sym (parts_none _ _ _))

pub offset_bounds-out-at : goal.offset_bounds-out-at
offset_bounds-out-at c =
    let o = c.args.self.now in
    let h : c.loop-i.at ≤ length c.loop-i.out = omega (arith, room o.book.now o.engagements.now c.args.out.now c.loop-i.out c.loop-i.i c.loop-i.at (omega arith) c.requires.1 c.loop-i.invariant.0 c.loop-i.invariant.1) in
    search rules

pub slice_bounds-settle_engagement_at-count : goal.slice_bounds-settle_engagement_at-count
slice_bounds-settle_engagement_at-count c =
    let o = c.args.self.now in
    let h : c.loop-i.at ≤ length c.loop-i.out = omega (arith, room o.book.now o.engagements.now c.args.out.now c.loop-i.out c.loop-i.i c.loop-i.at (omega arith) c.requires.1 c.loop-i.invariant.0 c.loop-i.invariant.1) in
    h

pub slice_bounds-settle_engagement_at-start : goal.slice_bounds-settle_engagement_at-start
slice_bounds-settle_engagement_at-start c =
    let o = c.args.self.now in
    let h : c.loop-i.at ≤ length c.loop-i.out = omega (arith, room o.book.now o.engagements.now c.args.out.now c.loop-i.out c.loop-i.i c.loop-i.at (omega arith) c.requires.1 c.loop-i.invariant.0 c.loop-i.invariant.1) in
    h

pub settle_engagement_at-at-requires : goal.settle_engagement_at-at-requires
settle_engagement_at-at-requires c =
    let o = c.args.self.now in
    let l = c.loop-i in
    let h = room o.book.now o.engagements.now c.args.out.now l.out l.i l.at (omega arith) c.requires.1 l.invariant.0 l.invariant.1 in
    (omega arith, not-refused o.opened c.requires.0 l.i (omega arith), omega (arith, h, length-take (length l.out - l.at) (drop l.at l.out), length-drop l.at l.out))

pub overflow_add-at : goal.overflow_add-at
overflow_add-at c =
    let o = c.args.self.now in
    let l = c.loop-i in
    let h = room o.book.now o.engagements.now c.args.out.now l.out l.i l.at (omega arith) c.requires.1 l.invariant.0 l.invariant.1 in
    record { fits = omega (arith, h, c.settle_engagement_at-at.ensures.0) }

pub loop-i-preserved : goal.loop-i-preserved
loop-i-preserved c =
    let o = c.args.self.now in
    let l = c.loop-i in
    let book = book_in o in
    let r = c.settle_engagement_at-at.ensures in
    let own = rows_of book (engagement_at o.engagements.now l.i) in
    let h = room o.book.now o.engagements.now c.args.out.now l.out l.i l.at (omega arith) c.requires.1 l.invariant.0 l.invariant.1 in (
      omega (arith, r.0, l.invariant.0, count-more o.engagements.now l.i (omega arith)),
      part-stored l.at (length l.out - l.at) l.out c.settle_engagement_at-at.new.out own (omega (arith, h)) (omega (arith, h, rows_of-length book (engagement_at o.engagements.now l.i))) r.1
          ∙ ap (λ (o : List ℤ). sets o l.at own) l.invariant.1
          ∙ parts_more (rows_of book) o.engagements.now row_width (rows_of-length book) c.args.out.now l.at l.i (omega arith) l.invariant.0,
    )

pub returns : goal.returns
returns c = c.loop-i.invariant.1 ∙ ap (sets c.args.out.now 0) (rows-all _ _ c.loop-i.i (omega arith))
