-- The rows filled are those of the engagement, so that what the party gets of them are its corrections.
use mathlib.Core.Path.{◌≡◌, sym, ap, ap₂, ◌∙◌}
use borrow.Author.Rules.{rules}
use borrow.Rule.Slice.PartMut.{put_mid, mid_of}
use native.Mathlib.Omega.{arith}
use mathlib.Core.List.{List}
use lib.IntN.{ℤ, pos}
use lib.ListN.{length, replicate, length-replicate}
use Prim.Native.Nat.{ℕ, ◌+◌, ◌-◌, ◌*◌, ◌≤◌}
use Rattle.book.specs.declared.Engagement.{Engagement}
use Rattle.book.specs.Header.{calendar_of}
use Rattle.book.specs.Engagements.{engagement_at}
use Rattle.settlement.specs.DrawnLaws.{registered, Placing, engagement-placed}
use Rattle.volumes.specs.Settlement.{row_width}
use Rattle.sheets.specs.AddsInner.{adds, Addable}
use Rattle.sheets.specs.SharesInner.{gets_of, first_cell, corrections_for}
use Rattle.settlement.specs.OpenedInner.{book_in}
use Rattle.sheets.specs.EngagementLaws.{engagement-gets, engagement-small}
use Rattle.quarters.specs.QuartersInner.{longest_day}
use Rattle.sheets.specs.SharesLaws.{gets-length}
use Rattle.sheets.proofs.PartsLaws.{part-long, part-addable, part-added}
use Rattle.sheets.proofs.fill.add_engagement.Goals.{After-cell_of-at}
use Rattle.sheets.proofs.fill.add_engagement.Goals as goal

pub point_at-requires : goal.point_at-requires
point_at-requires c =
    let o = c.args.opened.now in
    rw (o.spread.register, c.engagement-e.ensures) (registered o.opened c.args.i c.requires.0)

pub settle_engagement_at-requires : goal.settle_engagement_at-requires
settle_engagement_at-requires c = (c.requires.0, c.requires.1, omega (arith, (engagement-placed c.args.opened.now.opened c.args.i c.requires.0).few))

pub cell_of-at-requires : goal.cell_of-at-requires
cell_of-at-requires c =
    let o = c.args.opened.now in
    let placed : Placing o.c.calendar (engagement_at o.engagements.now c.args.i) = rw o.spread.when (engagement-placed o.opened c.args.i c.requires.0) in
    rw c.engagement-e.ensures (placed.day, placed.settled)

-- what the party gets of the rows are its corrections, one for each cell of the part to which they are added
module _ (c : After-cell_of-at) where
  abbrev none : List ℤ
  none = replicate (row_width * longest_day) (pos 0)

  long : row_width * longest_day ≤ length none
  long = omega (arith, length-replicate (row_width * longest_day) (pos 0))

  abbrev given : List ℤ
  given = gets_of c.args.opened.now.version c.args.party c.point_at.result c.settle_engagement_at.new.out c.engagement-e.result.count

  many : c.engagement-e.result.count ≡ length given
  many = sym (gets-length c.args.opened.now.version c.args.party c.point_at.result c.settle_engagement_at.new.out c.engagement-e.result.count)

  gets : given ≡ corrections_for (book_in c.args.opened.now) c.args.party (engagement_at c.args.opened.now.engagements.now c.args.i)
  gets =
      let o = c.args.opened.now in
      ap (λ v. gets_of v c.args.party c.point_at.result c.settle_engagement_at.new.out c.engagement-e.result.count) o.spread.version
      ∙ engagement-gets o.opened c.args.i c.requires.0 none long c.engagement-e.ensures c.point_at.ensures o.spread.register c.settle_engagement_at.ensures.1 c.args.party

  cell : c.cell_of-at.result ≡ first_cell c.args.opened.now.c.calendar (engagement_at c.args.opened.now.engagements.now c.args.i)
  cell = c.cell_of-at.ensures ∙ ap (first_cell c.args.opened.now.c.calendar) c.engagement-e.ensures

  able : Addable c.args.sums.now c.cell_of-at.result given
  able = rw (cell, gets) c.requires.2

  part : length (mid_of c.cell_of-at.result (c.cell_of-at.result + c.engagement-e.result.count - c.cell_of-at.result) c.args.sums.now) ≡ c.engagement-e.result.count
  part = part-long c.args.sums.now c.cell_of-at.result (c.cell_of-at.result + c.engagement-e.result.count - c.cell_of-at.result) given (omega (arith, many)) able ∙ sym many

pub overflow_add-at : goal.overflow_add-at
overflow_add-at c =
    let w = (goal.at.overflow_add-at c).After-cell_of-at in
    let h : c.cell_of-at.result + c.engagement-e.result.count ≤ length c.args.sums.now = omega (arith, many w, (able w).room) in
    search rules

pub offset_bounds-sums-at : goal.offset_bounds-sums-at
offset_bounds-sums-at c =
    let h : c.cell_of-at.result ≤ length c.args.sums.now = omega (arith, (able (goal.at.offset_bounds-sums-at c).After-cell_of-at).room) in
    search rules

pub slice_bounds-add_rows-end-2 : goal.slice_bounds-add_rows-end-2
slice_bounds-add_rows-end-2 c =
    let w = (goal.at.slice_bounds-add_rows-end-2 c).After-cell_of-at in
    omega (arith, many w, (able w).room)

pub add_rows-requires : goal.add_rows-requires
add_rows-requires c =
    let o = c.args.opened.now in
    let w = (goal.at.add_rows-requires c).After-cell_of-at in
    let at = c.cell_of-at.result in
    let n = c.engagement-e.result.count in
    let small = engagement-small o.opened c.args.i c.requires.0 (none w) (long w) c.engagement-e.ensures c.point_at.ensures o.spread.register c.settle_engagement_at.ensures.1 in
    let placed = engagement-placed o.opened c.args.i c.requires.0 in
    rw (part w) (omega (arith, ap (λ (f : Engagement). f.count) c.engagement-e.ensures, placed.few, c.settle_engagement_at.auto.out), small, part-addable c.args.sums.now at (at + n - at) (given w) (omega (arith, many w)) (able w))

pub returns : goal.returns
returns c =
    let a = c.args in
    let w = (goal.at.returns c).After-cell_of-at in
    let at = c.cell_of-at.result in
    let n = c.engagement-e.result.count in
    ap (put_mid at (at + n - at) a.sums.now) (c.add_rows.ensures ∙ ap (λ (k : ℕ). adds (mid_of at (at + n - at) a.sums.now) 0 (gets_of a.opened.now.version a.party c.point_at.result c.settle_engagement_at.new.out k)) (part w))
    ∙ part-added a.sums.now at (at + n - at) (given w) (omega (arith, many w)) (able w)
    ∙ ap₂ (adds a.sums.now) (cell w) (gets w)
