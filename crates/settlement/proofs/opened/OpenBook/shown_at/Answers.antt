-- The engagement, its point and its category's X and Y stand in the sections, which are the book's.
use mathlib.Core.Path.{◌∙◌}
use native.Mathlib.Omega.{arith}
use Rattle.book.specs.Header.{calendar_of}
use Rattle.settlement.specs.SectionsInner.{shown_in, shown_of}
use Rattle.settlement.specs.DrawnLaws.{category-in, registered, categorised, Placing, engagement-placed}
use Rattle.settlement.proofs.opened.OpenBook.shown_at.Goals as goal

pub shown_of-requires : goal.shown_of-requires
shown_of-requires c =
    let o = c.args.self.now in
    let p : Placing (calendar_of o.book.now) c.engagement-e.result = rw c.engagement-e.ensures (engagement-placed o.opened c.args.i c.requires) in (
      rw (o.spread.calendar, c.engagement-e.ensures) (categorised o.opened c.args.i c.requires),
      rw (o.spread.table, o.spread.calendar) (category-in o.opened c.engagement-e.result.day),
      rw (o.spread.register, c.engagement-e.ensures) (registered o.opened c.args.i c.requires),
      omega (arith, p.point, o.gathered.long),
    )

pub returns : goal.returns
unfolding shown_in shown_of
returns c =
    let o = c.args.self.now in
    c.shown_of.ensures ∙ (λ i. shown_of (o.spread.when i) (o.spread.calendar i) (o.spread.table i) (o.spread.register i) o.engaged.now (c.engagement-e.ensures i))
