-- The point and its category's X and Y are read from the sections, where each of them is.
use mathlib.Core.Path.{ap, ◌∙◌}
use lib.Bits.{bit_or}
use lib.ListN.{get_or}
use Rattle.book.specs.declared.Point.{Point}
use Rattle.book.specs.Tables.{x_at, y_at}
use Rattle.settlement.specs.SectionsInner.{shown_of}
use Rattle.settlement.proofs.sections.shown_of.Goals as goal

pub returns : goal.returns
unfolding shown_of
returns c =
    let a = c.args in
    let category = c.category-category.ensures in
    let closed = ap (λ (p : Point). bit_or p.mask (get_or a.engaged.now a.e.point 0)) c.point_at-point.ensures in
    let x = c.x_of.ensures ∙ ap (x_at a.table.now) category in
    let y = c.y_of.ensures ∙ ap (y_at a.table.now) category in
    λ i. record { c = a.c; e = a.e; point = c.point_at-point.ensures i; closed = closed i; x = x i; y = y i }
