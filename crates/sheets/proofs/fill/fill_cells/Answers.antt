-- The cells hold the sheet of the engagements passed; what stands behind them is as it was.
use borrow.Author.Rules.{rules}
use native.Mathlib.Omega.{arith}
use mathlib.Core.Path.{◌≡◌, refl, ap, ◌∙◌}
use mathlib.Core.List.{List, ◌++◌}
use lib.IntN.{ℤ, pos}
use lib.ListN.{length, take, drop, replicate}
use lib.Seq.{length-take-le}
use Rattle.book.specs.Engagements.{engagement_at}
use Rattle.quarters.specs.Quarters.{month_quarters}
use Rattle.settlement.specs.OpenedInner.{book_in}
use Rattle.settlement.specs.SettlingLaws.{not-refused}
use Rattle.sheets.specs.AddsInner.{adds}
use Rattle.sheets.specs.SharesInner.{corrections_for, first_cell}
use Rattle.sheets.specs.EngagementLaws.{engagement-more, engagement-addable, cells-begun, cells-ended}
use Rattle.sheets.proofs.fill.fill_cells.Goals as goal

pub loop-i-init : goal.loop-i-init
loop-i-init c =
    let o = c.args.opened.now in
    let n = c.month_quarters.result in
    let filled : c.fill.new.self ≡ replicate (length (take n c.args.sums.now)) (pos 0) = search rules in
    let long : length (take n c.args.sums.now) ≡ n = length-take-le n c.args.sums.now (omega (arith, c.month_quarters.ensures, c.requires.1)) in
    let zeros : c.fill.new.self ++ drop n c.args.sums.now ≡ replicate n (pos 0) ++ drop n c.args.sums.now = rw (filled, long) in
    cells-begun o.opened o.spread.when c.args.party n c.args.sums.now _ c.month_quarters.ensures zeros

pub add_engagement-requires : goal.add_engagement-requires
add_engagement-requires c =
    let o = c.args.opened.now in
    (omega arith, not-refused o.opened c.requires.0 c.loop-i.i (omega arith), rw c.loop-i.invariant (engagement-addable o.opened c.loop-i.i (omega arith) o.spread.when c.args.party _))

pub loop-i-preserved : goal.loop-i-preserved
loop-i-preserved c =
    let o = c.args.opened.now in
    let e = engagement_at o.engagements.now c.loop-i.i in
    c.add_engagement.ensures
    ∙ ap (λ (m : List ℤ). adds m (first_cell o.c.calendar e) (corrections_for (book_in o) c.args.party e)) c.loop-i.invariant
    ∙ engagement-more o.opened c.loop-i.i (omega arith) o.spread.when c.args.party _

pub returns : goal.returns
returns c =
    let o = c.args.opened.now in
    let n = c.month_quarters.result in
    let filled : c.fill.new.self ≡ replicate (length (take n c.args.sums.now)) (pos 0) = search rules in
    let long : length (take n c.args.sums.now) ≡ n = length-take-le n c.args.sums.now (omega (arith, c.month_quarters.ensures, c.requires.1)) in
    let zeros : c.fill.new.self ++ drop n c.args.sums.now ≡ replicate n (pos 0) ++ drop n c.args.sums.now = rw (filled, long) in
    cells-ended o.opened o.spread.when c.args.party n c.args.sums.now _ c.month_quarters.ensures zeros c.loop-i.i (omega arith) c.loop-i.invariant
