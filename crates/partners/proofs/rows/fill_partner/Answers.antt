-- The rows of the directions passed are stored, one behind the other.
use Rattle.std.proofs.Common.{arith}
use Rattle.reports.specs.FileRows.{directions}
use Rattle.book.specs.Book.{book_of}
use Rattle.partners.specs.PartnerRowsLaws.{filled_is, filled_none, filled-then}
use Rattle.partners.proofs.DirectionsLaws.{rows-none, rows-more, rows-all}
use Rattle.partners.proofs.rows.fill_partner.Goals as goal

pub loop-supply-init : goal.loop-supply-init
loop-supply-init c =
    let a = c.args in
    (filled_is _ (rows-none (book_of a.delivered.now.book.now) a.role.kind a.role.receiver a.partner) (filled_none _ _), omega arith)

pub loop-supply-preserved : goal.loop-supply-preserved
unfolding directions
loop-supply-preserved c =
    let a = c.args in
    let l = c.loop-supply in
    let series = rw (c.series_to-series.ensures.0, c.series_to-series.ensures.1) at c.fill_series-at.ensures.0 in (
      filled_is _ (rows-more (book_of a.delivered.now.book.now) a.role.kind a.role.receiver a.partner l.supply-index _ (omega arith)) (filled-then l.invariant.0 series),
      omega (arith, l.invariant.1, c.fill_series-at.ensures.1),
    )

pub returns : goal.returns
unfolding directions
returns c =
    let a = c.args in
    let l = c.loop-supply in
    (filled_is _ (rows-all (book_of a.delivered.now.book.now) a.role.kind a.role.receiver a.partner l.supply-index (omega arith)) l.invariant.0, omega (arith, l.invariant.1))
