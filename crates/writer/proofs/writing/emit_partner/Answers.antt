-- The partner's head, its series and its end; its supply direction is its first row's.
use Rattle.emitter.proofs.Laying.{and_then, stops, laid_as}
use Rattle.writer.proofs.ContentsLaws.{partner-laid}
use Rattle.writer.proofs.writing.emit_partner.Goals as goal

pub returns-in_err-emit_partner_head : goal.returns-in_err-emit_partner_head
returns-in_err-emit_partner_head g c =
    let e = g.met.S.Sink.laws in
    let a = c.args in
    laid_as e (partner-laid a.title.kind (a.title.year, a.title.month) a.rows.now c.requires c.count_series-count.ensures) (stops e _ c.in_err-emit_partner_head.ensures c.from_residual.ensures)

pub returns-in_err-emit_series_list : goal.returns-in_err-emit_series_list
returns-in_err-emit_series_list g c =
    let e = g.met.S.Sink.laws in
    let a = c.args in
    laid_as e (partner-laid a.title.kind (a.title.year, a.title.month) a.rows.now c.requires c.count_series-count.ensures) (and_then e c.in_ok-emit_partner_head.ensures (stops e _ c.in_err-emit_series_list.ensures c.from_residual-in_err-emit_series_list.ensures))

pub returns : goal.returns
returns g c =
    let e = g.met.S.Sink.laws in
    let a = c.args in
    laid_as e (partner-laid a.title.kind (a.title.year, a.title.month) a.rows.now c.requires c.count_series-count.ensures) (and_then e c.in_ok-emit_partner_head.ensures (and_then e c.in_ok-emit_series_list.ensures c.emit_partner_end.ensures))
