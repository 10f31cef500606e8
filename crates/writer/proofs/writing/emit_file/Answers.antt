-- The file's head, its partners and its end.
use Rattle.emitter.proofs.Laying.{and_then, stops, laid_as}
use Rattle.writer.proofs.ContentsLaws.{message-laid}
use Rattle.writer.proofs.writing.emit_file.Goals as goal

pub returns-in_err-emit_file_head : goal.returns-in_err-emit_file_head
returns-in_err-emit_file_head g c =
    let e = g.met.S.Sink.laws in
    let a = c.args in
    laid_as e (message-laid a.title a.stamp.id.now a.stamp.moment.now a.rows.now c.count_partners-count.ensures) (stops e _ c.in_err-emit_file_head.ensures c.from_residual.ensures)

pub returns-in_err-emit_partners : goal.returns-in_err-emit_partners
returns-in_err-emit_partners g c =
    let e = g.met.S.Sink.laws in
    let a = c.args in
    laid_as e (message-laid a.title a.stamp.id.now a.stamp.moment.now a.rows.now c.count_partners-count.ensures) (and_then e c.in_ok-emit_file_head.ensures (stops e _ c.in_err-emit_partners.ensures c.from_residual-in_err-emit_partners.ensures))

pub returns : goal.returns
returns g c =
    let e = g.met.S.Sink.laws in
    let a = c.args in
    laid_as e (message-laid a.title a.stamp.id.now a.stamp.moment.now a.rows.now c.count_partners-count.ensures) (and_then e c.in_ok-emit_file_head.ensures (and_then e c.in_ok-emit_partners.ensures c.emit_file_end.ensures))
