-- The file's head, its partners and its end.
use Rattle.emitter.proofs.Laying.{and_then, stops, laid_as}
use Rattle.book.specs.Book.{book_of}
use Rattle.filing.specs.LayingLaws.{file-bytes}
use Rattle.filing.proofs.laying.emit_file.Goals as goal

pub returns-in_err-emit_file_head : goal.returns-in_err-emit_file_head
returns-in_err-emit_file_head g c =
    let a = c.args in
    let e = g.met.S.Sink.laws in
    laid_as e (file-bytes (book_of a.delivered.now.book.now) a.role.kind a.role.receiver a.stamp.id.now a.stamp.moment.now a.partners c.requires.1)
    (stops e _ c.in_err-emit_file_head.ensures c.from_residual.ensures)

pub returns-in_err-emit_partners : goal.returns-in_err-emit_partners
returns-in_err-emit_partners g c =
    let a = c.args in
    let e = g.met.S.Sink.laws in
    laid_as e (file-bytes (book_of a.delivered.now.book.now) a.role.kind a.role.receiver a.stamp.id.now a.stamp.moment.now a.partners c.requires.1)
    (and_then e c.in_ok-emit_file_head.ensures (stops e _ c.in_err-emit_partners.ensures.laid c.from_residual-in_err-emit_partners.ensures))

pub returns : goal.returns
returns g c =
    let a = c.args in
    let e = g.met.S.Sink.laws in
    laid_as e (file-bytes (book_of a.delivered.now.book.now) a.role.kind a.role.receiver a.stamp.id.now a.stamp.moment.now a.partners c.requires.1)
    (and_then e c.in_ok-emit_file_head.ensures (and_then e c.in_ok-emit_partners.ensures.laid c.emit_file_end.ensures))
