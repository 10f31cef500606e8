-- The rows that are answered stand in the part that was lent, and so in the whole.
-- By name, since the law's conclusion doesn't show the call that it is about.
use Rattle.std.proofs.Common.{take, drop, length-append, arith}
use Rattle.settle_vectors.proofs.FitsLaws.{fits}
use Rattle.settle_vectors.proofs.settle_case.Goals as goal

pub answer-requires : goal.answer-requires
answer-requires g c =
    let a = c.args in
    let call = c.settle-settled in
    let prepared = c.prepare.new.buffer in
    fits a.book.now (take a.case.lent prepared) call.new.rows call.result _ call.ensures
    (omega (arith, call.auto.rows, length-append call.new.rows (drop a.case.lent prepared)))
