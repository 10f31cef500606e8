-- What is answered stands in the parts that were lent, and so in the whole.
-- By name, since the law's conclusion doesn't show the call that it is about.
use Rattle.std.proofs.Common.{take, drop, length-append, arith}
use Rattle.file_vectors.proofs.FitsLaws.{fits}
use Rattle.file_vectors.proofs.file_case.Goals as goal

pub answer-requires : goal.answer-requires
answer-requires g c =
    let case = c.args.case.now in
    let call = c.file-said in
    let numbers = c.prepare.new.buffer in
    let bytes = c.prepare-2.new.buffer in
    fits c.args.book.now case.kind case.receiver c.as_slice.result.now c.as_slice-2.result.now (take case.rows numbers) call.new.rows (take case.file bytes) call.new.file call.result _ _ call.ensures
    (omega (arith, call.auto.rows, length-append call.new.rows (drop case.rows numbers)))
    (omega (arith, call.auto.file, length-append call.new.file (drop case.file bytes)))
