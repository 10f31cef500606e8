-- The sums that are answered stand in the part that was lent, and so in the whole.
-- By name: `using` the law was tried, whose conclusion doesn't show the call that it is about.
use Rattle.std.proofs.Common.{take, drop, length-append, arith}
use Rattle.sheet_vectors.proofs.FitsLaws.{fits}
use Rattle.sheet_vectors.proofs.sheet_case.Goals as goal

pub answer-requires : goal.answer-requires
answer-requires g c =
    let a = c.args in
    let call = c.sheet-said in
    let prepared = c.prepare.new.buffer in
    fits a.book.now a.case.party (take a.case.lent prepared) call.new.sums call.result _ call.ensures
    (omega (arith, call.auto.sums, length-append call.new.sums (drop a.case.lent prepared)))
