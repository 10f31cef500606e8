-- The answer is that of the rows, in document 01's form.
use Rattle.settlement.specs.CallsLaws.{called}
use Rattle.settlement.proofs.settle.settle.Goals as goal

pub returns : goal.returns
returns c = called c.args.book.now c.args.rows.now c.settle_rows.new.out c.settle_rows.result c.settle_rows.ensures c.from.ensures
