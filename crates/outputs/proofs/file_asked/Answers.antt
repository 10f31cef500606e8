-- The parts of the input are lent to the file call.
use Rattle.outputs.proofs.OutputLaws.{filed}
use Rattle.std.proofs.Common.{◌≡◌, Ok, Err, rules}
use Rattle.outputs.proofs.file_asked.Goals as goal

pub returns-in_err-count : goal.returns-in_err-count
returns-in_err-count c =
    let same : c.from_residual.result ≡ Err c.in_err-count.field-0.0 = search rules in
    rw same (filed c.args.input.now c.args.asked c.requires.0 c.requires.1 c.args.rows.now _ c.args.out.now _ c.requires.2 c.requires.3 (Err c.in_err-count.field-0.0) c.in_err-count.ensures)

pub returns : goal.returns
returns c =
    filed c.args.input.now c.args.asked c.requires.0 c.requires.1 c.args.rows.now _ c.args.out.now _ c.requires.2 c.requires.3 (Ok (c.in_ok-count.field-0-0, c.in_ok-count.count)) c.in_ok-count.ensures
