-- The file's bytes, or the line of a refusal over what it left unchanged.
use Rattle.outputs.proofs.OutputLaws.{printed-file, printed-refused}
use Rattle.outputs.proofs.answer.Goals as goal

pub returns-in-Ok : goal.returns-in-Ok
returns-in-Ok c = printed-file c.args.input.now c.args.rows.now _ c.args.out.now _ c.in-Ok.count c.in-Ok.ensures

pub returns-in-Err : goal.returns-in-Err
returns-in-Err c =
    printed-refused c.args.input.now c.args.rows.now _ c.args.out.now _ c.in-Err.refused _ _ c.in-Err.ensures (rw (← c.number.ensures, ← c.item.ensures) c.put_refused.ensures)
