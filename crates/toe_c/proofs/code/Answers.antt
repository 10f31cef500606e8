-- The sum is small enough not to wrap.
use Rattle.toe_c.specs.Codes.{refusal_code}
use Rattle.toe_c.proofs.code.Goals as goal

pub returns-in-Err : goal.returns-in-Err
unfolding refusal_code
returns-in-Err c = rw (c.in-Err.is, c.number.ensures, c.item.ensures)
