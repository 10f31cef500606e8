-- Eight numbers, over the first eight.
use Rattle.refusals.specs.Buffers.{over}
use Rattle.toe_c.specs.Codes.{fact_numbers}
use Rattle.toe_c.proofs.put_facts.Goals as goal

pub returns : goal.returns
unfolding fact_numbers over
returns c = rw (c.copy_from_slice.ensures.after, c.from.ensures)
