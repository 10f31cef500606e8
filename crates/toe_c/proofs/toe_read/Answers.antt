-- The reading's answer, as one number.
use native.Mathlib.Omega.{arith}
use Rattle.toe_c.proofs.CodesLaws.{facts_small, read-coded}
use Rattle.toe_c.proofs.toe_read.Goals as goal

pub code-requires : goal.code-requires
code-requires c = facts_small c.read.ensures

pub returns : goal.returns
returns c = read-coded _ _ (omega arith) c.read.ensures c.code.ensures
