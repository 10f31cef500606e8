-- The call's answer, as one number.
use Rattle.toe_c.proofs.SmallLaws.{write-small}
use Rattle.toe_c.proofs.CodesLaws.{write-coded}
use Rattle.toe_c.proofs.toe_write.Goals as goal

pub code-requires : goal.code-requires
code-requires c = write-small c.write.ensures

pub returns : goal.returns
returns c = write-coded c.write.result _ c.write.ensures c.code.ensures
