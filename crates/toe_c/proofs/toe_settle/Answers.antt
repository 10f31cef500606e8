-- The call's answer, as one number.
use Rattle.toe_c.proofs.SmallLaws.{settle-small}
use Rattle.toe_c.proofs.CodesLaws.{settle-coded}
use Rattle.toe_c.proofs.toe_settle.Goals as goal

pub code-requires : goal.code-requires
code-requires c = settle-small c.settle_rows.ensures

pub returns : goal.returns
returns c = settle-coded c.settle_rows.result _ c.settle_rows.ensures c.code.ensures
