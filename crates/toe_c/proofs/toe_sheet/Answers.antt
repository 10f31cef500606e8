-- The call's answer, as one number.
use Rattle.toe_c.proofs.SmallLaws.{sheet-small}
use Rattle.toe_c.proofs.CodesLaws.{sheet-coded}
use Rattle.toe_c.proofs.toe_sheet.Goals as goal

pub code-requires : goal.code-requires
code-requires c = sheet-small c.sheet.ensures

pub returns : goal.returns
returns c = sheet-coded c.sheet.result _ c.sheet.ensures c.code.ensures
