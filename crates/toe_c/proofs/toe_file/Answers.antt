-- The call's answer, as one number.
use Rattle.std.proofs.Common.{◌≡◌, rules}
use Rattle.refusals.specs.Sent.{said}
use Rattle.toe_c.specs.Codes.{reply, bytes_in}
use Rattle.toe_c.proofs.SmallLaws.{reply_small, file-small}
use Rattle.toe_c.proofs.CodesLaws.{file-coded}
use Rattle.toe_c.proofs.toe_file.Goals.{After-map}
use Rattle.toe_c.proofs.toe_file.Goals as goal

counted : (c : After-map) → said c.map.result ≡ reply bytes_in (said c.file-answer.result)
counted c = search rules

pub code-requires : goal.code-requires
code-requires c = rw (counted c) (reply_small bytes_in _ (file-small c.file-answer.ensures))

pub returns : goal.returns
returns c = file-coded c.file-answer.result _ c.file-answer.ensures (rw (← counted (goal.at.returns c).After-map) c.code.ensures)
