-- What `any` answers is whether a row has the receiver.
use Rattle.std.proofs.Common.{rules}
use Rattle.std.proofs.iter.runs.Sources.{ranges}
use Rattle.partners.proofs.RolesLaws.{role-is}
use Rattle.partners.proofs.register.in_role.Goals as goal

pub returns : goal.returns
returns c = role-is c.args.register.now c.args.role.kind c.args.role.receiver c.any.result (search (rules, ranges))
