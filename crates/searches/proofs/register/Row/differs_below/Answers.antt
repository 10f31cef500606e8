-- A row whose access EAN is above those of all earlier rows shares it with none.
use Rattle.std.proofs.Common.{arith}
use Rattle.searches.proofs.RegisterLaws.{none_earlier}
use Rattle.searches.proofs.register.Row.differs_below.Goals as goal

pub returns-then-top-access : goal.returns-then-top-access
returns-then-top-access c = none_earlier c.args.self.register.now c.args.self.i c.args.top c.requires (omega arith)
