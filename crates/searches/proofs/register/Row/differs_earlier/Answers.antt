-- What `any` answers is whether an earlier row differs.
use Rattle.std.proofs.Common.{rules, ◌∙◌}
use Rattle.std.proofs.iter.runs.Sources.{ranges}
use Rattle.integers.proofs.FoundLaws.{any-is}
use Rattle.searches.specs.RegisterInner.{differs_from}
use Rattle.searches.proofs.RegisterLaws.{differs-earlier}
use Rattle.searches.proofs.register.Row.differs_earlier.Goals as goal

pub returns : goal.returns
returns c =
    let s = c.args.self in
    any-is (differs_from s.register.now s.i) s.i c.any.result (search (rules, ranges)) ∙ differs-earlier s.register.now s.i s.i
