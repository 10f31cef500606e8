-- A number without leading zeros is its last digits, as many as it has.
use Rattle.std.proofs.Common.{sym, ap, ◌∙◌, ℕ}
use Rattle.text.specs.Decimal.{fixed}
use Rattle.text.proofs.DecimalLaws.{plain-fixed}
use Rattle.emitter.proofs.Laying.{laid_as}
use Rattle.emitter.proofs.sink.lay_plain.Goals as goal

pub returns : goal.returns
returns g c = let v = c.args.v in laid_as g.met.S.Sink.laws (ap (λ (n : ℕ). fixed n v) c.width.ensures ∙ sym (plain-fixed v)) c.lay_fixed.ensures
