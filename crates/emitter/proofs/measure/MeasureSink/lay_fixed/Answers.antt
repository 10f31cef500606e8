-- n digits have that length.
use Rattle.std.proofs.Common.{sym, subst, ℕ}
use Rattle.text.proofs.DecimalLaws.{length-fixed}
use Rattle.emitter.specs.MeasuredInner.{Counted}
use Rattle.emitter.proofs.measure.MeasureSink.lay_fixed.Goals as goal

pub returns : goal.returns
returns c = let a = c.args in subst (λ (n : ℕ). Counted a.self.now n c.count.result c.count.new.self) (sym (length-fixed a.n a._v)) c.count.ensures
