-- n digits have that length.
use Rattle.std.proofs.Common.{refl, arith}
use Rattle.text.proofs.DecimalLaws.{length-fixed}
use Rattle.emitter.proofs.write.WriteSink.lay_fixed.Goals as goal

pub returns-then-out-self : goal.returns-then-out-self
returns-then-out-self c = (record { name = refl; long = refl }, omega (arith, length-fixed c.args.n c.args.v))
