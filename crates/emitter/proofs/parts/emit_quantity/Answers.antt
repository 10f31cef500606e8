-- Kilowatts, a point, three decimals.
use Rattle.emitter.proofs.Laying.{and_then, stops, laid_as}
use Rattle.text.specs.Ascii.{bytes}
use Rattle.emitter.proofs.PartsLaws.{quantity-parts}
use Rattle.emitter.proofs.parts.emit_quantity.Goals as goal

pub returns-in_err-lay_plain : goal.returns-in_err-lay_plain
unfolding bytes
returns-in_err-lay_plain g c = let e = g.met.S.Sink.laws in laid_as e (quantity-parts c.args.watts) (stops e _ c.in_err-lay_plain.ensures c.from_residual.ensures)

pub returns-in_err-lay : goal.returns-in_err-lay
unfolding bytes
returns-in_err-lay g c = let e = g.met.S.Sink.laws in laid_as e (quantity-parts c.args.watts) (and_then e c.in_ok-lay_plain.ensures (stops e _ c.in_err-lay.ensures c.from_residual-in_err-lay.ensures))

pub returns : goal.returns
unfolding bytes
returns g c = let e = g.met.S.Sink.laws in laid_as e (quantity-parts c.args.watts) (and_then e c.in_ok-lay_plain.ensures (and_then e c.in_ok-lay.ensures c.lay_fixed.ensures))
