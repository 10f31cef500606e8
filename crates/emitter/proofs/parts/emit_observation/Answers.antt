-- Its parts, one by one.
use Rattle.emitter.proofs.Laying.{and_then, stops, laid_as}
use Rattle.text.specs.Ascii.{bytes}
use Rattle.message.specs.Bytes.{opening, ending, closing}
use Rattle.emitter.proofs.PartsLaws.{observation-parts}
use Rattle.emitter.proofs.parts.emit_observation.Goals as goal

pub returns-in_err-lay : goal.returns-in_err-lay
unfolding opening ending closing bytes
returns-in_err-lay g c = let e = g.met.S.Sink.laws in laid_as e (observation-parts c.args.position c.args.watts) (stops e _ c.in_err-lay.ensures c.from_residual.ensures)

pub returns-in_err-lay_plain : goal.returns-in_err-lay_plain
unfolding opening ending closing bytes
returns-in_err-lay_plain g c = let e = g.met.S.Sink.laws in laid_as e (observation-parts c.args.position c.args.watts) (and_then e c.in_ok-lay.ensures (stops e _ c.in_err-lay_plain.ensures c.from_residual-in_err-lay_plain.ensures))

pub returns-in_err-lay-2 : goal.returns-in_err-lay-2
unfolding opening ending closing bytes
returns-in_err-lay-2 g c = let e = g.met.S.Sink.laws in laid_as e (observation-parts c.args.position c.args.watts) (and_then e c.in_ok-lay.ensures (and_then e c.in_ok-lay_plain.ensures (stops e _ c.in_err-lay-2.ensures c.from_residual-in_err-lay-2.ensures)))

pub returns-in_err-emit_quantity : goal.returns-in_err-emit_quantity
unfolding opening ending closing bytes
returns-in_err-emit_quantity g c = let e = g.met.S.Sink.laws in laid_as e (observation-parts c.args.position c.args.watts) (and_then e c.in_ok-lay.ensures (and_then e c.in_ok-lay_plain.ensures (and_then e c.in_ok-lay-2.ensures (stops e _ c.in_err-emit_quantity.ensures c.from_residual-in_err-emit_quantity.ensures))))

pub returns : goal.returns
unfolding opening ending closing bytes
returns g c = let e = g.met.S.Sink.laws in laid_as e (observation-parts c.args.position c.args.watts) (and_then e c.in_ok-lay.ensures (and_then e c.in_ok-lay_plain.ensures (and_then e c.in_ok-lay-2.ensures (and_then e c.in_ok-emit_quantity.ensures c.lay-3.ensures))))
