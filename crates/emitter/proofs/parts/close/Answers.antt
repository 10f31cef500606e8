-- The name between its signs.
use Rattle.emitter.proofs.Laying.{and_then, stops}
use Rattle.text.specs.Ascii.{bytes}
use Rattle.emitter.proofs.parts.close.Goals as goal

pub returns-in_err-lay : goal.returns-in_err-lay
unfolding bytes
returns-in_err-lay g c = let e = g.met.S.Sink.laws in stops e _ c.in_err-lay.ensures c.from_residual.ensures

pub returns-in_err-lay-2 : goal.returns-in_err-lay-2
unfolding bytes
returns-in_err-lay-2 g c = let e = g.met.S.Sink.laws in and_then e c.in_ok-lay.ensures (stops e _ c.in_err-lay-2.ensures c.from_residual-in_err-lay-2.ensures)

pub returns : goal.returns
unfolding bytes
returns g c = let e = g.met.S.Sink.laws in and_then e c.in_ok-lay.ensures (and_then e c.in_ok-lay-2.ensures c.lay-3.ensures)
