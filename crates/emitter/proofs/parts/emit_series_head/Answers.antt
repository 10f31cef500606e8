-- Its parts, one by one.
use Rattle.text.specs.Ascii.{bytes}
use Rattle.message.specs.Bytes.{opening, ending, closing}
use Rattle.emitter.specs.PartsInner.{series_head}
use Rattle.emitter.proofs.Laying.{and_then, stops}
use Rattle.emitter.proofs.parts.emit_series_head.Goals as goal

pub returns-in_err-lay : goal.returns-in_err-lay
unfolding opening ending closing bytes series_head
returns-in_err-lay g c = let e = g.met.S.Sink.laws in stops e _ c.in_err-lay.ensures c.from_residual.ensures

pub returns-in_err-emit_series_supply : goal.returns-in_err-emit_series_supply
unfolding opening ending closing bytes series_head
returns-in_err-emit_series_supply g c = let e = g.met.S.Sink.laws in and_then e c.in_ok-lay.ensures (stops e _ c.in_err-emit_series_supply.ensures c.from_residual-in_err-emit_series_supply.ensures)

pub returns : goal.returns
unfolding opening ending closing bytes series_head
returns g c = let e = g.met.S.Sink.laws in and_then e c.in_ok-lay.ensures (and_then e c.in_ok-emit_series_supply.ensures c.emit_head.ensures)
