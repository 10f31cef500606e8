-- Its parts, one by one.
use Rattle.std.proofs.Common.{refl}
use Rattle.text.specs.Ascii.{bytes}
use Rattle.message.specs.Bytes.{opening, ending, closing}
use Rattle.emitter.specs.PartsInner.{head_bytes}
use Rattle.emitter.proofs.Laying.{and_then, stops}
use Rattle.emitter.proofs.PartsLaws.{an_element}
use Rattle.emitter.proofs.parts.emit_head.Goals as goal

pub returns-in_err-emit_delivery : goal.returns-in_err-emit_delivery
unfolding opening ending closing bytes head_bytes
returns-in_err-emit_delivery g c = let e = g.met.S.Sink.laws in stops e _ c.in_err-emit_delivery.ensures c.from_residual.ensures

pub returns-in_err-lay : goal.returns-in_err-lay
unfolding opening ending closing bytes head_bytes
returns-in_err-lay g c = let e = g.met.S.Sink.laws in and_then e c.in_ok-emit_delivery.ensures (stops e _ c.in_err-lay.ensures c.from_residual-in_err-lay.ensures)

pub returns-in_err-emit_plain : goal.returns-in_err-emit_plain
unfolding opening ending closing bytes head_bytes
returns-in_err-emit_plain g c = let e = g.met.S.Sink.laws in and_then e c.in_ok-emit_delivery.ensures (and_then e c.in_ok-lay.ensures (stops e _ (an_element e "ObservationCounter" refl refl c.in_err-emit_plain.ensures) c.from_residual-in_err-emit_plain.ensures))

pub returns-in_err-lay-2 : goal.returns-in_err-lay-2
unfolding opening ending closing bytes head_bytes
returns-in_err-lay-2 g c = let e = g.met.S.Sink.laws in and_then e c.in_ok-emit_delivery.ensures (and_then e c.in_ok-lay.ensures (and_then e (an_element e "ObservationCounter" refl refl c.in_ok-emit_plain.ensures) (stops e _ c.in_err-lay-2.ensures c.from_residual-in_err-lay-2.ensures)))

pub returns : goal.returns
unfolding opening ending closing bytes head_bytes
returns g c = let e = g.met.S.Sink.laws in and_then e c.in_ok-emit_delivery.ensures (and_then e c.in_ok-lay.ensures (and_then e (an_element e "ObservationCounter" refl refl c.in_ok-emit_plain.ensures) (and_then e c.in_ok-lay-2.ensures c.emit_period.ensures)))
