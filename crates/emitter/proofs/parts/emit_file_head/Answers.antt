-- Its parts, one by one.
use Rattle.std.proofs.Common.{refl}
use Rattle.text.specs.Ascii.{bytes}
use Rattle.message.specs.Bytes.{counter}
use Rattle.emitter.specs.PartsInner.{file_head}
use Rattle.emitter.proofs.Laying.{and_then, stops}
use Rattle.emitter.proofs.PartsLaws.{an_element}
use Rattle.emitter.proofs.parts.emit_file_head.Goals as goal

pub returns-in_err-emit_origin : goal.returns-in_err-emit_origin
unfolding bytes file_head
returns-in_err-emit_origin g c = let e = g.met.S.Sink.laws in stops e _ c.in_err-emit_origin.ensures c.from_residual.ensures

pub returns-in_err-emit_fixed : goal.returns-in_err-emit_fixed
unfolding bytes file_head
returns-in_err-emit_fixed g c = let e = g.met.S.Sink.laws in and_then e c.in_ok-emit_origin.ensures (stops e _ (an_element e "ReceiverID" refl refl c.in_err-emit_fixed.ensures) c.from_residual-in_err-emit_fixed.ensures)

pub returns : goal.returns
unfolding bytes file_head
returns g c = let e = g.met.S.Sink.laws in and_then e c.in_ok-emit_origin.ensures (and_then e (an_element e "ReceiverID" refl refl c.in_ok-emit_fixed.ensures) (an_element e (counter c.args.kind) c.counter.ensures refl c.emit_plain.ensures))
