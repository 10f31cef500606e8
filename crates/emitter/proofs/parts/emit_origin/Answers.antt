-- Its parts, one by one.
use Rattle.std.proofs.Common.{refl}
use Rattle.text.specs.Ascii.{bytes}
use Rattle.message.specs.Bytes.{root}
use Rattle.emitter.specs.PartsInner.{origin_bytes}
use Rattle.emitter.proofs.Laying.{and_then, stops}
use Rattle.emitter.proofs.PartsLaws.{an_opening, an_element}
use Rattle.emitter.proofs.parts.emit_origin.Goals as goal

pub returns-in_err-open : goal.returns-in_err-open
unfolding bytes origin_bytes
returns-in_err-open g c = let e = g.met.S.Sink.laws in stops e _ (an_opening e (root c.args.kind) c.root.ensures c.in_err-open.ensures) c.from_residual.ensures

pub returns-in_err-emit_element : goal.returns-in_err-emit_element
unfolding bytes origin_bytes
returns-in_err-emit_element g c = let e = g.met.S.Sink.laws in and_then e (an_opening e (root c.args.kind) c.root.ensures c.in_ok-open.ensures) (stops e _ (an_element e "TransactionID" refl refl c.in_err-emit_element.ensures) c.from_residual-in_err-emit_element.ensures)

pub returns : goal.returns
unfolding bytes origin_bytes
returns g c = let e = g.met.S.Sink.laws in and_then e (an_opening e (root c.args.kind) c.root.ensures c.in_ok-open.ensures) (and_then e (an_element e "TransactionID" refl refl c.in_ok-emit_element.ensures) (an_element e "MessageCreateDateTime" refl refl c.emit_element-2.ensures))
