-- Its word between its tags.
use Rattle.std.proofs.Common.{refl}
use Rattle.text.specs.Ascii.{bytes}
use Rattle.message.specs.Bytes.{deliveries}
use Rattle.emitter.specs.PartsInner.{delivery_bytes}
use Rattle.emitter.proofs.PartsLaws.{an_element}
use Rattle.emitter.proofs.parts.emit_delivery.Goals as goal

pub returns : goal.returns
unfolding deliveries delivery_bytes bytes
returns g c = an_element g.met.S.Sink.laws "DeliveryDirection" refl c.word.ensures c.emit_element.ensures
