-- Its word between its tags.
use Rattle.std.proofs.Common.{refl}
use Rattle.text.specs.Ascii.{bytes}
use Rattle.message.specs.Bytes.{supplies, supply_bytes}
use Rattle.emitter.proofs.PartsLaws.{an_element}
use Rattle.emitter.proofs.parts.emit_supply.Goals as goal

pub returns : goal.returns
unfolding supplies supply_bytes bytes
returns g c = an_element g.met.S.Sink.laws "SupplyDirection" refl c.word.ensures c.emit_element.ensures
