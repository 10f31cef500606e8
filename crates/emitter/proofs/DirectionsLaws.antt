-- The two words of a direction: the tag and the word that a number stands for.
use Rattle.std.specs.Prelude.{◌≡◌, ℕ}
use mathlib.Core.List.{◌++◌}
use Rattle.text.specs.Ascii.{bytes}
use Rattle.formats.specs.Words.{word_at}
use Rattle.message.specs.Bytes.{opening, closing, supplies, supply_bytes, deliveries}
use Rattle.emitter.specs.PartsInner.{delivery_bytes}

pub off-take : (s : ℕ) → s ≡ 0 → opening "SupplyDirection" ++ bytes "Off-take" ++ closing "SupplyDirection" ≡ supply_bytes s
unfolding supply_bytes supplies word_at
off-take s e = rw e

pub injection : (s : ℕ) → s ≡ 1 → opening "SupplyDirection" ++ bytes "Injection" ++ closing "SupplyDirection" ≡ supply_bytes s
unfolding supply_bytes supplies word_at
injection s e = rw e

pub up : (s : ℕ) → s ≡ 0 → opening "DeliveryDirection" ++ bytes "DeliveryUp" ++ closing "DeliveryDirection" ≡ delivery_bytes s
unfolding delivery_bytes deliveries word_at
up s e = rw e

pub down : (s : ℕ) → s ≡ 1 → opening "DeliveryDirection" ++ bytes "DeliveryDown" ++ closing "DeliveryDirection" ≡ delivery_bytes s
unfolding delivery_bytes deliveries word_at
down s e = rw e
