-- The derived `==` of directions is that of the definitions.
use Rattle.std.specs.Prelude.{◌≡◌, refl}
use denote.Enum.Bare.{sameb}
use Rattle.book.specs.declared.Supply.{Supply}
use Rattle.book.specs.declared.Supply.TheVariants.{OffTake, Injection}
use Rattle.book.specs.declared.Direction.{Direction}
use Rattle.book.specs.declared.Direction.TheVariants.{Up, Down}
use Rattle.book.specs.contracts.Supply as supply
use Rattle.book.specs.contracts.Direction as direction
use Rattle.volumes.specs.Series.{same_supply, same_direction}

pub supply-same : (a b : Supply) → sameb supply.the_type a b ≡ same_supply a b
unfolding same_supply
supply-same OffTake OffTake = refl
supply-same OffTake Injection = refl
supply-same Injection OffTake = refl
supply-same Injection Injection = refl

pub direction-same : (a b : Direction) → sameb direction.the_type a b ≡ same_direction a b
unfolding same_direction
direction-same Up Up = refl
direction-same Up Down = refl
direction-same Down Up = refl
direction-same Down Down = refl
