-- A property that each of a list has.
use Rattle.std.specs.Prelude.{List, [], ◌∷◌}

unfoldable pub All : {A : Type 0} → (A → Type 0) → List A → Type 0
All P [] = Unit {0}
All P (a ∷ l) = P a × All P l
