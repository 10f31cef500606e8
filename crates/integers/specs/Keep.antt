-- Those of a list that pass a test, in their order.
use Rattle.std.specs.Prelude.{Bool, true, false, cond, List, [], ◌∷◌}

unfoldable pub keep : {A : Type 0} → (A → Bool) → List A → List A
keep test [] = []
keep test (a ∷ l) = let rest : List _ = keep test l in cond (test a) (a ∷ rest) rest

-- a list that isn't empty
unfoldable pub is_some : {A : Type 0} → List A → Bool
is_some [] = false
is_some (a ∷ l) = true
