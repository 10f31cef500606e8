-- The numbers of a list, each once, rising.
use Rattle.std.specs.Prelude.{cond, List, [], ◌∷◌, ℕ, eqb, ltb}

-- a number in its place among rising ones; one that is there already stays alone
unfoldable pub insert : ℕ → List ℕ → List ℕ
insert x [] = x ∷ []
insert x (y ∷ l) = let rest : List ℕ = insert x l in cond (ltb x y) (x ∷ y ∷ l) (cond (eqb x y) (y ∷ l) (y ∷ rest))

unfoldable pub ascending : List ℕ → List ℕ
ascending [] = []
ascending (x ∷ l) = insert x (ascending l)
