-- How often a number stands in a list.
use Rattle.std.specs.Prelude.{Bool, cond, List, [], ◌∷◌, ℕ, ◌+◌, eqb, leb}

unfoldable pub times : ℕ → List ℕ → ℕ
times p [] = 0
times p (q ∷ l) = cond (eqb p q) 1 0 + times p l

-- a number stands in a list
unfoldable pub stands : ℕ → List ℕ → Bool
stands x l = leb 1 (times x l)
