-- Whether a list begins with a tag.
use Rattle.std.specs.Prelude.{Bool, true, false, ◌&&◌, List, [], ◌∷◌, ℕ, eqb}

unfoldable pub begins : List ℕ → List ℕ → Bool
begins [] s = true
begins (t ∷ ts) [] = false
begins (t ∷ ts) (x ∷ s) = eqb x t && begins ts s
