-- Numbers that rise strictly.
use Rattle.std.specs.Prelude.{Bool, true, ◌&&◌, List, [], ◌∷◌, ℕ, suc, leb}

-- numbers from `low` on, each greater than the one before
unfoldable pub rises : ℕ → List ℕ → Bool
rises low [] = true
rises low (n ∷ l) = leb low n && rises (suc n) l
