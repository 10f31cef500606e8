-- Rows one behind the other.
use Rattle.std.specs.Prelude.{Bool, true, cond, ◌&&◌, List, [], ◌∷◌}
use Rattle.message.specs.Group.{Keys}

-- each passes
unfoldable pub every : {A : Type 0} → (A → Bool) → List A → Bool
every good [] = true
every good (a ∷ l) = good a && every good l

-- each may stand behind the one before it
unfoldable pub follow : {A : Type 0} → (A → A → Bool) → A → List A → Bool
follow before a [] = true
follow before a (b ∷ l) = before a b && follow before b l

unfoldable pub ordered : {A : Type 0} → (A → A → Bool) → List A → Bool
ordered before [] = true
ordered before (a ∷ l) = follow before a l

-- by their keys, or, of one key, by what stands under it
abbrev pub by : {K A : Type 0} → Keys K → (K → K → Bool) → (A → A → Bool) → K × A → K × A → Bool
by E keys before x y = cond (E.same x.0 y.0) (before x.1 y.1) (keys x.0 y.0)

-- a key that passes, and what stands under it
abbrev pub both : {K A : Type 0} → (K → Bool) → (A → Bool) → K × A → Bool
both key good x = key x.0 && good x.1
