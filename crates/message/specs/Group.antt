-- Rows with a key, and groups of neighbouring rows of one key. Each undoes the other.
use Rattle.std.specs.Prelude.{◌≡◌, Bool, true, cond}
use mathlib.Core.List.{List, [], ◌∷◌, map, flat_map}

-- keys that can be told apart
pub record Keys (K : Type 0) : Type 0 where
  pub same : K → K → Bool
  pub alike : (a b : K) → same a b ≡ true → a ≡ b
  pub itself : (a : K) → same a a ≡ true

-- a row before groups: it joins the first group if that has its key
module _ {K A : Type 0} (E : Keys K) where
  unfoldable pub push : K → A → List (K × List A) → List (K × List A)
  push k a [] = (k, a ∷ []) ∷ []
  push k a (g ∷ gs) = cond (E.same k g.0) ((k, a ∷ g.1) ∷ gs) ((k, a ∷ []) ∷ g ∷ gs)

  unfoldable pub group : List (K × A) → List (K × List A)
  group [] = []
  group (x ∷ l) = push x.0 x.1 (group l)

unfoldable pub spread : {K A : Type 0} → List (K × List A) → List (K × A)
spread gs = flat_map (λ g. map (λ a. (g.0, a)) g.1) gs
