-- A list that falls, with one more number in its place.
use Rattle.std.specs.Prelude.{◌≡◌, List, [], ◌∷◌, ◌++◌, ℕ, max, min, length, take, drop}

abbrev pub inserted : ℕ → List ℕ → List ℕ
inserted x [] = x ∷ []
inserted x (k ∷ l) = max k x ∷ inserted (min k x) l

-- i of the keys are in their places, x is carried, and the others are as they were
pub record Inserting (keys₀ keys : List ℕ) (n key i x : ℕ) : Type 0 where
  pub done : take i keys ++ inserted x (drop i (take n keys₀)) ≡ inserted key (take n keys₀)
  pub rest : drop i keys ≡ drop i keys₀
  pub same : length keys ≡ length keys₀
