-- Numbers added, one behind the other, to those of a list from a place on.
use Rattle.std.specs.Prelude.{List, [], ◌∷◌, ℕ, suc, ◌+◌, ◌≤◌, ◌<◌, ℤ, pos, ◌+ℤ◌, length, get_or, set}
use Rattle.std.specs.Int.{w64}
use Rattle.std.proofs.Common.{SFits}

-- one number added at a place, and a run of them
abbrev pub add_at : List ℤ → ℕ → ℤ → List ℤ
add_at l i z = set l i (get_or l i (pos 0) +ℤ z)

abbrev pub adds : List ℤ → ℕ → List ℤ → List ℤ
adds l at [] = l
adds l at (z ∷ zs) = adds (add_at l at z) (suc at) zs

-- there is room for them, and no sum wraps
pub record Addable (l : List ℤ) (at : ℕ) (zs : List ℤ) : Type 0 where
  pub room : at + length zs ≤ length l
  pub fits : (k : ℕ) → k < length zs → SFits w64 (get_or l (at + k) (pos 0) +ℤ get_or zs k (pos 0))
