-- A list with something written into it at a place.
use Rattle.std.specs.Prelude.{◌≡◌, List, ◌++◌, ℕ, ◌+◌, ◌≤◌, length, take, drop}

unfoldable pub written : List ℕ → ℕ → List ℕ → List ℕ
written d at bs = take at d ++ bs ++ drop (at + length bs) d

-- what a write leaves: there was room, `next` is the place behind what was written, and all else is as it was
pub record Wrote (before : List ℕ) (at : ℕ) (bs after : List ℕ) (next : ℕ) : Type 0 where
  pub room : at + length bs ≤ length before
  pub behind : next ≡ at + length bs
  pub list : after ≡ written before at bs
