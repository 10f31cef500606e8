-- Numbers that rise from a place on rise from an earlier one on, and are few below a number.
use Rattle.std.specs.Prelude.{◌≡◌, refl, true, List, [], ◌∷◌, ℕ, suc, ◌+◌, ◌<◌, ◌≤◌, leb, length}
use Rattle.std.proofs.Common.{arith, leb-true, le-leb}
use Rattle.integers.proofs.TestsLaws.{both, and_both, and_left, and_right}
use Rattle.integers.specs.Rises.{rises}
use Rattle.integers.specs.All.{All}

-- numbers that rise from a place on rise from an earlier one on
pub rises-earlier : (low n : ℕ) (l : List ℕ) → low ≤ n → rises n l ≡ true → rises low l ≡ true
unfolding rises
rises-earlier low n [] h e = refl
rises-earlier low n (a ∷ l) h e = let b = both (leb n a) (rises (suc a) l) e in and_both (le-leb low a (omega (arith, leb-true n a b.0))) b.1

-- numbers that rise from `low` on and stay below `high` are few
pub rises-few : (low high : ℕ) (l : List ℕ) → low ≤ high → rises low l ≡ true → All (λ n. n < high) l → low + length l ≤ high
unfolding rises All
rises-few low high [] h r v = omega arith
rises-few low high (n ∷ l) h r v =
    omega (arith, leb-true low n (and_left (leb low n) (rises (suc n) l) r), rises-few (suc n) high l v.0 (and_right (leb low n) (rises (suc n) l) r) v.1)
