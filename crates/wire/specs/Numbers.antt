-- "Integers are little-endian, unsigned unless stated." (document 01, "The book")
use Rattle.std.specs.Prelude.{ℕ, ◌+◌, ◌*◌, List, [], ◌∷◌, take, drop}

-- the number whose bytes, the least first, are these
abbrev pub little : List ℕ → ℕ
little [] = 0
little (x ∷ xs) = x + 256 * little xs

-- the number in the n bytes from `at` on
abbrev pub number_at : List ℕ → ℕ → ℕ → ℕ
number_at xs at n = little (take n (drop at xs))
