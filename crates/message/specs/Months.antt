-- Months seen one after the other are all the same where each is like the one before it.
use Rattle.std.specs.Prelude.{Bool, ◌&&◌, ◌||◌, List, [], ◌∷◌, map, ℕ, eqb}
use Rattle.message.specs.Contents.{Partner}
use Rattle.message.specs.Valid.{month_of}

-- the months of series, each like the one before; none was seen before while `seen` is of year 0
unfoldable pub follows : ℕ × ℕ → ℕ × ℕ → Bool
follows seen q = eqb seen.0 0 || (eqb q.0 seen.0 && eqb q.1 seen.1)

unfoldable pub after : ℕ × ℕ → List (ℕ × ℕ) → ℕ × ℕ
after seen [] = seen
after seen (q ∷ l) = after q l

abbrev pub next_months : ℕ × ℕ → Partner → ℕ × ℕ
next_months seen p = after seen (map month_of p.series)
