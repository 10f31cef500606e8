-- What the register's code keeps of the rows that it has passed, and of a situation's byte.
use Rattle.std.specs.Prelude.{Bool, true, false, List, ℕ, ◌≤◌, ◌<◌}
use Rattle.book.specs.declared.Takers.{Takers}
use Rattle.book.specs.declared.Takers.TheVariants.{Aggregated, Individual, Neither, Refused}
use Rattle.book.specs.Register.{register_row, access_in, differs}

abbrev pub is_known : Takers → Bool
is_known Aggregated = true
is_known Individual = true
is_known Neither = true
is_known Refused = false

-- rows i and j differ, kept shut
unfoldable pub differs_from : List ℕ → ℕ → ℕ → Bool
differs_from register i j = differs register i j

-- no access EAN of the rows before row i is above a number
abbrev pub Topped : List ℕ → ℕ → ℕ → Type 0
Topped register i top = (j : ℕ) → j < i → access_in (register_row register j) ≤ top
