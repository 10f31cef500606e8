-- The months of the years that the code takes.
use Rattle.std.specs.Prelude.{ℕ, ◌≤◌}

-- a month of the years that the code takes
pub record IsMonth (year month : ℕ) : Type 0 where
  pub from : 1 ≤ year
  pub to : year ≤ 9999
  pub january : 1 ≤ month
  pub december : month ≤ 12
