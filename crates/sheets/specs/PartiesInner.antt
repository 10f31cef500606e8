-- The balance parties of a register's rows.
use mathlib.Core.List.{List, map, flat_map}
use Rattle.std.specs.Prelude.{ℕ, Bool}
use Rattle.integers.specs.Ranges.{range}
use Rattle.integers.specs.Counts.{stands}
use Rattle.book.specs.Register.{point_at}
use Rattle.volumes.specs.Sheets.{parties_of}
use Rattle.settlement.specs.SectionsInner.{point_count_in}

-- the parties of the first n rows, by the columns that a version has
unfoldable pub parties_to : ℕ → List ℕ → ℕ → List ℕ
parties_to version register n = flat_map (parties_of version) (map (point_at register) (range 0 n))

-- "all parties in the register"
abbrev pub parties_in : ℕ → List ℕ → List ℕ
parties_in version register = parties_to version register (point_count_in register)

-- the party stands in row i
unfoldable pub in_row : ℕ → List ℕ → ℕ → ℕ → Bool
in_row version register party i = stands party (parties_of version (point_at register i))
