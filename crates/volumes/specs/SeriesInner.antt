-- Which kinds of file take a point, by what the register's byte said.
use Rattle.std.specs.Prelude.{◌≡◌, Bool, true, false}
use Rattle.book.specs.declared.Takers.{Takers}
use Rattle.book.specs.declared.Takers.TheVariants.{Aggregated, Individual, Neither, Refused}
use Rattle.book.specs.declared.Point.{Point}
use Rattle.volumes.specs.Series.{takes, Kind, Toe01, Toe02, Toe03}

-- the same by what the register's byte says; a byte that is no situation is refused, and no file takes its row
unfoldable pub taken_by : Kind → Takers → Bool
taken_by Toe01 Aggregated = true
taken_by Toe01 Individual = false
taken_by Toe01 Neither = false
taken_by Toe01 Refused = false
taken_by Toe02 Aggregated = true
taken_by Toe02 Individual = false
taken_by Toe02 Neither = false
taken_by Toe02 Refused = false
taken_by Toe03 Aggregated = false
taken_by Toe03 Individual = true
taken_by Toe03 Neither = false
taken_by Toe03 Refused = false

-- a point's takers are those of its situation: so with each register row (`told_at`)
pub record Told (point : Point) : Type 0 where
  pub law : (kind : Kind) → taken_by kind point.takers ≡ takes kind point.situation
