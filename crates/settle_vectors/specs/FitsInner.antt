-- What an answer says of the buffer that it is about.
use Rattle.std.specs.Prelude.{ℕ, ◌*◌, ◌≤◌}
use Rattle.volumes.specs.Settlement.{row_width}
use Rattle.settlement.specs.declared.settle.Settled.{Settled}
use Rattle.settlement.specs.declared.settle.Settled.TheVariants.{Rows, Refused}

-- the rows of an answer stand in so many numbers
abbrev pub RowsFit : Settled → ℕ → Type 0
RowsFit (Rows count) n = row_width * count ≤ n
RowsFit (Refused number item) n = Unit {0}
