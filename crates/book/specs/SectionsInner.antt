-- Which extent names which section: their order in document 01, "The book".
use Rattle.std.specs.Prelude.{ℕ}
use Rattle.book.specs.declared.Section.{Section}
use Rattle.book.specs.declared.Section.TheVariants.{Calendar, Table, Register, Readings, Engagements}

-- counted from 0
abbrev pub extent_of : Section → ℕ
extent_of Calendar = 0
extent_of Table = 1
extent_of Register = 2
extent_of Readings = 3
extent_of Engagements = 4
