-- The five extents are those of the sections.
use Rattle.std.specs.Prelude.{◌≤◌}
use Rattle.std.proofs.Common.{arith}
use Rattle.book.specs.declared.Section.{Section}
use Rattle.book.specs.declared.Section.TheVariants.{Calendar, Table, Register, Readings, Engagements}
use Rattle.book.specs.SectionsInner.{extent_of}

pub extent-few : (s : Section) → extent_of s ≤ 4
extent-few Calendar = omega arith
extent-few Table = omega arith
extent-few Register = omega arith
extent-few Readings = omega arith
extent-few Engagements = omega arith
