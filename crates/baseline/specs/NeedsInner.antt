-- The readings that an engagement needs, and the number of what it lacks.
use Rattle.std.specs.Prelude.{Bool, true, false, Result, Ok, Err, List, [], ◌∷◌, ℕ, ◌+◌}
use Rattle.std.proofs.Math.Option.{Option, none, some}
use Rattle.wire.specs.Readings.{Reading}
use Rattle.book.specs.declared.Method.{Method}
use Rattle.book.specs.declared.Method.TheVariants.{LastQuarter, HighXOfY, Adjusted}
use Rattle.baseline.specs.ShownInner.{before_in, window_in}
use Rattle.baseline.specs.declared.judge.Lack.{Lack}
use Rattle.baseline.specs.declared.judge.Lack.TheVariants.{Reading as LacksReading, Days}

-- what a method needs besides the engagement's own quarter-hours
unfoldable pub needed_in : Method → List ℕ → ℕ → ℕ → List Reading
needed_in LastQuarter readings q notice = before_in readings q (notice + 1) ∷ []
needed_in HighXOfY readings q notice = []
needed_in Adjusted readings q notice = window_in readings q

-- methods 1 and 2 look at reference days
unfoldable pub looks_back : Method → Bool
looks_back LastQuarter = false
looks_back HighXOfY = true
looks_back Adjusted = true

-- "8, row", "9, row"
abbrev pub number_of : Result (Unit {0}) Lack → Option ℕ
number_of (Ok _) = none
number_of (Err LacksReading) = some 8
number_of (Err Days) = some 9
