-- What the conversion from a number answers: the kind of that number, if there is one.
use Rattle.std.specs.Prelude.{◌≡◌, ℕ, Result, Ok, Err}
use Rattle.std.proofs.Math.Option.{Option, none, some}
use Rattle.kinds.specs.declared.Kind.{Kind}
use Rattle.kinds.specs.declared.UnknownKind.{UnknownKind}
use Rattle.kinds.specs.Numbers.{kind_numbered}

-- the kind in the code's answer, which is that of the number
abbrev pub kind_in : Result Kind UnknownKind → Option Kind
kind_in (Ok kind) = some kind
kind_in (Err e) = none

abbrev pub Numbered : ℕ → Result Kind UnknownKind → Type 0
Numbered number r = kind_in r ≡ kind_numbered number
