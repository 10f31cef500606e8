-- The numbers of the kinds of file (document 01, "The file").
use Rattle.std.specs.Prelude.{Bool, true, false, ℕ, zero, suc}
use Rattle.std.proofs.Math.Option.{Option, none, some}
use Rattle.kinds.specs.declared.Kind.{Kind}
use Rattle.kinds.specs.declared.Kind.TheVariants.{Toe01, Toe02, Toe03}

-- "kind 01 to 03"
abbrev pub kind_numbered : ℕ → Option Kind
kind_numbered zero = none
kind_numbered (suc zero) = some Toe01
kind_numbered (suc (suc zero)) = some Toe02
kind_numbered (suc (suc (suc zero))) = some Toe03
kind_numbered (suc (suc (suc (suc n)))) = none

abbrev pub kind_number : Kind → ℕ
kind_number Toe01 = 1
kind_number Toe02 = 2
kind_number Toe03 = 3

-- whether there is one
abbrev pub is_there : Option Kind → Bool
is_there none = false
is_there (some kind) = true

-- whether a number is that of a kind
abbrev pub is_kind : ℕ → Bool
is_kind n = is_there (kind_numbered n)
