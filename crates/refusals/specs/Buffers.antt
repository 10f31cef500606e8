-- What a call leaves in a buffer that it was lent (document 01, "What is sent back").
use Rattle.std.specs.Prelude.{List, ◌++◌, length, drop}
use Rattle.std.proofs.Math.Option.{Option, none, some}
use Rattle.refusals.specs.Refusals.{Refusal}

-- an answer in front, and behind it what was there
unfoldable pub over : {A : Type 0} → List A → List A → List A
over new old = new ++ drop (length new) old

-- "A refusal changes no buffer; an acceptance changes only the places of its answer."
unfoldable pub afterwards : {A : Type 0} → Option Refusal → List A → List A → List A
afterwards none new old = over new old
afterwards (some r) new old = old
