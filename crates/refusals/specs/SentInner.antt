-- What an answer that says nothing else sends back.
use Rattle.std.specs.Prelude.{Result, Ok, Err}
use Rattle.std.proofs.Math.Option.{Option, none, some}
use Rattle.refusals.specs.Refusals.{Refusal}
use Rattle.refusals.specs.Sent.{sent_back}
use Rattle.refusals.specs.declared.Refused.{Refused}

-- the refusal that an answer sends back, if there is one
abbrev pub refusal_in : {A : Type 0} → Result A Refused → Option Refusal
refusal_in (Ok answer) = none
refusal_in (Err e) = some (sent_back e)
