-- The refusals of the code as what document 01 sends back: a number and an item ("What is sent back").
use Rattle.std.specs.Prelude.{Result, Ok, Err}
use Rattle.std.proofs.Math.Option.{Option, none, some}
use Rattle.refusals.specs.Refusals.{Refusal}
use Rattle.refusals.specs.declared.Refused.{Refused}
use Rattle.refusals.specs.declared.Refused.TheVariants.{Header, Layout, Tables, Register, Readings, Engagements, Missing, TooFew, Short, Role, Malformed, NoFile}

-- the number of a refusal, and its item: 0 where none stands beside it
abbrev pub sent_back : Refused → Refusal
sent_back Header = record { number = 1; item = 0 }
sent_back Layout = record { number = 2; item = 0 }
sent_back Tables = record { number = 4; item = 0 }
sent_back (Register row) = record { number = 5; item = row }
sent_back (Readings point) = record { number = 6; item = point }
sent_back (Engagements row) = record { number = 7; item = row }
sent_back (Missing row) = record { number = 8; item = row }
sent_back (TooFew row) = record { number = 9; item = row }
sent_back (Short buffer) = record { number = 10; item = buffer }
sent_back Role = record { number = 11; item = 0 }
sent_back Malformed = record { number = 12; item = 0 }
sent_back NoFile = record { number = 13; item = 0 }

-- an answer with its refusal as document 01 sends it back
abbrev pub said : {A : Type 0} → Result A Refused → Result A Refusal
said (Ok answer) = Ok answer
said (Err e) = Err (sent_back e)

-- the refusal, if there is one, else the answer
abbrev pub says : {A : Type 0} → Option Refusal → A → Result A Refusal
says none answer = Ok answer
says (some refusal) answer = Err refusal
