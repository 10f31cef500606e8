-- What is sent back: a number and an item (document 01, "What is sent back"). Refusals are tried in order, and the first one counts.
use Rattle.std.specs.Prelude.{Bool, true, false, cond, ℕ, leb}
use Rattle.std.proofs.Math.Option.{Option, none, some}

pub record Refusal : Type 0 where
  pub number : ℕ
  pub item : ℕ

abbrev pub refused : ℕ → ℕ → Option Refusal
refused number item = some (record { number = number; item = item })

-- this refusal where the test fails, else what comes later
abbrev pub unless : Bool → ℕ → Option Refusal → Option Refusal
unless true number later = later
unless false number later = refused number 0

-- this refusal with the row that was found, else what comes later
abbrev pub unless_found : Option ℕ → ℕ → Option Refusal → Option Refusal
unless_found none number later = later
unless_found (some item) number later = refused number item

-- what comes first counts
unfoldable pub or_else : Option Refusal → Option Refusal → Option Refusal
or_else none later = later
or_else (some refusal) later = some refusal

-- "10, 0 or 1": the buffer of that item, of so many places, is "shorter than the answer"
abbrev pub short : ℕ → ℕ → ℕ → Option Refusal
short item answer lent = cond (leb answer lent) none (refused 10 item)
