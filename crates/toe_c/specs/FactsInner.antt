-- A reading with its facts, before its answer is one number.
use Rattle.std.specs.Prelude.{◌≡◌, List, ℕ, length, Result}
use Rattle.refusals.specs.Refusals.{Refusal}
use Rattle.refusals.specs.Sent.{said}
use Rattle.refusals.specs.declared.Refused.{Refused}
use Rattle.message.specs.declared.FileFacts.{FileFacts}
use Rattle.message.specs.Calls.{ReadCalled}
use Rattle.toe_c.specs.Codes.{reply, with_facts, rows_by, facts_by, rows_read}

pub record FactsRead (file rows_before rows_after facts_before facts_after : List ℕ) (counted : Result ℕ Refusal) : Type 0 where
  pub answer : Result FileFacts Refused
  pub filled : List ℕ
  pub called : ReadCalled file rows_before filled answer
  pub rows : rows_after ≡ rows_by (with_facts (length facts_before) (said answer)) filled rows_before
  pub facts : facts_after ≡ facts_by (with_facts (length facts_before) (said answer)) facts_before
  pub count : counted ≡ reply rows_read (with_facts (length facts_before) (said answer))
