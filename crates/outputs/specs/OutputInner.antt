-- What the file that the input asks for leaves, before a refusal is printed.
use Rattle.std.specs.Prelude.{◌≡◌, List, ℕ, ℤ, length, Result}
use Rattle.refusals.specs.Buffers.{afterwards}
use Rattle.refusals.specs.Sent.{said, says}
use Rattle.refusals.specs.declared.Refused.{Refused}
use Rattle.requests.specs.Line.{line}
use Rattle.outputs.specs.Output.{judged, file_in, rows_in}

pub record Filed (input : List ℕ) (rows_before rows_after : List ℤ) (before after : List ℕ) (r : Result ℕ Refused) : Type 0 where
  pub answer : said r ≡ says (judged (length input) (line.parse input)) (length (file_in (line.parse input)))
  pub rows : rows_after ≡ afterwards (judged (length input) (line.parse input)) (rows_in (line.parse input)) rows_before
  pub file : after ≡ afterwards (judged (length input) (line.parse input)) (file_in (line.parse input)) before
