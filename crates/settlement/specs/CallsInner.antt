-- What settling answers before it is made an enum of its own, and the rows afterwards.
use Rattle.std.specs.Prelude.{◌≡◌, List, ℕ, ℤ, length, Result}
use Rattle.refusals.specs.Refusals.{Refusal}
use Rattle.refusals.specs.Sent.{says}
use Rattle.refusals.specs.Buffers.{afterwards}
use Rattle.book.specs.Book.{book_of}
use Rattle.volumes.specs.Settlement.{rows, row_count, settling_refusal}

-- an answer of a count or a refusal, and the rows afterwards
pub record RowsSent (bytes : List ℕ) (before after : List ℤ) (answer : Result ℕ Refusal) : Type 0 where
  pub answer_is : answer ≡ says (settling_refusal bytes (length before)) (row_count (book_of bytes))
  pub rows_are : after ≡ afterwards (settling_refusal bytes (length before)) (rows (book_of bytes)) before
