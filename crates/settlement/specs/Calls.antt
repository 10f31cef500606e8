-- The settling call: its answer, and the rows afterwards (document 01, "What is sent back").
use Rattle.std.specs.Prelude.{◌≡◌, List, ℕ, ℤ, length, Result, Ok, Err}
use Rattle.std.proofs.Math.Option.{Option, none, some}
use Rattle.refusals.specs.Refusals.{Refusal}
use Rattle.refusals.specs.declared.Refused as declared
use Rattle.refusals.specs.Sent.{sent_back}
use Rattle.refusals.specs.Buffers.{afterwards}
use Rattle.book.specs.Book.{book_of}
use Rattle.volumes.specs.Settlement.{rows, row_count, settling_refusal}
use Rattle.settlement.specs.declared.settle.Settled.{Settled}
use Rattle.settlement.specs.declared.settle.Settled.TheVariants.{Rows, Refused}

-- "A settling call answers either the number of rows or a refusal with its item."
unfoldable pub settle_says : Option Refusal → ℕ → Settled
settle_says none count = Rows count
settle_says (some r) count = Refused r.number r.item

unfoldable pub settle_answer : List ℕ → ℕ → Settled
settle_answer bytes lent = settle_says (settling_refusal bytes lent) (row_count (book_of bytes))

-- a settling of this book, with the rows before it and after it
pub record SettleCalled (bytes : List ℕ) (before after : List ℤ) (r : Settled) : Type 0 where
  pub answer : r ≡ settle_answer bytes (length before)
  pub rows : after ≡ afterwards (settling_refusal bytes (length before)) (rows (book_of bytes)) before

-- such an answer of a count or an error
abbrev pub settled_by : Result ℕ declared.Refused → Settled
settled_by (Ok count) = Rows count
settled_by (Err e) = Refused (sent_back e).number (sent_back e).item
