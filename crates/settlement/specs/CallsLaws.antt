-- A settling call is one of three: refused as the book is, refused for want of room, or filled.
use Rattle.std.specs.Prelude.{◌≡◌, refl, List, ℕ, ◌*◌, ◌≤◌, ◌<◌, ℤ, length, Result, Ok, Err}
use Rattle.std.proofs.Common.{sym, ap, ◌∙◌, arith}
use Rattle.std.proofs.Math.Option.{Option, none, some}
use Rattle.std.proofs.lemmas.List.Edits.{sets}
use borrow.Author.Tests.{lt-leb}
use Rattle.refusals.specs.declared.Refused as code
use Rattle.refusals.specs.Refusals.{Refusal, or_else}
use Rattle.refusals.specs.Sent.{said, says}
use Rattle.refusals.specs.Buffers.{afterwards}
use Rattle.refusals.specs.BuffersLaws.{sets_over}
use Rattle.book.specs.Book.{book_of}
use Rattle.volumes.specs.Settlement.{row_width, rows, row_count, book_refusal, settling_refusal}
use Rattle.volumes.proofs.SettlementLaws.{rows-length, settling-long}
use Rattle.settlement.specs.declared.settle.Settled.{Settled}
use Rattle.settlement.specs.declared.settle.Settled.TheVariants.{Rows, Refused}
use Rattle.settlement.specs.Calls.{settle_says, settle_answer, settled_by, SettleCalled}
use Rattle.settlement.specs.CallsInner.{RowsSent}

module _ (bytes : List ℕ) (lent : List ℤ) where
  refused_as : (r : Refusal) → some r ≡ settling_refusal bytes (length lent) → RowsSent bytes lent lent (Err r)
  unfolding afterwards
  refused_as r h = record { answer_is = rw (← h); rows_are = rw (← h) }

  pub sent-refused : (r : Refusal) → some r ≡ book_refusal bytes → RowsSent bytes lent lent (Err r)
  unfolding settling_refusal or_else
  sent-refused r h = refused_as r (rw (← h))

  pub sent-short : book_refusal bytes ≡ none → length lent < row_width * row_count (book_of bytes) → RowsSent bytes lent lent (Err (record { number = 10; item = 0 }))
  unfolding settling_refusal or_else
  sent-short h k = refused_as (record { number = 10; item = 0 }) (rw (h, lt-leb (row_width * row_count (book_of bytes)) (length lent) k))

  pub sent-filled : (count : ℕ) (left : List ℤ) → book_refusal bytes ≡ none → row_width * row_count (book_of bytes) ≤ length lent → count ≡ row_count (book_of bytes) → left ≡ sets lent 0 (rows (book_of bytes)) → RowsSent bytes lent left (Ok count)
  unfolding afterwards
  sent-filled count left h k n f =
      let none_is : settling_refusal bytes (length lent) ≡ none = settling-long bytes (length lent) k ∙ h in
      record { answer_is = rw (none_is, n); rows_are = rw none_is (f ∙ sets_over (rows (book_of bytes)) lent (omega (arith, rows-length (book_of bytes)))) }

-- in document 01's form
form : Result ℕ Refusal → Settled
form (Ok count) = Rows count
form (Err r) = Refused r.number r.item

form-says : (x : Option Refusal) (n : ℕ) → form (says x n) ≡ settle_says x n
unfolding settle_says form
form-says none n = refl
form-says (some r) n = refl

form-said : (r : Result ℕ code.Refused) → form (said r) ≡ settled_by r
unfolding form
form-said (Ok n) = refl
form-said (Err e) = refl

pub called : (bytes : List ℕ) (before after : List ℤ) (r : Result ℕ code.Refused) {s : Settled} → RowsSent bytes before after (said r) → s ≡ settled_by r → SettleCalled bytes before after s
unfolding settle_answer
called bytes before after r h e =
    record { answer = e ∙ sym (form-said r) ∙ ap form h.answer_is ∙ form-says (settling_refusal bytes (length before)) (row_count (book_of bytes)); rows = h.rows_are }
