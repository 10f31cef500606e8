-- A settling call is one of three, as it is answered: refused as the book is, refused for want of room, or filled.
use Rattle.std.specs.Prelude.{◌≡◌, List, ℕ, ◌*◌, ◌≤◌, ◌<◌, ℤ, length}
use Rattle.std.proofs.Common.{◌∙◌, arith}
use Rattle.std.proofs.Math.Option.{none, some}
use Rattle.std.proofs.lemmas.List.Edits.{sets}
use borrow.Author.Tests.{lt-leb}
use Rattle.refusals.specs.Refusals.{Refusal, or_else}
use Rattle.refusals.specs.Buffers.{afterwards}
use Rattle.refusals.specs.BuffersLaws.{sets_over}
use Rattle.book.specs.Book.{book_of}
use Rattle.volumes.specs.Settlement.{row_width, rows, row_count, book_refusal, settling_refusal}
use Rattle.volumes.proofs.SettlementLaws.{rows-length, settling-long}
use Rattle.settlement.specs.declared.settle.Settled.TheVariants.{Rows, Refused}
use Rattle.settlement.specs.Calls.{settle_says, settle_answer, SettleCalled}

module _ (bytes : List ℕ) (lent : List ℤ) where
  refused_as : (r : Refusal) → some r ≡ settling_refusal bytes (length lent) → SettleCalled bytes lent lent (Refused r.number r.item)
  unfolding settle_answer settle_says afterwards
  refused_as r h = record { answer = rw (← h); rows = rw (← h) }

  pub call-refused : (r : Refusal) → some r ≡ book_refusal bytes → SettleCalled bytes lent lent (Refused r.number r.item)
  unfolding settling_refusal or_else
  call-refused r h = refused_as r (rw (← h))

  pub call-short : book_refusal bytes ≡ none → length lent < row_width * row_count (book_of bytes) → SettleCalled bytes lent lent (Refused 10 0)
  unfolding settling_refusal or_else
  call-short h k = refused_as (record { number = 10; item = 0 }) (rw (h, lt-leb (row_width * row_count (book_of bytes)) (length lent) k))

  pub call-filled : (count : ℕ) (left : List ℤ) → book_refusal bytes ≡ none → row_width * row_count (book_of bytes) ≤ length lent → count ≡ row_count (book_of bytes) → left ≡ sets lent 0 (rows (book_of bytes)) → SettleCalled bytes lent left (Rows count)
  unfolding settle_answer settle_says afterwards
  call-filled count left h k n f =
      let none_is : settling_refusal bytes (length lent) ≡ none = settling-long bytes (length lent) k ∙ h in
      record { answer = rw (none_is, n); rows = rw none_is (f ∙ sets_over (rows (book_of bytes)) lent (omega (arith, rows-length (book_of bytes)))) }
