-- A book's own refusal comes before those of its engagements.
use Rattle.std.specs.Prelude.{◌≡◌, List, ℕ}
use Rattle.std.proofs.Math.Option.{none, some}
use Rattle.refusals.specs.Refusals.{Refusal, or_else}
use Rattle.book.specs.Judged.{refusal_of}
use Rattle.book.specs.Book.{book_of}
use Rattle.volumes.specs.Settlement.{settlement_refusal, book_refusal}

pub book-refused : (bytes : List ℕ) (r : Refusal) → some r ≡ refusal_of bytes → some r ≡ book_refusal bytes
unfolding book_refusal or_else
book-refused bytes r h = rw (← h)

pub book-passed : (bytes : List ℕ) → refusal_of bytes ≡ none → settlement_refusal (book_of bytes) ≡ book_refusal bytes
unfolding book_refusal or_else
book-passed bytes h = rw h
