-- A file call that is not refused answers no more rows and bytes than it was lent.
use Rattle.std.specs.Prelude.{◌≡◌, ◌&&◌, List, ℕ, ◌*◌, ◌≤◌, ℤ, length, Result, Ok, IfOk}
use Rattle.std.proofs.Common.{subst, arith}
use Rattle.std.proofs.Math.Option.{Option, none, some}
use Rattle.moments.specs.Ids.{is_transaction_id}
use Rattle.refusals.specs.Refusals.{unless, or_else, short}
use Rattle.refusals.specs.RefusalsLaws.{never, not-refused, not_first, not-later, not_short}
use Rattle.refusals.specs.Sent.{said}
use Rattle.refusals.specs.declared.Refused.{Refused}
use Rattle.refusals.proofs.SentLaws.{if-ok}
use Rattle.book.specs.Book.{Book, book_of}
use Rattle.volumes.specs.Settlement.{row_width, row_count, book_refusal}
use Rattle.volumes.specs.Series.{Kind}
use Rattle.message.specs.Valid.{is_moment}
use Rattle.reports.specs.FileRows.{file_text}
use Rattle.reports.specs.Roles.{receivers}
use Rattle.reports.specs.Calls.{stands, text_of, short_refusal, asked_refusal, file_refusal, file_answer, FileCalled}
use Rattle.kinds.specs.Numbers.{kind_numbered}

-- so many numbers and bytes have room
record Room (book : Book) (text : List ℕ) (numbers bytes : ℕ) : Type 0 where
  pub rows : row_width * row_count book ≤ numbers
  pub file : length text ≤ bytes

-- refusal 10 is where the rows or the file are too short, so without a refusal both are long enough
asked-room : (book : Book) (kind : Option Kind) (receiver : ℕ) (id moment : List ℕ) (numbers bytes : ℕ) → asked_refusal book kind receiver id moment numbers bytes ≡ none → Room book (text_of book kind receiver id moment) numbers bytes
unfolding asked_refusal short_refusal text_of
asked-room book none receiver id moment numbers bytes h = absurd (never 12 h)
asked-room book (some kind) receiver id moment numbers bytes h =
    let n = row_width * row_count book in
    let text = file_text book kind receiver id moment in
    let first = short 0 n numbers in
    let later = short 1 (length text) bytes in
    let f = is_transaction_id id && is_moment moment in
    let named = (not-refused (stands receiver (receivers book kind)) 11 (unless f 12 (or_else first later)) h).1 in
    let long = (not-refused f 12 (or_else first later) named).1 in
    record { rows = not_short 0 n numbers (not_first first later long); file = not_short 1 (length text) bytes (not-later first later long) }

room : (bytes : List ℕ) (kind receiver : ℕ) (id moment : List ℕ) (numbers size : ℕ) → file_refusal bytes kind receiver id moment numbers size ≡ none → Room (book_of bytes) (text_of (book_of bytes) (kind_numbered kind) receiver id moment) numbers size
unfolding file_refusal
room bytes kind receiver id moment numbers size h = asked-room (book_of bytes) (kind_numbered kind) receiver id moment numbers size (not-later (book_refusal bytes) _ h)

pub fits : (bytes : List ℕ) (kind receiver : ℕ) (id moment : List ℕ) (lent rows_after : List ℤ) (before after : List ℕ) (answer : Result (ℕ × ℕ) Refused) (numbers size : ℕ)
    → FileCalled bytes kind receiver id moment lent rows_after before after (said answer) → length lent ≤ numbers → length before ≤ size
    → IfOk answer (λ said. (row_width * said.0 ≤ numbers) × (said.1 ≤ size))
unfolding file_answer
fits bytes kind receiver id moment lent rows_after before after answer numbers size call h k =
    let text = text_of (book_of bytes) (kind_numbered kind) receiver id moment in
    if-ok answer (file_refusal bytes kind receiver id moment (length lent) (length before)) (row_count (book_of bytes), length text) (λ said. (row_width * said.0 ≤ numbers) × (said.1 ≤ size)) call.answer
    (λ e. let fit = room bytes kind receiver id moment (length lent) (length before) e in (omega (arith, fit.rows), omega (arith, fit.file)))

pub file-fits : (answer : Result (ℕ × ℕ) Refused) (count n numbers size : ℕ) → answer ≡ Ok (count, n) → IfOk answer (λ said. (row_width * said.0 ≤ numbers) × (said.1 ≤ size)) → (row_width * count ≤ numbers) × (n ≤ size)
file-fits answer count n numbers size e f = subst (λ (w : Result (ℕ × ℕ) Refused). IfOk w (λ said. (row_width * said.0 ≤ numbers) × (said.1 ≤ size))) e f
