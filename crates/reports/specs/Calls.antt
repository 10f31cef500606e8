-- The sheet call and the file call: their answers, and every buffer afterwards (document 01, "What is sent back").
use Rattle.std.specs.Prelude.{◌≡◌, ◌&&◌, List, [], ℕ, ◌*◌, ℤ, length, Result}
use Rattle.std.proofs.Math.Option.{Option, none, some}
use Rattle.moments.specs.Ids.{is_transaction_id}
use Rattle.book.specs.Book.{Book, book_of}
use Rattle.refusals.specs.Refusals.{Refusal, refused, unless, or_else, short}
use Rattle.refusals.specs.Sent.{says}
use Rattle.refusals.specs.Buffers.{afterwards}
use Rattle.volumes.specs.Settlement.{row_width, rows, row_count, book_refusal}
use Rattle.volumes.specs.Sheets.{parties, sheet}
use Rattle.volumes.specs.Series.{Kind}
use Rattle.message.specs.Valid.{is_moment}
use Rattle.kinds.specs.Numbers.{kind_numbered}
unfoldable pub use Rattle.integers.specs.Counts.{stands}
use Rattle.reports.specs.FileRows.{file_text}
use Rattle.reports.specs.Roles.{receivers}
use Rattle.quarters.specs.Quarters.{month_quarters}

-- ---- a party's sheet

-- "a sheet's party in neither column", then "sheet (0) .. buffer shorter than the answer"
unfoldable pub sheet_refusal : List ℕ → ℕ → ℕ → Option Refusal
sheet_refusal bytes party lent =
    or_else (book_refusal bytes)
    (unless (stands party (parties (book_of bytes))) 11
    (short 0 (month_quarters (book_of bytes).calendar) lent))

-- how many sums, or the refusal
unfoldable pub sheet_answer : List ℕ → ℕ → ℕ → Result ℕ Refusal
sheet_answer bytes party lent = says (sheet_refusal bytes party lent) (month_quarters (book_of bytes).calendar)

-- "its call fills the sheet alone": its answer as it is sent back, and the sums before it and after it
pub record SheetCalled (bytes : List ℕ) (party : ℕ) (before after : List ℤ) (r : Result ℕ Refusal) : Type 0 where
  pub answer : r ≡ sheet_answer bytes party (length before)
  pub sums : after ≡ afterwards (sheet_refusal bytes party (length before)) (sheet (book_of bytes) party) before

-- ---- a receiver's file

-- the bytes of the file that is asked for; there is none of another kind
unfoldable pub text_of : Book → Option Kind → ℕ → List ℕ → List ℕ → List ℕ
text_of book none receiver id moment = []
text_of book (some kind) receiver id moment = file_text book kind receiver id moment

-- "Of two short buffers item 0 is named.": the rows, then the file
unfoldable pub short_refusal : ℕ → ℕ → ℕ → ℕ → Option Refusal
short_refusal row_numbers rows_lent file_length file_lent = or_else (short 0 row_numbers rows_lent) (short 1 file_length file_lent)

-- "12 for the kind, 11, 12 for ID or moment, 10"
unfoldable pub asked_refusal : Book → Option Kind → ℕ → List ℕ → List ℕ → ℕ → ℕ → Option Refusal
asked_refusal book none receiver id moment rows_lent file_lent = refused 12 0
asked_refusal book (some kind) receiver id moment rows_lent file_lent =
    unless (stands receiver (receivers book kind)) 11
    (unless (is_transaction_id id && is_moment moment) 12
    (short_refusal (row_width * row_count book) rows_lent (length (file_text book kind receiver id moment)) file_lent))

unfoldable pub file_refusal : List ℕ → ℕ → ℕ → List ℕ → List ℕ → ℕ → ℕ → Option Refusal
file_refusal bytes kind receiver id moment rows_lent file_lent =
    or_else (book_refusal bytes) (asked_refusal (book_of bytes) (kind_numbered kind) receiver id moment rows_lent file_lent)

-- how many settlement rows and bytes, or the refusal
unfoldable pub file_answer : List ℕ → ℕ → ℕ → List ℕ → List ℕ → ℕ → ℕ → Result (ℕ × ℕ) Refusal
file_answer bytes kind receiver id moment rows_lent file_lent =
    says (file_refusal bytes kind receiver id moment rows_lent file_lent) (row_count (book_of bytes), length (text_of (book_of bytes) (kind_numbered kind) receiver id moment))

-- "File calls take the book and fill the rows too."
pub record FileCalled (bytes : List ℕ) (kind receiver : ℕ) (id moment : List ℕ) (rows_before rows_after : List ℤ) (before after : List ℕ) (r : Result (ℕ × ℕ) Refusal) : Type 0 where
  pub answer : r ≡ file_answer bytes kind receiver id moment (length rows_before) (length before)
  pub rows : rows_after ≡ afterwards (file_refusal bytes kind receiver id moment (length rows_before) (length before)) (rows (book_of bytes)) rows_before
  pub file : after ≡ afterwards (file_refusal bytes kind receiver id moment (length rows_before) (length before)) (text_of (book_of bytes) (kind_numbered kind) receiver id moment) before
