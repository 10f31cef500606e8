-- The numbers and items that a sheet call and a file call are refused with: a book's own, and 11, 12 and 10 beside them.
use Rattle.std.specs.Prelude.{◌&&◌, List, ℕ, ◌*◌, length}
use Rattle.std.proofs.Math.Option.{Option, none, some}
use Rattle.std.proofs.Common.{arith}
use Rattle.refusals.specs.Refusals.{short}
use Rattle.refusals.specs.RefusalsLaws.{Each, each-unless, each-else}
use Rattle.quarters.specs.Quarters.{month_quarters}
use Rattle.kinds.specs.Numbers.{kind_numbered}
use Rattle.moments.specs.Ids.{is_transaction_id}
use Rattle.book.specs.Book.{Book, book_of}
use Rattle.volumes.specs.Settlement.{row_width, row_count, book_refusal}
use Rattle.volumes.specs.Sheets.{parties}
use Rattle.volumes.specs.Series.{Kind}
use Rattle.volumes.proofs.NumbersLaws.{Listed, listed-zero, listed-short, book-listed}
use Rattle.message.specs.Valid.{is_moment}
use Rattle.reports.specs.FileRows.{file_text}
use Rattle.reports.specs.Roles.{receivers}
use Rattle.reports.specs.Calls.{stands, sheet_refusal, short_refusal, asked_refusal, file_refusal}

pub sheet-listed : (bytes : List ℕ) (party lent : ℕ) → Each Listed (sheet_refusal bytes party lent)
unfolding sheet_refusal
sheet-listed bytes party lent =
    each-else Listed (book_refusal bytes) _ (book-listed bytes) (λ e.
    each-unless Listed (stands party (parties (book_of bytes))) 11 _ (listed-zero 11 (omega arith) (λ z. omega arith)) (λ f.
    listed-short 0 (month_quarters (book_of bytes).calendar) lent (omega arith)))

lent-listed : (row_numbers rows_lent file_length file_lent : ℕ) → Each Listed (short_refusal row_numbers rows_lent file_length file_lent)
unfolding short_refusal
lent-listed row_numbers rows_lent file_length file_lent =
    each-else Listed (short 0 row_numbers rows_lent) (short 1 file_length file_lent) (listed-short 0 row_numbers rows_lent (omega arith)) (λ e. listed-short 1 file_length file_lent (omega arith))

asked-listed : (book : Book) (kind : Option Kind) (receiver : ℕ) (id moment : List ℕ) (rows_lent file_lent : ℕ) → Each Listed (asked_refusal book kind receiver id moment rows_lent file_lent)
unfolding asked_refusal
asked-listed book none receiver id moment rows_lent file_lent = listed-zero 12 (omega arith) (λ z. omega arith)
asked-listed book (some kind) receiver id moment rows_lent file_lent =
    each-unless Listed (stands receiver (receivers book kind)) 11 _ (listed-zero 11 (omega arith) (λ z. omega arith)) (λ e.
    each-unless Listed (is_transaction_id id && is_moment moment) 12 _ (listed-zero 12 (omega arith) (λ z. omega arith)) (λ f.
    lent-listed (row_width * row_count book) rows_lent (length (file_text book kind receiver id moment)) file_lent))

pub file-listed : (bytes : List ℕ) (kind receiver : ℕ) (id moment : List ℕ) (rows_lent file_lent : ℕ) → Each Listed (file_refusal bytes kind receiver id moment rows_lent file_lent)
unfolding file_refusal
file-listed bytes kind receiver id moment rows_lent file_lent =
    each-else Listed (book_refusal bytes) _ (book-listed bytes) (λ e. asked-listed (book_of bytes) (kind_numbered kind) receiver id moment rows_lent file_lent)
