-- What the program prints for its input (document 01, "The file").
use Rattle.std.specs.Prelude.{◌≡◌, List, ◌++◌, ℕ, leb, ℤ, length, take}
use Rattle.std.proofs.Math.Option.{Option, none, some}
use Rattle.text.specs.Ascii.{bytes}
use Rattle.text.specs.Decimal.{plain}
use Rattle.formats.specs.Format.{Res, got, bad}
use Rattle.requests.specs.Line.{Words, line}
use Rattle.refusals.specs.Refusals.{Refusal, refused, unless}
use Rattle.book.specs.Book.{book_of}
use Rattle.volumes.specs.Settlement.{rows}
use Rattle.refusals.specs.Buffers.{over, afterwards}
use Rattle.reports.specs.Calls.{text_of, file_refusal}
use Rattle.kinds.specs.Numbers.{kind_numbered}

-- "at most 65,536 bytes in all"; 02, C-14: "the program's rows buffer has 10,240 numbers"; "its file buffer 65,536 bytes"
abbrev pub input_most : ℕ
input_most = 65536

-- how much of its input the program reads: one byte more than that, so that a longer one is noticed
abbrev pub input_read : ℕ
input_read = 65537

abbrev pub rows_lent : ℕ
rows_lent = 10240

abbrev pub file_lent : ℕ
file_lent = 65536

-- "one line: `refused`, number, item, with single spaces and a line feed"
unfoldable pub refused_line : ℕ → ℕ → List ℕ
refused_line number item = bytes "refused " ++ plain number ++ bytes " " ++ plain item ++ bytes "\n"

-- "It prints the file's bytes alone, or one line"
abbrev pub printed : Option Refusal → List ℕ → List ℕ
printed none file = file
printed (some r) file = refused_line r.number r.item

-- the file that a line asks for, of the book behind it
unfoldable pub file_for : Words → List ℕ → List ℕ
file_for w book = text_of (book_of book) (kind_numbered w.0) w.1.0 w.1.1.0 w.1.1.1

-- "longer input then gives 2 and item 0"; then the file call decides
unfoldable pub refusal_for : ℕ → Words → List ℕ → Option Refusal
refusal_for size w book = unless (leb size input_most) 2 (file_refusal book w.0 w.1.0 w.1.1.0 w.1.1.1 rows_lent file_lent)

-- "A line of another form, or with a malformed field, gives 12 and item 0 before the book is read"
abbrev pub judged : ℕ → Res Words → Option Refusal
judged size bad = refused 12 0
judged size (got w book) = refusal_for size w book

abbrev pub file_in : Res Words → List ℕ
file_in bad = bytes ""
file_in (got w book) = file_for w book

abbrev pub rows_in : Res Words → List ℤ
rows_in bad = rows (book_of (bytes ""))
rows_in (got w book) = rows (book_of book)

-- what the program prints
unfoldable pub output : List ℕ → List ℕ
output input = printed (judged (length input) (line.parse input)) (file_in (line.parse input))

-- for every input, what the program prints for the part that it reads is what it prints for the whole
abbrev pub CutAlike : Type 0
CutAlike = (input : List ℕ) → output (take input_read input) ≡ output input

-- what the program's function leaves: the output in front of its file buffer, and the rows that the file call fills
pub record Printed (input : List ℕ) (rows_before rows_after : List ℤ) (before after : List ℕ) (count : ℕ) : Type 0 where
  pub counted : count ≡ length (output input)
  pub file : after ≡ over (output input) before
  pub rows : rows_after ≡ afterwards (judged (length input) (line.parse input)) (rows_in (line.parse input)) rows_before
