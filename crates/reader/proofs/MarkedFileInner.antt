-- Definitions for a reading of a file that keeps marks: its kind, its receiver, where ID and moment stand, its month and its rows.
-- They stand for whoever reads so; the reader itself goes by `Reads` and `Filled`; MarkedFilledLaws leads from what its contracts say to these.
use Rattle.std.specs.Prelude.{◌≡◌, List, ◌++◌, ℕ, ◌+◌, length, take, Option, Some}
use Rattle.formats.specs.Name.{name_byte, span}
use Rattle.formats.proofs.MarksLaws.{Parsed, left}
use Rattle.kinds.specs.declared.Kind.{Kind}
use Rattle.message.specs.Bytes.{opening, ending, root}
use Rattle.message.specs.Contents.{Partner}
use Rattle.message.specs.Rows.{Row, rows_of}
use Rattle.message.specs.Reading.{Parts}
use Rattle.message.proofs.FileForm.{file_body}
use Rattle.series_reader.proofs.MarkedReadingInner.{folded}
use Rattle.reader.proofs.MarkedPartnersInner.{adding}

-- where the ID starts
abbrev pub id_start : Kind → ℕ
id_start k = length (opening (root k) ++ opening "TransactionID")

-- the mark b before the ID, c behind it and the byte that ends it, d before the moment
pub record PlacedMarks (k : Kind) (id : List ℕ) (b c d : Option ℕ) : Type 0 where
  pub start : b ≡ Some (id_start k)
  pub end : c ≡ Some (id_start k + length id + 1)
  pub moment : d ≡ Some (id_start k + length id + 1 + length (ending "TransactionID" ++ opening "MessageCreateDateTime"))

-- a file was read from the first byte to the mark o: of its kind and receiver, its ID from the mark b to c, its moment at d, its partners of the month and rows t
pub record Filed (s : List ℕ) (o : Option ℕ) (k : Kind) (receiver : ℕ) (t : (ℕ × ℕ) × ℕ) (b c d : Option ℕ) : Type 0 where
  pub count : ℕ
  pub partners : List Partner
  pub parsed : Parsed file_body.parse s (Some 0) o (k, (span name_byte (left s b), (take 29 (left s d), (receiver, (count, partners)))))
  pub is : (q : ℕ) → o ≡ Some q → folded adding ((0, 0), 0) partners ≡ t
  pub places : (q : ℕ) → o ≡ Some q → PlacedMarks k (span name_byte (left s b)) b c d

-- the rows of the parts of a file
abbrev pub rows_of_parts : Parts → List Row
rows_of_parts p = rows_of p.1.1.1.1.1
