-- Reading and writing from rows undo each other: said of what the two calls answer and leave in the buffers, of every file and all rows (document 01, "The file").
use Rattle.std.specs.Prelude.{◌≡◌, List, ℕ, ◌*◌, ◌≤◌, length, take, drop, Result, Ok, Err}
use Rattle.message.specs.declared.FileFacts.{FileFacts}
use Rattle.refusals.specs.declared.Refused.{Refused}
use Rattle.refusals.specs.declared.Refused.TheVariants.{NoFile as RefusedNoFile}
use Rattle.kinds.specs.Numbers.{kind_number}
use Rattle.message.specs.Calls.{ReadCalled}
use Rattle.writer.specs.WriteCalls.{WriteCalled}

-- ID and moment, where a reading names them in the file; a moment has 29 bytes
abbrev pub id_in : FileFacts → List ℕ → List ℕ
id_in facts file = take facts.id_length (drop facts.id file)

abbrev pub moment_in : FileFacts → List ℕ → List ℕ
moment_in facts file = take 29 (drop facts.moment file)

-- a reading of the file gives back what it was written from
pub record GivesBack (kind receiver year month : ℕ) (rows id moment file filled : List ℕ) (r : Result FileFacts Refused) : Type 0 where
  pub facts : FileFacts
  pub answer : r ≡ Ok facts
  pub same_kind : kind_number facts.kind ≡ kind
  pub same_receiver : facts.receiver ≡ receiver
  pub same_year : facts.year ≡ year
  pub same_month : facts.month ≡ month
  pub count : 6 * facts.rows ≡ length rows
  pub same_rows : take (6 * facts.rows) filled ≡ rows
  pub same_id : id_in facts file ≡ id
  pub same_moment : moment_in facts file ≡ moment

-- what was written is read: its first n bytes, with as many numbers lent as the rows have
abbrev pub WrittenIsRead : Type 0
WrittenIsRead =
    (kind receiver year month : ℕ) (rows id moment before after : List ℕ) (n : ℕ) → WriteCalled kind receiver year month rows id moment before after (Ok n)
    → (lent filled : List ℕ) (r : Result FileFacts Refused) → ReadCalled (take n after) lent filled r → length rows ≤ length lent
    → GivesBack kind receiver year month rows id moment (take n after) filled r

-- what was read is written again, byte for byte, with as many bytes lent as the file has; a file without series too
abbrev pub ReadIsWritten : Type 0
ReadIsWritten =
    (file lent filled : List ℕ) (facts : FileFacts) → ReadCalled file lent filled (Ok facts)
    → (before after : List ℕ) (r : Result ℕ Refused)
    → WriteCalled (kind_number facts.kind) facts.receiver facts.year facts.month (take (6 * facts.rows) filled) (id_in facts file) (moment_in facts file) before after r
    → length file ≤ length before
    → (r ≡ Ok (length file)) × (take (length file) after ≡ file)

-- "not a file": what reading refuses with 13 is never written
abbrev pub NoFile : Type 0
NoFile =
    (file lent filled : List ℕ) → ReadCalled file lent filled (Err RefusedNoFile)
    → (kind receiver year month : ℕ) (rows id moment before after : List ℕ) (n : ℕ) → WriteCalled kind receiver year month rows id moment before after (Ok n)
    → take n after ≡ file → ⊥

-- "rows, receiver, year or month that no file has give 13": what writing refuses with 13 is never read, whatever the file's own ID and moment
abbrev pub NoRows : Type 0
NoRows =
    (kind receiver year month : ℕ) (rows id moment before after : List ℕ) → WriteCalled kind receiver year month rows id moment before after (Err RefusedNoFile)
    → (file lent filled own_id own_moment : List ℕ) (r : Result FileFacts Refused) → ReadCalled file lent filled r → GivesBack kind receiver year month rows own_id own_moment file filled r → ⊥

pub record RoundTrip : Type 0 where
  pub written : WrittenIsRead
  pub read : ReadIsWritten
  pub no_file : NoFile
  pub no_rows : NoRows
