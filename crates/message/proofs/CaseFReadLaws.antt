-- Case F of document 01, read: its kind, receiver, month and two rows, and where its ID and moment stand.
use Rattle.std.specs.Prelude.{◌≡◌, refl, ℕ, ◌≤◌, length, Ok}
use Rattle.std.proofs.Common.{sym, ap, ◌∙◌, arith}
use mathlib.Core.List.{List, [], ◌∷◌, flat_map}
use Rattle.text.specs.Ascii.{bytes}
use Rattle.formats.specs.Format.{got}
use Rattle.kinds.specs.declared.Kind.TheVariants.{Toe01}
use Rattle.message.specs.declared.FileFacts.{FileFacts}
use Rattle.message.specs.Bytes.{opening, ending, closing, root, file_bytes}
use Rattle.message.specs.Valid.{periods, first_of}
use Rattle.message.specs.Group.{spread}
use Rattle.message.specs.Rows.{row_numbers, numbers, rows_of, message, IsMessage}
use Rattle.message.proofs.FileForm.{file}
use Rattle.message.proofs.MessageForm.{message-recast}
use Rattle.message.specs.Messages.{message_bytes, read_message}
use Rattle.message.proofs.FileLaws.{written-is-read}
use Rattle.message.proofs.CaseFLaws.{observations, series, case_f, text, renders, valid}
use Rattle.refusals.specs.Buffers.{over}
use Rattle.message.specs.Calls.{id_place, moment_place, facts_of, ReadCalled}
use Rattle.message.proofs.CallsLaws.{called-file}

abbrev pub facts : FileFacts
facts = record { kind = Toe01; receiver = 7; year = 2021; month = 6; rows = 2; id = 43; id_length = 3; moment = 85 }

abbrev pub row_numbers_f : List ℕ
row_numbers_f = 3 ∷ 0 ∷ 0 ∷ 1 ∷ 2500 ∷ 0 ∷ 3 ∷ 0 ∷ 0 ∷ 2 ∷ 2500 ∷ 0 ∷ []

pub says : facts_of (message case_f) ≡ facts
unfolding facts_of message case_f series observations id_place moment_place periods first_of rows_of spread flat_map opening closing ending root bytes
says = refl

pub filled : numbers (message case_f).rows ≡ row_numbers_f
unfolding numbers row_numbers message case_f series observations rows_of spread flat_map
filled = refl

pub valid-message : IsMessage (message case_f)
unfolding file
valid-message = message-recast.to_ok case_f valid

pub message-bytes : message_bytes (message case_f) ≡ text
unfolding file
message-bytes = ap file_bytes (message-recast.back case_f valid) ∙ renders

reads : read_message text ≡ got (message case_f) []
reads = sym (ap read_message message-bytes) ∙ written-is-read (message case_f) valid-message

count : length (message case_f).rows ≡ 2
unfolding message case_f series observations rows_of spread flat_map
count = refl

-- twelve numbers are enough
pub case-F-read : (lent : List ℕ) → 12 ≤ length lent → ReadCalled text lent (over row_numbers_f lent) (Ok facts)
case-F-read lent h = rw (← says, ← filled) (called-file text lent (message case_f) [] reads (omega (arith, count)))
