-- What is told of a file that was read.
use Rattle.std.specs.Prelude.{◌≡◌, ℕ, ◌+◌, ◌*◌, ◌≤◌, length, Option, Some, None}
use mathlib.Core.List.{List}
use Rattle.formats.specs.Format.{Res, got, bad}
use Rattle.refusals.specs.Buffers.{over}
use Rattle.kinds.specs.declared.Kind.{Kind}
use Rattle.message.specs.declared.FileFacts.{FileFacts}
use Rattle.message.specs.Contents.{File}
use Rattle.message.specs.Rows.{Row, numbers, Message}
use Rattle.message.specs.Calls.{id_place, moment_place, facts_of}
use Rattle.reader.specs.PartnersInner.{rows_of_partners, month_behind}

-- all but its rows: kind and receiver, its month, and where its ID starts, how long that is, and where its moment starts
abbrev pub Kept : Type 0
Kept = (Kind × ℕ) × ((ℕ × ℕ) × (ℕ × (ℕ × ℕ)))

abbrev pub kept_of_file : ℕ → File → Kept
kept_of_file at f = ((f.kind, f.receiver), (month_behind f.partners, (at + id_place f.kind, (length f.id, at + moment_place f.kind f.id))))

abbrev pub file_told : FileFacts → Kept
file_told f = ((f.kind, f.receiver), ((f.year, f.month), (f.id, (f.id_length, f.moment))))

abbrev pub rows_of_file : File → List Row
rows_of_file f = rows_of_partners f.partners

-- what a reading of all of a file says
abbrev pub facts_in : Res Message → Option FileFacts
facts_in (got m rest) = Some (facts_of m)
facts_in bad = None

-- the rows of what was read, where they have room
abbrev pub RowsRead : Res Message → List ℕ → List ℕ → Type 0
RowsRead (got m rest) before after = 6 * length m.rows ≤ length before → after ≡ over (numbers m.rows) before
RowsRead bad before after = length after ≡ length before
