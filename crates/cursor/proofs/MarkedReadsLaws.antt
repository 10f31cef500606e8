-- A reading by a cursor (`Reads`) is a reading from mark to mark (`Parsed`): where the form isn't there, the mark behind it is none.
-- It stands for whoever reads with marks; the reader itself goes by `Reads`, and nothing above needs it.
use Rattle.std.specs.Prelude.{List, ℕ, Option, Some, None}
use Rattle.formats.specs.Format.{Res}
use Rattle.formats.proofs.MarksLaws.{Parsed, parsed, not_there}
use Rattle.cursor.specs.declared.Cursor.{Cursor}
use Rattle.cursor.specs.ReadsInner.{Reads}

-- the mark behind what was read
abbrev pub mark_behind : {A : Type 0} → Cursor → Option A → Option ℕ
mark_behind c (Some a) = Some c.at
mark_behind c None = None

-- what was read, or another where nothing was
abbrev pub read_or : {A : Type 0} → A → Option A → A
read_or other (Some a) = a
read_or other None = other

pub reads-parsed : {A : Type 0} {f : List ℕ → Res A} {old new : Cursor} {r : Option A} (other : A) → Reads f old new r → Parsed f old.text.now (Some old.at) (mark_behind new r) (read_or other r)
reads-parsed {f = f} {old = old} {new = new} {r = Some a} other h = parsed f old.text.now old.at a new.at (rw h.text at h.found) (rw h.text at new.inside)
reads-parsed {f = f} {old = old} {r = None} other h = not_there f old.text.now old.at other h.found
