-- What a format says of a reading by it: what was read is valid, and the cursor moved by the length of its bytes.
use Rattle.std.specs.Prelude.{◌≡◌, List, ℕ, ◌+◌, ◌++◌, length, Some}
use Rattle.std.proofs.Common.{ap, length-append, length-drop, arith}
use Rattle.formats.specs.Format.{Format}
use Rattle.formats.specs.FormatLaws.{sound-of}
use Rattle.cursor.specs.declared.Cursor.{Cursor}
use Rattle.cursor.specs.ReadsInner.{Reads}
use Rattle.cursor.proofs.ReadsLaws.{left}

module _ {A : Type 0} (F : Format A) {old new : Cursor} {a : A} where
  pub reads-ok : Reads F.parse old new (Some a) → F.Ok a
  reads-ok h = (sound-of F (left old) a (left new) h.found).1

  pub reads-bytes : Reads F.parse old new (Some a) → left old ≡ F.render a ++ left new
  reads-bytes h = (sound-of F (left old) a (left new) h.found).0

-- a text of which some was passed
pub passed : (old new : Cursor) (b : List ℕ) → new.text.now ≡ old.text.now → left old ≡ b ++ left new → new.at ≡ old.at + length b
passed old new b t e =
    let i = old.inside in
    let j = new.inside in
    omega (arith, ap length e, length-append b (left new), length-drop old.at old.text.now, length-drop new.at new.text.now, ap length t)
