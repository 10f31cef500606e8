-- Where ID and moment stand in a file that was read: behind the tags before them.
use Rattle.std.specs.Prelude.{◌≡◌, refl, ℕ, ◌+◌, Some}
use Rattle.std.proofs.Common.{sym, ap, ◌∙◌, append_assoc, length-append, arith}
use mathlib.Core.List.{List, [], ◌∷◌, ◌++◌}
use Rattle.formats.specs.Combine.{strip, strip-sound}
use Rattle.formats.specs.Format.{Sound}
use Rattle.formats.specs.Name.{name_byte, name_parse, name}
use Rattle.cursor.specs.declared.Cursor.{Cursor}
use Rattle.cursor.specs.ReadsInner.{Reads}
use Rattle.cursor.proofs.ReadsLaws.{left}
use Rattle.cursor.proofs.SoundLaws.{reads-bytes, passed}
use Rattle.kinds.specs.declared.Kind.{Kind}
use Rattle.message.specs.Bytes.{opening, ending, closing, root}
use Rattle.message.specs.Reading.{kind_parse}
use Rattle.message.specs.Calls.{id_place, moment_place}
use Rattle.message.proofs.FileForm.{kind_form}
use Rattle.std.proofs.Math.Path.{subst}

tag-bytes : (t : List ℕ) {c d : Cursor} → Reads (strip t) c d (Some tt) → left c ≡ t ++ left d
tag-bytes t {c} {d} h = (subst (Sound (λ u. Unit {0}) (λ u. t) (left c)) h.found (strip-sound t (left c))).0

root-bytes : (k : Kind) {c d : Cursor} → Reads kind_parse c d (Some k) → left c ≡ opening (root k) ++ left d
unfolding kind_form kind_parse
root-bytes k h = reads-bytes kind_form h

module _ {a b c : Cursor} (k : Kind) (root_read : Reads kind_parse a b (Some k)) (tag : Reads (strip (opening "TransactionID")) b c (Some tt)) where
  start : left a ≡ (opening (root k) ++ opening "TransactionID") ++ left c
  start = root-bytes k root_read ∙ ap (λ (l : List ℕ). opening (root k) ++ l) (tag-bytes (opening "TransactionID") tag) ∙ sym (append_assoc (opening (root k)) (opening "TransactionID") (left c))

  pub id-placed : c.at ≡ a.at + id_place k
  unfolding id_place
  id-placed = passed a c (opening (root k) ++ opening "TransactionID") (tag.text ∙ root_read.text) start

  pub moment-placed : {d e : Cursor} (id : List ℕ) → Reads (name_parse name_byte 1 36 60) c d (Some id) → Reads (strip (ending "TransactionID" ++ opening "MessageCreateDateTime")) d e (Some tt)
      → e.at ≡ a.at + moment_place k id
  unfolding id_place moment_place closing
  moment-placed {d} {e} id n t =
      let i = id-placed in
      let p = passed c d (id ++ (60 ∷ [])) n.text (reads-bytes (name name_byte 1 36 60 refl) n) in
      let q = passed d e (ending "TransactionID" ++ opening "MessageCreateDateTime") t.text (tag-bytes (ending "TransactionID" ++ opening "MessageCreateDateTime") t) in
      omega (
        arith,
        length-append id (60 ∷ []),
        length-append (opening (root k)) (opening "TransactionID"),
        length-append (ending "TransactionID") (opening "MessageCreateDateTime"),
        length-append (opening (root k) ++ (opening "TransactionID" ++ id ++ (60 ∷ ending "TransactionID"))) (opening "MessageCreateDateTime"),
        length-append (opening (root k)) (opening "TransactionID" ++ id ++ (60 ∷ ending "TransactionID")),
        length-append (opening "TransactionID" ++ id) (60 ∷ ending "TransactionID"),
        length-append (opening "TransactionID") id,
      )
