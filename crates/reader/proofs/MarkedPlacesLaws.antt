-- Laws about a reading of a file that keeps marks: ID and moment stand behind the tags before them.
-- They stand for whoever reads so; the reader itself goes by `Reads` (PlacesLaws); MarkedFilledLaws leads from what its contracts say to these.
use Rattle.std.specs.Prelude.{◌≡◌, refl, List, [], ◌∷◌, ◌++◌, ℕ, ◌+◌, length, take, Option, Some, None}
use Rattle.std.proofs.Common.{sym, ap, ◌∙◌, length-append, arith}
use Rattle.formats.specs.Format.{Res, Format}
use Rattle.formats.specs.FormatLaws.{got-bad}
use Rattle.formats.specs.Combine.{strip, map_parse}
use Rattle.formats.specs.Exactly.{exactly_parse, fixed_digits}
use Rattle.formats.specs.Name.{name_byte, span, name_parse, name}
use Rattle.formats.proofs.MarksLaws.{Within, Parsed, left}
use Rattle.formats.proofs.MarksLaws.{no-at, same_at}
use Rattle.kinds.specs.declared.Kind.{Kind}
use Rattle.message.specs.Bytes.{opening, ending, closing, root, counter}
use Rattle.message.specs.Valid.{is_moment}
use Rattle.message.proofs.ObservationForm.{plain_number}
use Rattle.message.proofs.FileForm.{kind_form, partners_form}
use Rattle.series_reader.proofs.MarkedReadingInner.{folded}
use Rattle.series_reader.proofs.MarkedItemsLaws.{read-long}
use Rattle.reader.proofs.MarkedPartnerLaws.{tag_form}
use Rattle.reader.proofs.MarkedPartnersInner.{adding}
use Rattle.series_reader.proofs.MarkedFillingLaws.{began}
use Rattle.reader.proofs.MarkedFileInner.{id_start, PlacedMarks}

-- what ends somewhere began somewhere
there : {A : Type 0} {f : List ℕ → Res A} {s : List ℕ} {m r : Option ℕ} {v : A} → Parsed f s m r v → (q : ℕ) × (r ≡ Some q) → (p : ℕ) × (m ≡ Some p)
there {A} {f} {s} {m} {r} {v} h e = let z = began f s m r v e.0 h e.1 in (z.0, z.1.0)

-- and as many bytes before as were read
back : {A : Type 0} (F : Format A) (s : List ℕ) (m r : Option ℕ) (v : A) (q : ℕ) → Within s m → Parsed F.parse s m r v → r ≡ Some q → (p : ℕ) × ((m ≡ Some p) × (p + length (F.render v) ≡ q))
back F s m None v q w h e = absurd (no-at q e)
back F s None (Some n) v q w h e = absurd (got-bad (sym h.run.run))
back F s (Some p) (Some n) v q w h e = (p, (refl, read-long F s p n v w h.within h.run.run ∙ same_at e))

kind-bytes : (k : Kind) → kind_form.render k ≡ opening (root k)
unfolding kind_form
kind-bytes k = refl

-- the parts of a file, read one behind the other
pub record Steps (s : List ℕ) (a b c d e f g h i j l o : Option ℕ) (k : Kind) (company n : ℕ) (t : (ℕ × ℕ) × ℕ) : Type 0 where
  pub kind : Parsed kind_form.parse s (Some 0) a k
  pub before_id : Parsed (strip (opening "TransactionID")) s a b tt
  pub id : Parsed (name_parse name_byte 1 36 60) s b c (span name_byte (left s b))
  pub before_moment : Parsed (strip (ending "TransactionID" ++ opening "MessageCreateDateTime")) s c d tt
  pub moment : Parsed (exactly_parse 29 is_moment) s d e (take 29 (left s d))
  pub before_receiver : Parsed (strip (closing "MessageCreateDateTime" ++ opening "ReceiverID")) s e f tt
  pub receiver : Parsed (fixed_digits 10).parse s f g company
  pub before_count : Parsed (strip (closing "ReceiverID" ++ opening (counter k))) s g h tt
  pub count : Parsed plain_number.parse s h i n
  pub behind_count : Parsed (strip (ending (counter k))) s i j tt
  pub partners : Parsed (map_parse (folded adding ((0, 0), 0)) (partners_form k n).parse) s j l t
  pub end : Parsed (strip (closing (root k))) s l o tt

pub placed : {s : List ℕ} {a b c d e f g h i j l o : Option ℕ} {k : Kind} {receiver n : ℕ} {t : (ℕ × ℕ) × ℕ} → Steps s a b c d e f g h i j l o k receiver n t
    → (q : ℕ) → o ≡ Some q → PlacedMarks k (span name_byte (left s b)) b c d
placed {s} {a} {b} {c} {d} {k = k} p q z =
    let id = span name_byte (left s b) in
    let tags = ending "TransactionID" ++ opening "MessageCreateDateTime" in
    let at = there p.moment (there p.before_receiver (there p.receiver (there p.before_count (there p.count (there p.behind_count (there p.partners (there p.end (q, z)))))))) in
    let x = back (tag_form tags) s c d tt at.0 p.id.within p.before_moment at.1 in
    let y = back (name name_byte 1 36 60 refl) s b c id x.0 p.before_id.within p.id x.1.0 in
    let w = back (tag_form (opening "TransactionID")) s a b tt y.0 p.kind.within p.before_id y.1.0 in
    let v = back kind_form s (Some 0) a k w.0 (omega arith) p.kind w.1.0 in
    let zero = same_at v.1.0 in
    let start : y.0 ≡ id_start k = omega (arith, zero, v.1.1, w.1.1, ap length (kind-bytes k), length-append (opening (root k)) (opening "TransactionID")) in
    let end : x.0 ≡ id_start k + length id + 1 = omega (arith, start, y.1.1, length-append id (60 ∷ [])) in
    record { start = y.1.0 ∙ ap Some start; end = x.1.0 ∙ ap Some end; moment = at.1 ∙ ap Some (omega (arith, end, x.1.1)) }
