-- Laws about a reading of a file that keeps marks: from its parts, with its places, month and rows, to what the call answers, 13, 10 or the file.
-- They stand for whoever reads so; the reader itself goes by FactsLaws; MarkedFilledLaws leads from what its contracts say to these.
use Rattle.std.specs.Prelude.{◌≡◌, refl, ℕ, suc, ◌+◌, ◌*◌, ◌≤◌, ◌<◌, length, drop, get_or, Some, None, Ok, Err}
use Rattle.std.proofs.Math.Path.{sym, ap}
use Rattle.std.proofs.Common.{◌∙◌, length-append, drop_of_length-le, drop-cons, arith}
use mathlib.Core.List.{List, [], ◌∷◌, ◌++◌}
use Rattle.formats.specs.Format.{Res, got, bad, read_all}
use Rattle.formats.specs.FormatLaws.{got-bad, sound-of}
use Rattle.formats.specs.Combine.{map_parse}
use Rattle.formats.proofs.MarksLaws.{Parsed}
use Rattle.kinds.specs.declared.Kind.{Kind}
use Rattle.refusals.specs.declared.Refused.TheVariants.{Short, NoFile}
use Rattle.refusals.specs.Sent.{said}
use Rattle.message.specs.declared.FileFacts.{FileFacts}
use Rattle.message.specs.Contents.{Partner}
use Rattle.message.specs.Bytes.{opening, ending, closing, root}
use Rattle.message.specs.Valid.{IsFile}
use Rattle.message.specs.Reading.{Parts, file_of}
use Rattle.message.proofs.FileForm.{file_body, file}
use Rattle.message.proofs.MessageForm.{message_form}
use Rattle.message.proofs.ReadingLaws.{read-message}
use Rattle.message.specs.Rows.{rows_of, Message, message}
use Rattle.message.specs.Messages.{read_message}
use Rattle.message.specs.Calls.{id_place, moment_place, facts_of, read_answer}
use Rattle.message.proofs.CallsLaws.{says-no-file, says-short, says-file}
use Rattle.series_reader.proofs.MarkedReadingInner.{folded}
use Rattle.reader.proofs.MarkedPartnersInner.{adding}
use Rattle.reader.proofs.MarkedFileLaws.{partners-rows, partners-month}

-- ---- the parts of a file, and the file by its rows

module _ (s : List ℕ) where
  whole-file : (p : Parts) → file_body.parse s ≡ got p [] → read_message s ≡ got (message (file_of p)) []
  unfolding read_all message_form file map_parse
  whole-file p e = read-message s ∙ rw e

  valid-file : (p : Parts) (r : List ℕ) → file_body.parse s ≡ got p r → IsFile (file_of p)
  unfolding file map_parse
  valid-file p r e = (sound-of file s (file_of p) r (rw e)).1

  no_body : file_body.parse s ≡ bad → read_message s ≡ bad
  unfolding read_all message_form file map_parse
  no_body e = read-message s ∙ rw e

  bytes_left : (p : Parts) (x : ℕ) (r : List ℕ) → file_body.parse s ≡ got p (x ∷ r) → read_message s ≡ bad
  unfolding read_all message_form file map_parse
  bytes_left p x r e = read-message s ∙ rw e

-- ---- 13

module _ (s : List ℕ) (lent : ℕ) (p : Parts) where
  pub judged-none : Parsed file_body.parse s (Some 0) None p → said (Err NoFile) ≡ read_answer s lent
  judged-none h = says-no-file s lent (no_body s h.run.run)

  -- bytes are left behind the file
  pub judged-left : (q : ℕ) → Parsed file_body.parse s (Some 0) (Some q) p → (q ≡ length s → ⊥) → said (Err NoFile) ≡ read_answer s lent
  judged-left q h n =
      let k : q < length s = omega (arith, h.within, n) in
      says-no-file s lent (bytes_left s p (get_or s q 0) (drop (suc q) s) (h.run.run ∙ ap (got p) (drop-cons s q 0 k)))

-- ---- a file

module _ (s : List ℕ) (q : ℕ) (k : Kind) (id moment : List ℕ) (receiver count : ℕ) (partners : List Partner)
    (h : Parsed file_body.parse s (Some 0) (Some q) (k, (id, (moment, (receiver, (count, partners)))))) (all : q ≡ length s) where
  abbrev parts : Parts
  parts = (k, (id, (moment, (receiver, (count, partners)))))

  body-read : file_body.parse s ≡ got parts []
  body-read = h.run.run ∙ ap (got parts) (drop_of_length-le s {i = q} (omega arith))

  abbrev judged_message : Message
  judged_message = message (file_of parts)

  message-read : read_message s ≡ got judged_message []
  message-read = whole-file s parts body-read

  module _ (lent : ℕ) (t : (ℕ × ℕ) × ℕ) (is : folded adding ((0, 0), 0) partners ≡ t) where
    row-count : length (rows_of partners) ≡ t.1
    row-count = omega (arith, partners-rows ((0, 0), 0) partners, ap (λ (x : (ℕ × ℕ) × ℕ). x.1) is)

    pub judged-short : lent < 6 * t.1 → said (Err (Short 0)) ≡ read_answer s lent
    unfolding message file_of
    judged-short l = says-short s lent judged_message [] message-read (omega (arith, row-count))

    judged-facts : (i n p : ℕ) → i ≡ id_place k → n ≡ length id → p ≡ moment_place k id
        → facts_of judged_message ≡ record { kind = k; receiver = receiver; year = t.0.0; month = t.0.1; rows = t.1; id = i; id_length = n; moment = p }
    unfolding facts_of message file_of
    judged-facts i n p a b c =
        let month = sym (partners-month (file_of parts) (valid-file s parts [] body-read)) ∙ ap (λ (x : (ℕ × ℕ) × ℕ). x.0) is in
        λ j. record {
          kind = k;
          receiver = receiver;
          year = (month j).0;
          month = (month j).1;
          rows = row-count j;
          id = sym a j;
          id_length = sym b j;
          moment = sym c j;
        }

    pub judged-file : (i n p : ℕ) → i ≡ id_place k → n ≡ length id → p ≡ moment_place k id → 6 * t.1 ≤ lent
        → said (Ok (record { kind = k; receiver = receiver; year = t.0.0; month = t.0.1; rows = t.1; id = i; id_length = n; moment = p })) ≡ read_answer s lent
    unfolding message file_of
    judged-file i n p a b c l = sym (ap (λ (f : FileFacts). said (Ok f)) (judged-facts i n p a b c)) ∙ says-file s lent judged_message [] message-read (omega (arith, row-count))

-- ---- the rows of what was judged a file

-- the parts behind a file's reading
pub record PartsRead (s : List ℕ) (m : Message) : Type 0 where
  pub parts : Parts
  pub rest : List ℕ
  pub parsed : file_body.parse s ≡ got parts rest
  pub rows : rows_of parts.1.1.1.1.1 ≡ m.rows

same_rows : (p : Parts) (m : Message) (a b : List ℕ) → got (message (file_of p)) a ≡ got m b → rows_of p.1.1.1.1.1 ≡ m.rows
unfolding message file_of
same_rows p m a b e = let f : message (file_of p) ≡ m = cc in ap (λ (x : Message). x.rows) f

pub parts-read : (s : List ℕ) (m : Message) (r : List ℕ) → read_message s ≡ got m r → PartsRead s m
parts-read s m r e = go (file_body.parse s) refl
  where
    go : (x : Res Parts) → file_body.parse s ≡ x → PartsRead s m
    go bad f = absurd (got-bad (sym e ∙ no_body s f))
    go (got p []) f = record { parts = p; rest = []; parsed = f; rows = same_rows p m [] r (sym (whole-file s p f) ∙ e) }
    go (got p (x ∷ l)) f = absurd (got-bad (sym e ∙ bytes_left s p x l f))

-- ---- the places, one from the other

pub id-place : (k : Kind) → length (opening (root k) ++ opening "TransactionID") ≡ id_place k
unfolding id_place
id-place k = refl

pub moment-place : (k : Kind) (id : List ℕ) → id_place k + length id + 1 + length (ending "TransactionID" ++ opening "MessageCreateDateTime") ≡ moment_place k id
unfolding id_place moment_place closing
moment-place k id =
    omega (
      arith,
      length-append (opening (root k)) (opening "TransactionID"),
      length-append (ending "TransactionID") (opening "MessageCreateDateTime"),
      length-append (opening (root k) ++ (opening "TransactionID" ++ id ++ (60 ∷ ending "TransactionID"))) (opening "MessageCreateDateTime"),
      length-append (opening (root k)) (opening "TransactionID" ++ id ++ (60 ∷ ending "TransactionID")),
      length-append (opening "TransactionID" ++ id) (60 ∷ ending "TransactionID"),
      length-append (opening "TransactionID") id,
    )
