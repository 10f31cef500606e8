-- What a reading's answer shows, what each answer needs, and that ID and moment stand at the places that are named.
use Rattle.std.proofs.Math.Path.{◌≡◌, refl, ap}
use Rattle.std.proofs.Common.{sym, ◌∙◌, zero-add}
use Rattle.std.specs.Prelude.{Bool, cond, ℕ, ◌*◌, ◌≤◌, ◌<◌, leb, drop, Result, Ok, Err}
use Rattle.std.proofs.Math.Bool.{true, false}
use mathlib.Core.List.{List, ◌++◌, append_assoc, flat_map}
use Rattle.std.proofs.Math.Option.{Option, none, some}
use Rattle.std.proofs.Math.ListN.{length, take}
use Rattle.std.proofs.Math.Seq.{take-append_seam, drop-append_seam}
use native.Mathlib.Omega.{arith}
use borrow.Author.Tests.{leb-true, le-leb, lt-leb}
use Rattle.text.specs.Decimal.{fixed, plain}
use Rattle.text.specs.WrittenInner.{written}
use Rattle.formats.specs.Format.{Res, got, bad}
use Rattle.refusals.specs.Refusals.{Refusal, refused}
use Rattle.refusals.specs.Sent.{sent_back, said, says}
use Rattle.refusals.specs.declared.Refused.{Refused}
use Rattle.refusals.specs.declared.Refused.TheVariants.{Short, NoFile}
use Rattle.refusals.proofs.SentLaws.{said-same}
use Rattle.refusals.specs.Buffers.{over, afterwards}
use Rattle.message.specs.declared.FileFacts.{FileFacts}
use Rattle.message.specs.Bytes.{opening, element, closing, root, counter, partner_bytes, file_bytes}
use Rattle.message.specs.Rows.{numbers, partners_of, Message, contents}
use Rattle.message.specs.Messages.{message_bytes, read_message}
use Rattle.message.specs.Calls.{id_place, moment_place, facts_of, read_refusal, message_in, read_answer, ReadCalled}

-- ---- from what is known to the record

module _ (file : List ℕ) (lent : ℕ) where
  -- 13
  pub says-no-file : read_message file ≡ bad → said (Err NoFile) ≡ read_answer file lent
  unfolding read_answer read_refusal
  says-no-file e = rw e

  module _ (m : Message) (rest : List ℕ) (e : read_message file ≡ got m rest) where
    -- 10
    pub says-short : lent < 6 * length m.rows → said (Err (Short 0)) ≡ read_answer file lent
    unfolding read_answer read_refusal
    says-short h = rw (e, lt-leb (6 * length m.rows) lent h)

    -- what the file says
    pub says-file : 6 * length m.rows ≤ lent → said (Ok (facts_of m)) ≡ read_answer file lent
    unfolding read_answer read_refusal message_in
    says-file h = rw (e, le-leb (6 * length m.rows) lent h)

module _ (file before : List ℕ) where
  -- a refusal leaves the rows
  kept-rows : (refusal : Refused) (x : Option Refusal) (facts : FileFacts) (new : List ℕ) → said (Err refusal) ≡ says x facts → before ≡ afterwards x new before
  unfolding afterwards
  kept-rows refusal none facts new e = let z : ◌≡◌ {A = ℕ} 0 1 = cc in absurd (omega arith)
  kept-rows refusal (some r) facts new e = refl

  pub called-refused : (refusal : Refused) → said (Err refusal) ≡ read_answer file (length before) → ReadCalled file before before (Err refusal)
  unfolding read_answer
  called-refused refusal e = record { answer = e; rows = kept-rows refusal (read_refusal (read_message file) (length before)) _ _ e }

  pub called-file : (m : Message) (rest : List ℕ) → read_message file ≡ got m rest → 6 * length m.rows ≤ length before → ReadCalled file before (over (numbers m.rows) before) (Ok (facts_of m))
  unfolding read_refusal message_in afterwards
  called-file m rest e h = record { answer = says-file file (length before) m rest e h; rows = rw (e, le-leb (6 * length m.rows) (length before) h) }

-- ---- from the record to what was read

pub record ReadAccepted (file before after : List ℕ) (facts : FileFacts) : Type 0 where
  pub message : Message
  pub rest : List ℕ
  pub read : read_message file ≡ got message rest
  pub long : 6 * length message.rows ≤ length before
  pub says : facts ≡ facts_of message
  pub rows : after ≡ over (numbers message.rows) before

module _ (file before after : List ℕ) (facts : FileFacts) where
  accepted-message : (m : Message) (rest : List ℕ) → read_message file ≡ got m rest → (b : Bool) → leb (6 * length m.rows) (length before) ≡ b
      → said (Ok facts) ≡ says (cond b none (refused 10 0)) (facts_of m) → after ≡ afterwards (cond b none (refused 10 0)) (numbers m.rows) before → ReadAccepted file before after facts
  unfolding afterwards
  accepted-message m rest e true f a w =
      record { message = m; rest = rest; read = e; long = leb-true (6 * length m.rows) (length before) f; says = cc; rows = w }
  accepted-message m rest e false f a w = let z : ◌≡◌ {A = ℕ} 0 1 = cc in absurd (omega arith)

  accepted-reading : (x : Res Message) → read_message file ≡ x → said (Ok facts) ≡ says (read_refusal x (length before)) (facts_of (message_in x))
      → after ≡ afterwards (read_refusal x (length before)) (numbers (message_in x).rows) before → ReadAccepted file before after facts
  unfolding read_refusal message_in
  accepted-reading bad e a w = let z : ◌≡◌ {A = ℕ} 0 1 = cc in absurd (omega arith)
  accepted-reading (got m rest) e a w = accepted-message m rest e (leb (6 * length m.rows) (length before)) refl a w

  pub accepted-is : ReadCalled file before after (Ok facts) → ReadAccepted file before after facts
  unfolding read_answer
  accepted-is c = accepted-reading (read_message file) refl c.answer c.rows

-- 13 is answered of no file only
module _ (file before after : List ℕ) where
  refused-message : (facts : FileFacts) (b : Bool) → said (Err NoFile) ≡ says (cond b none (refused 10 0)) facts → ⊥
  refused-message facts true e = let z : ◌≡◌ {A = ℕ} 0 1 = cc in omega arith
  refused-message facts false e =
      let z : sent_back NoFile ≡ sent_back (Short 0) = cc in
      let n : ◌≡◌ {A = ℕ} 13 10 = ap (λ (r : Refusal). r.number) z in
      omega arith

  refused-reading : (x : Res Message) → said (Err NoFile) ≡ says (read_refusal x (length before)) (facts_of (message_in x)) → x ≡ bad
  unfolding read_refusal
  refused-reading bad e = refl
  refused-reading (got m rest) e = absurd (refused-message _ (leb (6 * length m.rows) (length before)) e)

  pub refused-is : ReadCalled file before after (Err NoFile) → read_message file ≡ bad
  unfolding read_answer
  refused-is c = refused-reading (read_message file) c.answer

-- ---- buffers

-- a write from the first place on
pub written_over : (d bs : List ℕ) → written d 0 bs ≡ over bs d
unfolding written over
written_over d bs = rw (zero-add (length bs))

-- one call has one answer
pub one-reading : {file before a b : List ℕ} {r s : Result FileFacts Refused} → ReadCalled file before a r → ReadCalled file before b s → (r ≡ s) × (a ≡ b)
one-reading c d = (said-same (c.answer ∙ sym d.answer), c.rows ∙ sym d.rows)

-- ---- the places of ID and moment

part_at : (p x r : List ℕ) → take (length x) (drop (length p) (p ++ (x ++ r))) ≡ x
part_at p x r = ap (take (length x)) (drop-append_seam p (x ++ r)) ∙ take-append_seam x r

id-join : (r o i c m v n l e : List ℕ) → r ++ (o ++ i ++ c ++ m ++ v ++ n ++ l) ++ e ≡ (r ++ o) ++ (i ++ (c ++ m ++ v ++ n ++ l ++ e))
id-join r o i c m v n l e = simp append_assoc

moment-join : (r t o x c v n l e : List ℕ) → r ++ (t ++ (o ++ x ++ c) ++ v ++ n ++ l) ++ e ≡ (r ++ t ++ o) ++ (x ++ (c ++ v ++ n ++ l ++ e))
moment-join r t o x c v n l e = simp append_assoc

module _ (m : Message) where
  pub id-stands : take (length m.id) (drop (id_place m.kind) (message_bytes m)) ≡ m.id
  unfolding id_place file_bytes contents
  id-stands =
      let k = m.kind in
      let l = partners_of (m.year, m.month) m.rows in
      ap (λ (s : List ℕ). take (length m.id) (drop (length (opening (root k) ++ opening "TransactionID")) s))
      (id-join (opening (root k)) (opening "TransactionID") m.id (closing "TransactionID") (element "MessageCreateDateTime" m.moment) (element "ReceiverID" (fixed 10 m.receiver))
      (element (counter k) (plain (length l))) (flat_map (partner_bytes k) l) (closing (root k)))
      ∙ part_at (opening (root k) ++ opening "TransactionID") m.id _

  pub moment-stands : take (length m.moment) (drop (moment_place m.kind m.id) (message_bytes m)) ≡ m.moment
  unfolding moment_place file_bytes contents
  moment-stands =
      let k = m.kind in
      let l = partners_of (m.year, m.month) m.rows in
      ap (λ (s : List ℕ). take (length m.moment) (drop (length (opening (root k) ++ element "TransactionID" m.id ++ opening "MessageCreateDateTime")) s))
      (moment-join (opening (root k)) (element "TransactionID" m.id) (opening "MessageCreateDateTime") m.moment (closing "MessageCreateDateTime") (element "ReceiverID" (fixed 10 m.receiver))
      (element (counter k) (plain (length l))) (flat_map (partner_bytes k) l) (closing (root k)))
      ∙ part_at (opening (root k) ++ element "TransactionID" m.id ++ opening "MessageCreateDateTime") m.moment _
