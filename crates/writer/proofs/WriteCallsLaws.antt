-- What each answer of writing from rows needs, and what the answer shows.
use Rattle.std.proofs.Math.Path.{◌≡◌, refl, ap}
use Rattle.std.proofs.Common.{sym, ◌∙◌, arith}
use Rattle.std.specs.Prelude.{Bool, cond, ◌&&◌, List, ℕ, ◌≤◌, ◌<◌, leb, length, Result, Ok, Err}
use Rattle.std.proofs.Math.Bool.{true, false}
use Rattle.std.proofs.Math.Option.{Option, none, some}
use borrow.Author.Tests.{le-leb, lt-leb}
use Rattle.integers.proofs.TestsLaws.{and_left, and_right}
use Rattle.refusals.specs.declared.Refused.{Refused}
use Rattle.refusals.specs.declared.Refused.TheVariants.{Short, Malformed, NoFile}
use Rattle.refusals.specs.Refusals.{Refusal, refused, unless}
use Rattle.refusals.specs.Sent.{says, said}
use Rattle.refusals.specs.Buffers.{over, afterwards}
use Rattle.refusals.proofs.SentLaws.{said-same}
use Rattle.moments.specs.Ids.{is_transaction_id}
use Rattle.kinds.specs.declared.Kind.{Kind}
use Rattle.kinds.specs.Numbers.{kind_numbered}
use Rattle.message.specs.Valid.{is_moment}
use Rattle.message.specs.Messages.{message_bytes}
use Rattle.writer.specs.Rows.{is_rows, rows_message}
use Rattle.writer.specs.WriteCalls.{text_from, write_refusal, write_answer, WriteCalled}

module _ (number receiver year month : ℕ) (rows id moment before : List ℕ) where
  -- 12 for the kind
  pub wrote-no-kind : kind_numbered number ≡ none → WriteCalled number receiver year month rows id moment before before (Err Malformed)
  unfolding write_answer write_refusal afterwards
  wrote-no-kind k = record { answer = rw k; file = rw k }

  module _ (kind : Kind) (k : kind_numbered number ≡ some kind) where
    -- 13
    pub wrote-no-rows : is_rows kind receiver year month rows ≡ false → WriteCalled number receiver year month rows id moment before before (Err NoFile)
    unfolding write_answer write_refusal afterwards
    wrote-no-rows f = record { answer = rw (k, f); file = rw (k, f) }

    module _ (r : is_rows kind receiver year month rows ≡ true) where
      -- 12 for ID or moment
      pub wrote-malformed : (is_transaction_id id && is_moment moment) ≡ false → WriteCalled number receiver year month rows id moment before before (Err Malformed)
      unfolding write_answer write_refusal afterwards
      wrote-malformed f = record { answer = rw (k, r, f); file = rw (k, r, f) }

      module _ (g : (is_transaction_id id && is_moment moment) ≡ true) where
        -- 10
        pub wrote-short : length before < length (message_bytes (rows_message kind receiver year month rows id moment))
            → WriteCalled number receiver year month rows id moment before before (Err (Short 1))
        unfolding write_answer write_refusal afterwards
        wrote-short h = let f = lt-leb (length (message_bytes (rows_message kind receiver year month rows id moment))) (length before) h in record { answer = rw (k, r, g, f); file = rw (k, r, g, f) }

        -- the file
        pub wrote-file : length (message_bytes (rows_message kind receiver year month rows id moment)) ≤ length before
            → WriteCalled number receiver year month rows id moment before (over (message_bytes (rows_message kind receiver year month rows id moment)) before)
            (Ok (length (message_bytes (rows_message kind receiver year month rows id moment))))
        unfolding write_answer write_refusal text_from afterwards
        wrote-file h = let f = le-leb (length (message_bytes (rows_message kind receiver year month rows id moment))) (length before) h in record { answer = rw (k, r, g, f); file = rw (k, r, g, f) }

-- ---- from the record to what was written

pub record WriteAccepted (number receiver year month : ℕ) (rows id moment before after : List ℕ) (n : ℕ) : Type 0 where
  pub kind : Kind
  pub numbered : kind_numbered number ≡ some kind
  pub judged : is_rows kind receiver year month rows ≡ true
  pub named : is_transaction_id id ≡ true
  pub timed : is_moment moment ≡ true
  pub count : n ≡ length (message_bytes (rows_message kind receiver year month rows id moment))
  pub file : after ≡ over (message_bytes (rows_message kind receiver year month rows id moment)) before

module _ (number receiver year month : ℕ) (rows id moment before after : List ℕ) (n : ℕ) where
  abbrev made : Kind → List ℕ
  made kind = message_bytes (rows_message kind receiver year month rows id moment)

  taken-kind : (kind : Kind) → kind_numbered number ≡ some kind → (a b c : Bool) → is_rows kind receiver year month rows ≡ a → (is_transaction_id id && is_moment moment) ≡ b
      → said (Ok n) ≡ says (unless a 13 (unless b 12 (cond c none (refused 10 1)))) (length (made kind)) → after ≡ afterwards (unless a 13 (unless b 12 (cond c none (refused 10 1)))) (made kind) before
      → WriteAccepted number receiver year month rows id moment before after n
  unfolding afterwards
  taken-kind kind k true true true e f w o =
      record {
        kind = kind;
        numbered = k;
        judged = e;
        named = and_left (is_transaction_id id) (is_moment moment) f;
        timed = and_right (is_transaction_id id) (is_moment moment) f;
        count = cc;
        file = o;
      }
  taken-kind kind k true true false e f w o = let z : ◌≡◌ {A = ℕ} 0 1 = cc in absurd (omega arith)
  taken-kind kind k true false c e f w o = let z : ◌≡◌ {A = ℕ} 0 1 = cc in absurd (omega arith)
  taken-kind kind k false b c e f w o = let z : ◌≡◌ {A = ℕ} 0 1 = cc in absurd (omega arith)

  taken-call : (o : Option Kind) → kind_numbered number ≡ o → said (Ok n) ≡ says (write_refusal o receiver year month rows id moment (length before)) (length (text_from o receiver year month rows id moment))
      → after ≡ afterwards (write_refusal o receiver year month rows id moment (length before)) (text_from o receiver year month rows id moment) before → WriteAccepted number receiver year month rows id moment before after n
  unfolding write_refusal text_from
  taken-call none k w f = let z : ◌≡◌ {A = ℕ} 0 1 = cc in absurd (omega arith)
  taken-call (some kind) k w f =
      taken-kind kind k (is_rows kind receiver year month rows) (is_transaction_id id && is_moment moment) (leb (length (made kind)) (length before)) refl refl w f

  pub write-accepted : WriteCalled number receiver year month rows id moment before after (Ok n) → WriteAccepted number receiver year month rows id moment before after n
  unfolding write_answer
  write-accepted c = taken-call (kind_numbered number) refl c.answer c.file

-- 13 is answered of rows that are no file's only
sent : Result ℕ Refusal → ℕ
sent (Ok n) = 0
sent (Err r) = r.number

module _ (number receiver year month : ℕ) (rows id moment before after : List ℕ) (kind : Kind) where
  no_rows : (a b c : Bool) (count : ℕ) → said {A = ℕ} (Err NoFile) ≡ says (unless a 13 (unless b 12 (cond c none (refused 10 1)))) count → a ≡ false
  unfolding sent
  no_rows false b c count e = refl
  no_rows true false c count e = let z : ◌≡◌ {A = ℕ} 13 12 = ap sent e in absurd (omega arith)
  no_rows true true false count e = let z : ◌≡◌ {A = ℕ} 13 10 = ap sent e in absurd (omega arith)
  no_rows true true true count e = let z : ◌≡◌ {A = ℕ} 13 0 = ap sent e in absurd (omega arith)

  pub refused-rows : WriteCalled number receiver year month rows id moment before after (Err NoFile) → kind_numbered number ≡ some kind → is_rows kind receiver year month rows ≡ false
  unfolding write_answer write_refusal text_from
  refused-rows c k =
      let bytes = message_bytes (rows_message kind receiver year month rows id moment) in
      no_rows (is_rows kind receiver year month rows) (is_transaction_id id && is_moment moment) (leb (length bytes) (length before)) (length bytes)
      (c.answer ∙ ap (λ (o : Option Kind). says (write_refusal o receiver year month rows id moment (length before)) (length (text_from o receiver year month rows id moment))) k)

-- ---- one call has one answer

pub one-write : {number receiver year month : ℕ} {rows id moment before a b : List ℕ} {r s : Result ℕ Refused} → WriteCalled number receiver year month rows id moment before a r
    → WriteCalled number receiver year month rows id moment before b s → (r ≡ s) × (a ≡ b)
one-write c d = (said-same (c.answer ∙ sym d.answer), c.file ∙ sym d.file)
