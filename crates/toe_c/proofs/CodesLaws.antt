-- A call's record and the code of its answer are the call's at this boundary. A reading's facts fill eight places, or stay; where there are fewer than eight, all stays.
use Rattle.std.specs.Prelude.{◌≡◌, refl, List, ℕ, ◌^◌, ◌≤◌, ◌<◌, ℤ, length, Result, Ok, Err}
use Rattle.std.proofs.lemmas.List.Edits.{sets}
use Rattle.std.proofs.Common.{le-leb}
use Rattle.std.proofs.lemmas.Bool.{lt-leb}
use Rattle.refusals.specs.Refusals.{Refusal}
use Rattle.refusals.specs.Buffers.{over, afterwards}
use Rattle.refusals.specs.BuffersLaws.{sets_over}
use Rattle.refusals.specs.Sent.{sent_back, said}
use Rattle.refusals.specs.declared.Refused.{Refused}
use Rattle.refusals.specs.declared.Refused.TheVariants.{Short}
use Rattle.message.specs.declared.FileFacts.{FileFacts}
use Rattle.message.specs.Rows.{numbers}
use Rattle.message.specs.Messages.{read_message}
use Rattle.message.specs.Calls.{read_refusal, message_in, read_answer, ReadCalled}
use Rattle.message.proofs.CallsLaws.{called-refused, one-reading}
use Rattle.writer.specs.WriteCalls.{WriteCalled}
use Rattle.settlement.specs.Calls.{SettleCalled, settled_by}
use Rattle.settlement.specs.CallsInner.{RowsSent}
use Rattle.settlement.specs.CallsLaws.{called}
use Rattle.reports.specs.Calls.{SheetCalled, FileCalled}
use Rattle.toe_c.specs.Codes.{reply, refusal_code, code_of, bytes_in, SettleCoded, SheetCoded, FileCoded, WriteCoded, fact_numbers, with_facts, rows_by, facts_by, rows_read, ReadCoded}
use Rattle.toe_c.specs.FactsInner.{FactsRead}
use Rattle.toe_c.specs.SmallInner.{SmallReply}
use Rattle.toe_c.proofs.SmallLaws.{reply_small, settle-small, sheet-small, file-small, write-small, read_small, facts-small}
use Rattle.toe_c.proofs.ToldLaws.{told-by, settle-few, sheet-few, file-answer-few, write-few, read-few, facts-few}

-- an answer that is itself the count
itself-counted : (r : Result ℕ Refusal) → r ≡ reply (λ n. n) r
itself-counted (Ok n) = refl
itself-counted (Err e) = refl

pub settle-coded : {bytes : List ℕ} {before after : List ℤ} (r : Result ℕ Refused) (code : ℕ) → RowsSent bytes before after (said r) → code ≡ code_of (said r) → SettleCoded bytes before after code
settle-coded {bytes} {before} {after} r code s e =
    let f : code ≡ code_of (reply (λ n. n) (said r)) = rw (← itself-counted (said r)) e in
    record { answer = r; called = called bytes before after r s refl; coded = f; told = λ z. told-by (λ n. n) (said r) code f (settle-small s) (settle-few s) }

pub sheet-coded : {bytes : List ℕ} {party : ℕ} {before after : List ℤ} (r : Result ℕ Refused) (code : ℕ) → SheetCalled bytes party before after (said r) → code ≡ code_of (said r) → SheetCoded bytes party before after code
sheet-coded r code s e =
    let f : code ≡ code_of (reply (λ n. n) (said r)) = rw (← itself-counted (said r)) e in
    record { answer = r; called = s; coded = f; told = λ z. told-by (λ n. n) (said r) code f (sheet-small s) (sheet-few s) }

pub write-coded : {kind receiver year month : ℕ} {rows id moment before after : List ℕ} (r : Result ℕ Refused) (code : ℕ) → WriteCalled kind receiver year month rows id moment before after r → code ≡ code_of (said r)
    → WriteCoded kind receiver year month rows id moment before after code
write-coded r code w e =
    let f : code ≡ code_of (reply (λ n. n) (said r)) = rw (← itself-counted (said r)) e in
    record { answer = r; called = w; coded = f; told = λ h. told-by (λ n. n) (said r) code f (write-small w) (write-few w h) }

-- a file's answer without its number of settlement rows
pub file-coded : {bytes : List ℕ} {kind receiver : ℕ} {id moment : List ℕ} {rows_before rows_after : List ℤ} {before after : List ℕ} (r : Result (ℕ × ℕ) Refused) (code : ℕ) → FileCalled bytes kind receiver id moment rows_before rows_after before after (said r)
    → code ≡ code_of (reply bytes_in (said r)) → FileCoded bytes kind receiver id moment rows_before rows_after before after code
file-coded r code s e = record { answer = r; called = s; coded = e; told = λ z. told-by bytes_in (said r) code e (file-small s) (file-answer-few s) }

-- ---- reading

-- eight stores
pub facts-over : (f : FileFacts) (before : List ℕ) → 8 ≤ length before → sets before 0 (fact_numbers f) ≡ over (fact_numbers f) before
unfolding fact_numbers
facts-over f before h = sets_over (fact_numbers f) before h

-- room for eight
enough : (lent : ℕ) (r : Result FileFacts Refusal) → 8 ≤ lent → with_facts lent r ≡ r
unfolding with_facts
enough lent (Ok f) h = rw (le-leb 8 lent h)
enough lent (Err r) h = refl

-- fewer are as good as none
too-few : (lent : ℕ) (r : Result FileFacts Refusal) → lent < 8 → with_facts lent r ≡ with_facts 0 r
unfolding with_facts
too-few lent (Ok f) h = rw (lt-leb 8 lent h)
too-few lent (Err r) h = refl

-- with none nothing changes
rows-kept : (r : Result FileFacts Refusal) (filled before : List ℕ) → before ≡ rows_by (with_facts 0 r) filled before
unfolding with_facts
rows-kept (Ok f) filled before = refl
rows-kept (Err r) filled before = refl

facts-kept : (r : Result FileFacts Refusal) (before : List ℕ) → before ≡ facts_by (with_facts 0 r) before
unfolding with_facts
facts-kept (Ok f) before = refl
facts-kept (Err r) before = refl

-- a reading that is refused leaves the rows
kept-rows : {file before after : List ℕ} {e : Refused} → ReadCalled file before after (Err e) → after ≡ before
kept-rows {file} {before} {e = e} c = (one-reading c (called-refused file before e c.answer)).1

module _ (file rows_before rows_after facts : List ℕ) where
  pub facts-read : (f : FileFacts) → 8 ≤ length facts → ReadCalled file rows_before rows_after (Ok f) → FactsRead file rows_before rows_after facts (over (fact_numbers f) facts) (Ok f.rows)
  facts-read f h c =
      let e = enough (length facts) (Ok f) h in
      record { answer = Ok f; filled = rows_after; called = c; rows = rw e; facts = rw e; count = rw e }

  pub facts-refused : (r : Refused) → 8 ≤ length facts → ReadCalled file rows_before rows_after (Err r) → FactsRead file rows_before rows_after facts facts (said (Err r))
  unfolding with_facts
  facts-refused r h c = record { answer = Err r; filled = rows_after; called = c; rows = kept-rows c; facts = refl; count = refl }

-- fewer than eight: as judged, and 10 with item 1 of a file that is read
module _ (file rows facts : List ℕ) where
  abbrev filled-by : List ℕ
  filled-by = afterwards (read_refusal (read_message file) (length rows)) (numbers (message_in (read_message file)).rows) rows

  pub judged-refused : (r : Refused) → said (Err r) ≡ read_answer file (length rows) → FactsRead file rows rows facts facts (said {A = ℕ} (Err r))
  unfolding with_facts
  judged-refused r e = record { answer = Err r; filled = filled-by; called = record { answer = e; rows = refl }; rows = refl; facts = refl; count = refl }

  pub judged-short : (f : FileFacts) → length facts < 8 → said (Ok f) ≡ read_answer file (length rows) → FactsRead file rows rows facts facts (said {A = ℕ} (Err (Short 1)))
  unfolding with_facts
  judged-short f h e =
      let s = lt-leb 8 (length facts) h in
      record { answer = Ok f; filled = filled-by; called = record { answer = e; rows = refl }; rows = rw s; facts = rw s; count = rw s }

pub facts_small : {file rows_before rows_after facts_before facts_after : List ℕ} {p : Result ℕ Refusal} → FactsRead file rows_before rows_after facts_before facts_after p → SmallReply p
facts_small {file} {rows_before} {facts_before = facts_before} c =
    rw c.count (reply_small rows_read (with_facts (length facts_before) (said c.answer)) (facts-small (length facts_before) (said c.answer) (read_small file (length rows_before) c.called.answer)))

pub read-coded : {file rows_before rows_after facts_before facts_after : List ℕ} (p : Result ℕ Refusal) (code : ℕ) → length file < 2 ^ 64 → FactsRead file rows_before rows_after facts_before facts_after p → code ≡ code_of p
    → ReadCoded file rows_before rows_after facts_before facts_after code
read-coded {file} {rows_before} {facts_before = facts_before} p code fits c e =
    let lent = length facts_before in
    let f : code ≡ code_of (reply rows_read (with_facts lent (said c.answer))) = rw (← c.count) e in
    let small = facts-small lent (said c.answer) (read_small file (length rows_before) c.called.answer) in
    let few = facts-few lent (said c.answer) (read-few file (length rows_before) fits c.called.answer) in
    record { answer = c.answer; filled = c.filled; called = c.called; rows = c.rows; facts = c.facts; coded = f; told = told-by rows_read (with_facts lent (said c.answer)) code f small few }

-- ---- a reading, by its own record and what is done with its answer

module _ (file rows_before rows_after facts_before : List ℕ) (fits : length file < 2 ^ 64) (long : 8 ≤ length facts_before) where
  pub read-accepted : (f : FileFacts) → ReadCalled file rows_before rows_after (Ok f) → ReadCoded file rows_before rows_after facts_before (over (fact_numbers f) facts_before) f.rows
  read-accepted f c = read-coded (Ok f.rows) f.rows fits (facts-read file rows_before rows_after facts_before f long c) refl

  pub read-refused : (r : Refused) → ReadCalled file rows_before rows_after (Err r) → ReadCoded file rows_before rows_after facts_before facts_before (refusal_code (sent_back r).number (sent_back r).item)
  read-refused r c = read-coded (said {A = ℕ} (Err r)) _ fits (facts-refused file rows_before rows_after facts_before r long c) refl

-- fewer than eight facts are as good as none
pub read_short : (file rows facts : List ℕ) (r : Result FileFacts Refused) (code : ℕ) → length file < 2 ^ 64 → length facts < 8 → said r ≡ read_answer file (length rows) → code ≡ code_of (reply rows_read (with_facts 0 (said r)))
    → ReadCoded file rows rows facts facts code
unfolding with_facts
read_short file rows facts (Ok f) code fits h e g = read-coded (said {A = ℕ} (Err (Short 1))) code fits (judged-short file rows facts f h e) g
read_short file rows facts (Err r) code fits h e g = read-coded (said {A = ℕ} (Err r)) code fits (judged-refused file rows facts r e) g
