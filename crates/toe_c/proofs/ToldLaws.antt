-- A count is below 2^63 and a refusal's code is not, so that every answer tells which it is: for each of the five calls.
use Rattle.std.specs.Prelude.{◌≡◌, refl, Bool, true, false, cond, ◌&&◌, List, ℕ, ◌*◌, ◌^◌, ◌≤◌, ◌<◌, leb, ℤ, length, Result, Ok, Err}
use Rattle.std.proofs.Common.{sym, ap, subst, arith}
use Rattle.std.proofs.Math.Option.{Option, none, some}
use Rattle.refusals.specs.Refusals.{Refusal, unless, short}
use Rattle.refusals.specs.RefusalsLaws.{never, not-refused, not_first, not_short}
use Rattle.refusals.specs.Sent.{said, says}
use Rattle.refusals.specs.declared.Refused.{Refused}
use Rattle.kinds.specs.Numbers.{kind_numbered}
use Rattle.formats.specs.Format.{Res, got, bad}
use Rattle.moments.specs.Ids.{is_transaction_id}
use Rattle.book.specs.Book.{book_of}
use Rattle.quarters.specs.Quarters.{month_quarters}
use Rattle.quarters.proofs.QuartersLaws.{month-quarters-most}
use Rattle.volumes.specs.Settlement.{row_count, book_refusal, settling_refusal}
use Rattle.volumes.proofs.SettlementLaws.{passing}
use Rattle.volumes.proofs.SoundLaws.{sound}
use Rattle.volumes.specs.Series.{Kind}
use Rattle.settlement.specs.CallsInner.{RowsSent}
use Rattle.message.specs.declared.FileFacts.{FileFacts}
use Rattle.message.specs.Valid.{is_moment}
use Rattle.message.specs.Rows.{Row, Message, contents}
use Rattle.message.specs.Messages.{message_bytes, read_message}
use Rattle.message.proofs.FileLaws.{read-is-written}
use Rattle.message.proofs.SizeLaws.{file-least}
use Rattle.message.proofs.RowsLaws.{rows-undo}
use Rattle.message.specs.Calls.{facts_of, read_refusal, message_in, read_answer}
use Rattle.writer.specs.Rows.{is_rows, rows_message}
use Rattle.writer.specs.WriteCalls.{text_from, write_refusal, write_answer, WriteCalled}
use Rattle.reports.specs.Calls.{sheet_refusal, sheet_answer, SheetCalled, text_of, file_refusal, file_answer, FileCalled}
use Rattle.series.specs.VolumesLaws.{volumes-most}
use Rattle.toe_c.specs.Codes.{reply, itself, code_of, Tells, with_facts, bytes_in, rows_read}
use Rattle.toe_c.specs.SmallInner.{SmallReply}
use Rattle.toe_c.proofs.SmallLaws.{decoded}
use Rattle.toe_c.specs.FileSizeLaws.{file-few}

-- its count, if it is one, is below 2^63
abbrev pub Few : {A : Type 0} → (A → ℕ) → Result A Refusal → Type 0
Few count (Ok a) = count a < 2 ^ 63
Few count (Err r) = Unit {0}

tells : {A : Type 0} (count : A → ℕ) (p : Result A Refusal) → SmallReply p → Few count p → Tells (reply count p) (code_of (reply count p))
tells count (Ok a) h k = k
tells count (Err r) h k = decoded r.number r.item h

-- what the code of a small reply tells
pub told-by : {A : Type 0} (count : A → ℕ) (p : Result A Refusal) (code : ℕ) → code ≡ code_of (reply count p) → SmallReply p → Few count p → Tells (reply count p) code
told-by count p code e h k = subst (Tells (reply count p)) (sym e) (tells count p h k)

says_few : {A : Type 0} (count : A → ℕ) (x : Option Refusal) (a : A) → (x ≡ none → count a < 2 ^ 63) → Few count (says x a)
says_few count none a k = k refl
says_few count (some r) a k = tt

by-few : (x : Option Refusal) (n : ℕ) → (x ≡ none → n < 2 ^ 63) → Few itself (says x n)
by-few x n k = says_few itself x n k

-- of an answer by its refusal
few-by : {A : Type 0} (count : A → ℕ) (x : Option Refusal) (a : A) {r : Result A Refusal} → (x ≡ none → count a < 2 ^ 63) → r ≡ says x a → Few count r
few-by count x a h e = rw e (says_few count x a h)

-- ---- settling: at most 51,200 rows

rows_few : (bytes : List ℕ) (lent : ℕ) → settling_refusal bytes lent ≡ none → row_count (book_of bytes) < 2 ^ 63
unfolding settling_refusal
rows_few bytes lent e = omega (arith, volumes-most bytes (not_first (book_refusal bytes) _ e))

pub settle-few : {bytes : List ℕ} {before after : List ℤ} {r : Result ℕ Refusal} → RowsSent bytes before after r → Few (λ n. n) r
settle-few {bytes} {before} s = few-by (λ n. n) (settling_refusal bytes (length before)) _ (rows_few bytes (length before)) s.answer_is

-- ---- a sheet: no more sums than a longest month has quarter-hours

sums-few : (bytes : List ℕ) (party lent : ℕ) → sheet_refusal bytes party lent ≡ none → month_quarters (book_of bytes).calendar < 2 ^ 63
unfolding sheet_refusal
sums-few bytes party lent e =
    omega (arith, month-quarters-most (book_of bytes).calendar (sound bytes (passing bytes (not_first (book_refusal bytes) _ e)).passed).ranged)

pub sheet-few : {bytes : List ℕ} {party : ℕ} {before after : List ℤ} {r : Result ℕ Refusal} → SheetCalled bytes party before after r → Few (λ n. n) r
unfolding sheet_answer
sheet-few {bytes} {party} {before} s = few-by (λ n. n) (sheet_refusal bytes party (length before)) _ (sums-few bytes party (length before)) s.answer

-- ---- a file: at most `file_most` bytes

pub file-answer-few : {bytes : List ℕ} {kind receiver : ℕ} {id moment : List ℕ} {rows_before rows_after : List ℤ} {before after : List ℕ} {r : Result (ℕ × ℕ) Refusal} → FileCalled bytes kind receiver id moment rows_before rows_after before after r → Few bytes_in r
unfolding file_answer
file-answer-few {bytes} {kind} {receiver} {id} {moment} {rows_before} {before = before} c =
    few-by bytes_in (file_refusal bytes kind receiver id moment (length rows_before) (length before)) _
    (λ e. omega (arith, file-few bytes kind receiver id moment (length rows_before) (length before) e)) c.answer

-- ---- writing: no more bytes than are lent

write-room : (kind : Option Kind) (receiver year month : ℕ) (rows id moment : List ℕ) (lent : ℕ) → write_refusal kind receiver year month rows id moment lent ≡ none
    → length (text_from kind receiver year month rows id moment) ≤ lent
unfolding write_refusal text_from
write-room none receiver year month rows id moment lent e = absurd (never 12 e)
write-room (some kind) receiver year month rows id moment lent e =
    let n = length (message_bytes (rows_message kind receiver year month rows id moment)) in
    let f = is_transaction_id id && is_moment moment in
    let e₁ = (not-refused (is_rows kind receiver year month rows) 13 (unless f 12 (short 1 n lent)) e).1 in
    not_short 1 n lent (not-refused f 12 (short 1 n lent) e₁).1

pub write-few : {kind receiver year month : ℕ} {rows id moment before after : List ℕ} {r : Result ℕ Refused} → WriteCalled kind receiver year month rows id moment before after r → length before < 2 ^ 63 → Few (λ n. n) (said r)
unfolding write_answer
write-few {kind} {receiver} {year} {month} {rows} {id} {moment} {before} w h =
    let k = kind_numbered kind in
    few-by (λ n. n) (write_refusal k receiver year month rows id moment (length before)) _ (λ e. omega (arith, write-room k receiver year month rows id moment (length before) e)) w.answer

-- ---- reading: a row that is read takes 69 bytes of the file and more, and its length is one of 64 bits

rows-room : (file : List ℕ) (m : Message) (rest : List ℕ) → read_message file ≡ got m rest → 69 * length m.rows ≤ length file
unfolding contents
rows-room file m rest e =
    omega (arith, ap length (read-is-written file m rest e).0, file-least (contents m), ap (λ (l : List Row). length l) (rows-undo (m.year, m.month) m.rows))

-- as many rows as were read; none are, of what is no file
read-rows : (file : List ℕ) → 69 * length (message_in (read_message file)).rows ≤ length file
unfolding message_in
read-rows file = go (read_message file) refl
  where
    go : (x : Res Message) → read_message file ≡ x → 69 * length (message_in x).rows ≤ length file
    go bad e = omega arith
    go (got m rest) e = rows-room file m rest e

pub read-few : (file : List ℕ) (lent : ℕ) {r : Result FileFacts Refusal} → length file < 2 ^ 64 → r ≡ read_answer file lent → Few rows_read r
unfolding read_answer facts_of
read-few file lent h e =
    few-by rows_read (read_refusal (read_message file) lent) (facts_of (message_in (read_message file))) (λ k. omega (arith, read-rows file)) e

pub facts-few : (lent : ℕ) (r : Result FileFacts Refusal) → Few rows_read r → Few rows_read (with_facts lent r)
unfolding with_facts
facts-few lent (Ok f) h = go (leb 8 lent)
  where
    go : (t : Bool) → Few rows_read (cond t (Ok f) (Err (record { number = 10; item = 1 })))
    go true = h
    go false = tt
facts-few lent (Err r) h = tt
