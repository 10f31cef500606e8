-- Every refusal has a number of at most 31 and an item of at most 512, so that no code wraps, no two refusals share one, and both are taken out of it.
use Rattle.std.specs.Prelude.{◌≡◌, refl, Bool, true, false, cond, ◌&&◌, List, ℕ, ◌*◌, ◌≤◌, leb, ℤ, length, Result, Ok, Err}
use Rattle.std.proofs.Math.Option.{Option, none, some}
use Rattle.std.proofs.Common.{arith}
use Rattle.refusals.specs.Refusals.{Refusal}
use Rattle.refusals.specs.RefusalsLaws.{Each, each-under, each-unless, each-short}
use Rattle.refusals.specs.Sent.{said, says}
use Rattle.refusals.specs.declared.Refused.{Refused}
use Rattle.volumes.proofs.NumbersLaws.{Listed, settling-listed}
use Rattle.volumes.specs.Settlement.{settling_refusal}
use Rattle.settlement.specs.declared.settle.Settled.{Settled}
use Rattle.settlement.specs.declared.settle.Settled.TheVariants.{Rows as SettledRows, Refused as SettledRefused}
use Rattle.settlement.specs.Calls.{settle_says, settled_by}
use Rattle.settlement.specs.CallsInner.{RowsSent}
use Rattle.moments.specs.Ids.{is_transaction_id}
use Rattle.message.specs.declared.FileFacts.{FileFacts}
use Rattle.message.specs.Valid.{is_moment}
use Rattle.message.specs.Messages.{message_bytes, read_message}
use Rattle.kinds.specs.Numbers.{kind_numbered}
use Rattle.message.specs.Calls.{read_refusal, read_answer}
use Rattle.message.specs.Rows.{Message}
use Rattle.formats.specs.Format.{Res, got, bad}
use Rattle.writer.specs.Rows.{is_rows, rows_message}
use Rattle.writer.specs.WriteCalls.{write_refusal, write_answer, WriteCalled}
use Rattle.reports.proofs.NumbersLaws.{sheet-listed, file-listed}
use Rattle.reports.specs.Calls.{sheet_refusal, sheet_answer, SheetCalled, file_refusal, file_answer, FileCalled}
use Rattle.volumes.specs.Series.{Kind}
use Rattle.toe_c.specs.Codes.{reply, itself, bytes_in, rows_read, refusal_code, Decoded, with_facts}
use Rattle.toe_c.specs.SmallInner.{Small, SmallReply}

abbrev pub AllSmall : Option Refusal → Type 0
AllSmall = Each Small

few : (number item : ℕ) → number ≤ 31 → item ≤ 512 → Small number item
few number item h k = record { number_few = h; item_few = k }

-- ---- each call's answer is a reply by its refusal

reply-by : {A : Type 0} (count : A → ℕ) (x : Option Refusal) (a : A) → reply count (says x a) ≡ says x (count a)
reply-by count none a = refl
reply-by count (some r) a = refl

-- what a settling's answer says to C
abbrev pub settle_reply : Settled → Result ℕ Refusal
settle_reply (SettledRows count) = Ok count
settle_reply (SettledRefused number item) = Err (record { number = number; item = item })

pub settle-by : (x : Option Refusal) (n : ℕ) → settle_reply (settle_says x n) ≡ says x n
unfolding settle_says
settle-by none n = refl
settle-by (some r) n = refl

-- that is what its count or error says
pub settle-replied : (r : Result ℕ Refused) → settle_reply (settled_by r) ≡ reply itself (said r)
settle-replied (Ok n) = refl
settle-replied (Err e) = refl

pub sheet-by : (x : Option Refusal) (n : ℕ) → reply itself (says x n) ≡ says x n
sheet-by x n = reply-by itself x n

pub file-by : (x : Option Refusal) (row_count n : ℕ) → reply bytes_in (says x (row_count, n)) ≡ says x n
file-by x row_count n = reply-by bytes_in x (row_count, n)

pub write-by : (x : Option Refusal) (n : ℕ) → reply itself (says x n) ≡ says x n
write-by x n = reply-by itself x n

pub read_by : (x : Option Refusal) (f : FileFacts) → reply rows_read (says x f) ≡ says x f.rows
read_by x f = reply-by rows_read x f

-- ---- small numbers

-- two refusals of one code are the same
pub told-apart : (m n i j : ℕ) → Small m i → Small n j → refusal_code m i ≡ refusal_code n j → (m ≡ n) × (i ≡ j)
unfolding refusal_code
told-apart m n i j h k e = (omega (arith, h.item_few, k.item_few), omega (arith, h.item_few, k.item_few))

-- a refusal's number and item are taken out of its code
pub decoded : (number item : ℕ) → Small number item → Decoded (refusal_code number item) number item
unfolding refusal_code
decoded number item h =
    record {
      high = omega arith;
      number_is = omega (arith, h.number_few, h.item_few);
      item_is = omega (arith, h.item_few);
    }

-- ---- 1 to 9, and a settling's 10

listed_small : (number item : ℕ) → Listed number item → Small number item
listed_small number item h = few number item (omega (arith, h.most)) h.few

settling-small : (bytes : List ℕ) (lent : ℕ) → AllSmall (settling_refusal bytes lent)
settling-small bytes lent = each-under (settling_refusal bytes lent) listed_small (settling-listed bytes lent)

-- ---- the calls' answers

says_small : {A : Type 0} (x : Option Refusal) (a : A) → AllSmall x → SmallReply (says x a)
says_small none a h = tt
says_small (some r) a h = h

by-small : (x : Option Refusal) (n : ℕ) → AllSmall x → SmallReply (says x n)
by-small x n h = says_small x n h

-- of an answer by its refusal
small-by : {A : Type 0} (x : Option Refusal) (a : A) {r : Result A Refusal} → AllSmall x → r ≡ says x a → SmallReply r
small-by x a h e = rw e (says_small x a h)

pub reply_small : {A : Type 0} (count : A → ℕ) (r : Result A Refusal) → SmallReply r → SmallReply (reply count r)
reply_small count (Ok a) h = tt
reply_small count (Err r) h = h

pub settle-small : {bytes : List ℕ} {before after : List ℤ} {r : Result ℕ Refusal} → RowsSent bytes before after r → SmallReply r
settle-small {bytes} {before} s = small-by (settling_refusal bytes (length before)) _ (settling-small bytes (length before)) s.answer_is

-- 1 to 9, 11 and 10
sheet-judged : (bytes : List ℕ) (party lent : ℕ) → AllSmall (sheet_refusal bytes party lent)
sheet-judged bytes party lent = each-under (sheet_refusal bytes party lent) listed_small (sheet-listed bytes party lent)

pub sheet-small : {bytes : List ℕ} {party : ℕ} {before after : List ℤ} {r : Result ℕ Refusal} → SheetCalled bytes party before after r → SmallReply r
unfolding sheet_answer
sheet-small {bytes} {party} {before} s = small-by (sheet_refusal bytes party (length before)) _ (sheet-judged bytes party (length before)) s.answer

-- 1 to 9, 12, 11, 12 and 10
file-judged : (bytes : List ℕ) (kind receiver : ℕ) (id moment : List ℕ) (rows_lent file_lent : ℕ) → AllSmall (file_refusal bytes kind receiver id moment rows_lent file_lent)
file-judged bytes kind receiver id moment rows_lent file_lent =
    each-under (file_refusal bytes kind receiver id moment rows_lent file_lent) listed_small (file-listed bytes kind receiver id moment rows_lent file_lent)

pub file-small : {bytes : List ℕ} {kind receiver : ℕ} {id moment : List ℕ} {rows_before rows_after : List ℤ} {before after : List ℕ} {r : Result (ℕ × ℕ) Refusal} → FileCalled bytes kind receiver id moment rows_before rows_after before after r → SmallReply r
unfolding file_answer
file-small {bytes} {kind} {receiver} {id} {moment} {rows_before} {before = before} c =
    small-by (file_refusal bytes kind receiver id moment (length rows_before) (length before)) _ (file-judged bytes kind receiver id moment (length rows_before) (length before)) c.answer

-- writing from rows: 12, 13, 12 and 10
write-judged : (kind : Option Kind) (receiver year month : ℕ) (rows id moment : List ℕ) (lent : ℕ) → AllSmall (write_refusal kind receiver year month rows id moment lent)
unfolding write_refusal
write-judged none receiver year month rows id moment lent = few 12 0 (omega arith) (omega arith)
write-judged (some kind) receiver year month rows id moment lent =
    each-unless Small (is_rows kind receiver year month rows) 13 _ (few 13 0 (omega arith) (omega arith)) (λ e.
    each-unless Small (is_transaction_id id && is_moment moment) 12 _ (few 12 0 (omega arith) (omega arith)) (λ f.
    each-short Small 1 (length (message_bytes (rows_message kind receiver year month rows id moment))) lent (few 10 1 (omega arith) (omega arith))))

pub write-small : {kind receiver year month : ℕ} {rows id moment before after : List ℕ} {r : Result ℕ Refused} → WriteCalled kind receiver year month rows id moment before after r → SmallReply (said r)
unfolding write_answer
write-small {kind} {receiver} {year} {month} {rows} {id} {moment} {before} w =
    small-by (write_refusal (kind_numbered kind) receiver year month rows id moment (length before)) _ (write-judged (kind_numbered kind) receiver year month rows id moment (length before)) w.answer

-- reading: 13 and 10
read-judged : (x : Res Message) (lent : ℕ) → AllSmall (read_refusal x lent)
unfolding read_refusal
read-judged bad lent = few 13 0 (omega arith) (omega arith)
read-judged (got m rest) lent = each-short Small 0 (6 * length m.rows) lent (few 10 0 (omega arith) (omega arith))

pub read_small : (file : List ℕ) (lent : ℕ) {r : Result FileFacts Refusal} → r ≡ read_answer file lent → SmallReply r
unfolding read_answer
read_small file lent e = small-by (read_refusal (read_message file) lent) _ (read-judged (read_message file) lent) e

pub facts-small : (lent : ℕ) (r : Result FileFacts Refusal) → SmallReply r → SmallReply (with_facts lent r)
unfolding with_facts
facts-small lent (Ok f) h = go (leb 8 lent)
  where
    go : (t : Bool) → SmallReply (cond t (Ok f) (Err (record { number = 10; item = 1 })))
    go true = tt
    go false = few 10 1 (omega arith) (omega arith)
facts-small lent (Err r) h = h
