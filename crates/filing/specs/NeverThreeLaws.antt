-- No call is refused with 3: every refusal has a number of the table, and that one is none of them.
use Rattle.std.specs.Prelude.{◌≡◌, ℕ, length, Err}
use Rattle.std.proofs.Common.{sym, ap, ◌∙◌, arith}
use Rattle.std.proofs.Math.Option.{Option, none, some}
use Rattle.refusals.specs.Refusals.{Refusal}
use Rattle.refusals.specs.RefusalsLaws.{Each}
use Rattle.refusals.specs.Sent.{says}
use Rattle.kinds.specs.Numbers.{kind_numbered}
use Rattle.quarters.specs.Quarters.{month_quarters}
use Rattle.book.specs.Book.{book_of}
use Rattle.volumes.specs.Settlement.{row_count, settling_refusal}
use Rattle.volumes.proofs.NumbersLaws.{Listed, settling-listed}
use Rattle.settlement.specs.declared.settle.Settled.TheVariants.{Refused as SettlingRefused}
use Rattle.settlement.specs.Calls.{settle_says, settle_answer}
use Rattle.reports.specs.Calls.{sheet_refusal, sheet_answer, text_of, file_refusal, file_answer}
use Rattle.reports.proofs.NumbersLaws.{sheet-listed, file-listed}
use Rattle.filing.specs.NeverThree.{NeverThree}

settling-not-three : (r : Option Refusal) (count number item : ℕ) → Each Listed r → SettlingRefused number item ≡ settle_says r count → number ≡ 3 → ⊥
unfolding settle_says
settling-not-three none count number item h e k = let z : ◌≡◌ {A = ℕ} 0 1 = cc in omega arith
settling-not-three (some r) count number item h e k = let same : r.number ≡ number = cc in h.not_three (same ∙ k)

answer-not-three : {A : Type 0} (o : Option Refusal) (count : A) (r : Refusal) → Each Listed o → Err r ≡ says o count → r.number ≡ 3 → ⊥
answer-not-three none count r h e k = let z : ◌≡◌ {A = ℕ} 0 1 = cc in omega arith
answer-not-three (some q) count r h e k = let same : r ≡ q = cc in h.not_three (sym (ap (λ (x : Refusal). x.number) same) ∙ k)

pub never-three : NeverThree
unfolding settle_answer sheet_answer file_answer
never-three =
    record {
      settlings = λ bytes before after number item c. settling-not-three (settling_refusal bytes (length before)) (row_count (book_of bytes)) number item (settling-listed bytes (length before)) c.answer;
      sheets = λ bytes party before after r c. answer-not-three (sheet_refusal bytes party (length before)) (month_quarters (book_of bytes).calendar) r (sheet-listed bytes party (length before)) c.answer;
      files = λ bytes kind receiver id moment rows_before rows_after before after r c.
          answer-not-three (file_refusal bytes kind receiver id moment (length rows_before) (length before)) (row_count (book_of bytes), length (text_of (book_of bytes) (kind_numbered kind) receiver id moment)) r
          (file-listed bytes kind receiver id moment (length rows_before) (length before)) c.answer;
    }
