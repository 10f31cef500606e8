-- A sheet call that is not refused answers no more sums than it was lent.
use Rattle.std.specs.Prelude.{◌≡◌, List, ℕ, ◌≤◌, ℤ, length, Result, Ok, IfOk}
use Rattle.std.proofs.Common.{subst, arith}
use Rattle.std.proofs.Math.Option.{none}
use Rattle.refusals.specs.Refusals.{short}
use Rattle.refusals.specs.RefusalsLaws.{not-refused, not-later, not_short}
use Rattle.refusals.specs.Sent.{said}
use Rattle.refusals.specs.declared.Refused.{Refused}
use Rattle.refusals.proofs.SentLaws.{if-ok}
use Rattle.book.specs.Book.{book_of}
use Rattle.volumes.specs.Settlement.{book_refusal}
use Rattle.volumes.specs.Sheets.{parties}
use Rattle.reports.specs.Calls.{stands, sheet_refusal, sheet_answer, SheetCalled}
use Rattle.quarters.specs.Quarters.{month_quarters}

-- refusal 10 is where the sums are too short, so without a refusal they are long enough
room : (bytes : List ℕ) (party lent : ℕ) → sheet_refusal bytes party lent ≡ none → month_quarters (book_of bytes).calendar ≤ lent
unfolding sheet_refusal
room bytes party lent h =
    let n = month_quarters (book_of bytes).calendar in
    let there = not-later (book_refusal bytes) _ h in
    not_short 0 n lent (not-refused (stands party (parties (book_of bytes))) 11 (short 0 n lent) there).1

pub fits : (bytes : List ℕ) (party : ℕ) (lent left : List ℤ) (answer : Result ℕ Refused) (n : ℕ) → SheetCalled bytes party lent left (said answer) → length lent ≤ n → IfOk answer (λ count. count ≤ n)
unfolding sheet_answer
fits bytes party lent left answer n call h =
    if-ok answer (sheet_refusal bytes party (length lent)) (month_quarters (book_of bytes).calendar) (λ count. count ≤ n) call.answer (λ e. omega (arith, room bytes party (length lent) e))

pub sums-fit : (answer : Result ℕ Refused) (count n : ℕ) → answer ≡ Ok count → IfOk answer (λ sums. sums ≤ n) → count ≤ n
sums-fit answer count n e f = subst (λ (w : Result ℕ Refused). IfOk w (λ sums. sums ≤ n)) e f
