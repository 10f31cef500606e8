-- Refused, the rows are as they were; accepted and with room, they are filled.
use mathlib.Core.Path.{◌≡◌, sym, ap, ◌∙◌}
use mathlib.Core.List.{List}
use mathlib.Core.Option.{none}
use lib.IntN.{ℤ}
use lib.Seq.{sets}
use Prim.Native.Nat.{ℕ}
use borrow.Author.Rules.{rules}
use native.Mathlib.Omega.{arith}
use Rattle.std.specs.Prelude.{Result, Ok, Err}
use Rattle.refusals.specs.declared.Refused.{Refused}
use Rattle.refusals.specs.Sent.{sent_back}
use Rattle.refusals.specs.SentInner.{refusal_in}
use Rattle.book.specs.Book.{Book, book_of}
use Rattle.book.specs.Judged.{refusal_of}
use Rattle.volumes.specs.Settlement.{row_count, rows, settlement_refusal, book_refusal}
use Rattle.settlement.specs.CallsInner.{RowsSent}
use Rattle.settlement.specs.CallsLaws.{sent-refused, sent-short, sent-filled}
use Rattle.settlement.specs.VerdictsLaws.{book-refused, book-passed}
use Rattle.settlement.proofs.settle.settle_rows.Goals as goal

-- what judging answered is what is sent
sent : {bytes : List ℕ} {lent : List ℤ} {r : Result (Unit {0}) Refused} {e : Refused} → r ≡ Err e → refusal_in r ≡ book_refusal bytes → RowsSent bytes lent lent (Err (sent_back e))
sent {bytes} {lent} {e = e} p q = sent-refused bytes lent (sent_back e) (ap refusal_in (sym p) ∙ q)

-- the book's refusal where it passes refusals 1 to 7, and judging by engagement is passed
passed : (bytes : List ℕ) {r : Result (Unit {0}) Refused} {u : Unit {0}} → r ≡ Ok u → refusal_in r ≡ refusal_of bytes → refusal_of bytes ≡ none
passed bytes p q = sym q ∙ ap refusal_in p

judged : (bytes : List ℕ) {book : Book} (r : Result (Unit {0}) Refused) → refusal_of bytes ≡ none → book ≡ book_of bytes → refusal_in r ≡ settlement_refusal book → refusal_in r ≡ book_refusal bytes
judged bytes r p e q = q ∙ ap settlement_refusal e ∙ book-passed bytes p

pub of-opened-requires : goal.of-opened-requires
of-opened-requires c = passed c.args.book.now c.in_ok-judge_book.was c.judge_book.ensures

pub returns-in_err-judge_book : goal.returns-in_err-judge_book
returns-in_err-judge_book c =
    let same : c.from_residual.result ≡ Err c.in_err-judge_book.field-0.0 = search rules in
    rw same (sent-refused c.args.book.now c.args.out.now _ (book-refused c.args.book.now _ (ap refusal_in (sym c.in_err-judge_book.was) ∙ c.judge_book.ensures)))

pub returns-in_err-judge : goal.returns-in_err-judge
returns-in_err-judge c =
    let same : c.from_residual-in_err-judge.result ≡ Err c.in_err-judge.field-0.0 = search rules in
    rw same (sent c.in_err-judge.was (judged c.args.book.now c.judge.result (passed c.args.book.now c.in_ok-judge_book.was c.judge_book.ensures) c.of-opened.ensures.whole c.judge.ensures))

pub row_count-count-requires : goal.row_count-count-requires
row_count-count-requires c = passed c.args.book.now c.in_ok-judge_book.was c.judge_book.ensures

pub returns-then-out-count : goal.returns-then-out-count
returns-then-out-count c =
    let good = sym (judged c.args.book.now c.judge.result (passed c.args.book.now c.in_ok-judge_book.was c.judge_book.ensures) c.of-opened.ensures.whole c.judge.ensures) ∙ ap refusal_in c.in_ok-judge.was in
    sent-short c.args.book.now c.args.out.now good (omega (arith, c.row_count-count.ensures.0))

pub settle-requires : goal.settle-requires
settle-requires c =
    let whole = c.of-opened.ensures.whole in
    (sym c.judge.ensures ∙ ap refusal_in c.in_ok-judge.was, omega (arith, ap row_count whole, c.row_count-count.ensures.0))

pub returns : goal.returns
returns c =
    let good = sym (judged c.args.book.now c.judge.result (passed c.args.book.now c.in_ok-judge_book.was c.judge_book.ensures) c.of-opened.ensures.whole c.judge.ensures) ∙ ap refusal_in c.in_ok-judge.was in
    let n = c.row_count-count.ensures.0 in
    sent-filled c.args.book.now c.args.out.now c.row_count-count.result c.settle.new.out good (omega (arith, n)) n (c.settle.ensures ∙ ap (λ (b : Book). sets c.args.out.now 0 (rows b)) c.of-opened.ensures.whole)
