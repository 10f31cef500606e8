-- The book's own refusal comes first, then those of its engagements.
use mathlib.Core.Path.{◌≡◌, sym, ap, ◌∙◌}
use borrow.Author.Rules.{rules}
use Rattle.std.specs.Prelude.{Err}
use Rattle.refusals.specs.SentInner.{refusal_in}
use Rattle.volumes.specs.Settlement.{settlement_refusal}
use Rattle.settlement.specs.VerdictsLaws.{book-refused, book-passed}
use Rattle.settlement.proofs.judge.judge_settlement.Goals as goal

pub returns-in_err-judge_book : goal.returns-in_err-judge_book
returns-in_err-judge_book c =
    let same : c.from_residual.result ≡ Err c.in_err-judge_book.field-0.0 = search rules in
    ap refusal_in same ∙ book-refused c.args.book.now _ (ap refusal_in (sym c.in_err-judge_book.was) ∙ c.judge_book.ensures)

pub of-requires : goal.of-requires
of-requires c = sym c.judge_book.ensures ∙ ap refusal_in c.in_ok-judge_book.was

pub returns : goal.returns
returns c =
    c.judge.ensures
    ∙ ap settlement_refusal c.of.ensures.whole
    ∙ book-passed c.args.book.now (sym c.judge_book.ensures ∙ ap refusal_in c.in_ok-judge_book.was)
