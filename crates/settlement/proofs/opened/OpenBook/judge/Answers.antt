-- Engagements passed lack nothing: the book's refusal is the first from the present one on.
use mathlib.Core.Path.{◌≡◌, refl, sym, ap, ◌∙◌}
use mathlib.Core.Option.{Option, none, some}
use mathlib.Core.List.{List}
use Prim.Native.Nat.{ℕ, ◌+◌, ◌<◌}
use Rattle.std.specs.Prelude.{Result, Ok, Err}
use Rattle.refusals.specs.Refusals.{Refusal, or_else}
use Rattle.refusals.specs.declared.Refused.{Refused}
use Rattle.refusals.specs.SentInner.{refusal_in}
use Rattle.book.specs.Engagements.{engagement_at}
use Rattle.volumes.specs.Settlement.{refusal_number, row_refusal, settlement_refusal}
use Rattle.volumes.proofs.SettlementLaws.{refusal_at, refusal-all}
use Rattle.settlement.specs.SectionsInner.{engagement_count_in, book_with, Opened}
use Rattle.settlement.specs.DrawnLaws.{refusal-row, refusal-last}
use native.Mathlib.Omega.{arith}
use borrow.Author.Rules.{rules}
use Rattle.settlement.proofs.opened.OpenBook.judge.Goals as goal

-- what a row is refused for comes before what comes later
row-first : (i : ℕ) (number : Option ℕ) (later : Option Refusal) → row_refusal i number later ≡ or_else (row_refusal i number none) later
unfolding row_refusal or_else
row-first i none later = refl
row-first i (some n) later = refl

-- the book's refusal by what judging the present engagement answers
judged : {bytes engagements : List ℕ} {i : ℕ} (r : Result (Unit {0}) Refused) → Opened bytes engagements → i < engagement_count_in engagements
    → settlement_refusal (book_with bytes engagements) ≡ refusal_at (book_with bytes engagements) i
    → refusal_in r ≡ row_refusal i (refusal_number (book_with bytes engagements) (engagement_at engagements i)) none
    → settlement_refusal (book_with bytes engagements) ≡ or_else (refusal_in r) (refusal_at (book_with bytes engagements) (i + 1))
judged {bytes} {engagements} {i} r s h past e =
    past ∙ refusal-row s i h ∙ row-first i _ _ ∙ ap (λ (o : Option Refusal). or_else o (refusal_at (book_with bytes engagements) (i + 1))) (sym e)

passed : {r : Result (Unit {0}) Refused} {u : Unit {0}} {x : Option Refusal} (later : Option Refusal) → r ≡ Ok u → x ≡ or_else (refusal_in r) later → x ≡ later
unfolding or_else
passed later e h = h ∙ ap (λ r. or_else (refusal_in r) later) e

stopped : {r : Result (Unit {0}) Refused} {e : Refused} {x : Option Refusal} (later : Option Refusal) → r ≡ Err e → x ≡ or_else (refusal_in r) later → refusal_in r ≡ x
unfolding or_else
stopped later e h = ap refusal_in e ∙ sym (h ∙ ap (λ r. or_else (refusal_in r) later) e)

pub loop-i-init : goal.loop-i-init
loop-i-init c = refusal-all _

pub loop-i-preserved : goal.loop-i-preserved
loop-i-preserved c =
    passed _ c.in_ok-judge_engagement_at.was (judged _ c.args.self.now.opened (omega arith) c.loop-i.invariant c.judge_engagement_at.ensures)

pub returns-in_err-judge_engagement_at : goal.returns-in_err-judge_engagement_at
returns-in_err-judge_engagement_at c =
    ap refusal_in (search rules)
    ∙ stopped _ c.in_err-judge_engagement_at.was (judged _ c.args.self.now.opened (omega arith) c.loop-i.invariant c.judge_engagement_at.ensures)

pub returns : goal.returns
returns c = sym (c.loop-i.invariant ∙ refusal-last c.args.self.now.opened c.loop-i.i (omega arith))
