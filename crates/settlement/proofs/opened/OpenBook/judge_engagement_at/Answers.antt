-- What is shown of the engagement is the book's, so what it lacks is what the definitions say.
use mathlib.Core.Path.{◌≡◌, ap, ◌∙◌}
use mathlib.Core.Option.{Option, none, some}
use Prim.Native.Nat.{ℕ}
use borrow.Author.Rules.{rules}
use Rattle.std.specs.Prelude.{Result, Ok, Err, MatchResult, IsErrAnd}
use Rattle.refusals.specs.declared.Refused.{Refused}
use Rattle.refusals.specs.Sent.{sent_back}
use Rattle.refusals.specs.SentInner.{refusal_in}
use Rattle.volumes.specs.Settlement.{refusal_number, row_refusal}
use Rattle.baseline.specs.declared.judge.Lack.{Lack}
use Rattle.baseline.specs.declared.judge.Lack.TheVariants.{Reading, Days}
use Rattle.baseline.specs.NeedsInner.{number_of}
use Rattle.settlement.specs.OpenedInner.{book_in}
use Rattle.settlement.specs.RefusedInner.{lack_at}
use Rattle.settlement.proofs.opened.OpenBook.judge_engagement_at.Goals as goal

judged : (r : Result (Unit {0}) Lack) (sent : Result (Unit {0}) Refused) (i : ℕ) → MatchResult r (λ _. sent ≡ Ok tt) (λ lack. IsErrAnd sent (λ e. sent_back e ≡ lack_at lack i)) → refusal_in sent ≡ row_refusal i (number_of r) none
unfolding row_refusal
judged (Ok _) sent i h = ap refusal_in h
judged (Err Reading) (Err e) i h = ap some h
judged (Err Days) (Err e) i h = ap some h
judged (Err Reading) (Ok _) i h = absurd h
judged (Err Days) (Ok _) i h = absurd h

pub returns : goal.returns
returns c =
    judged c.judge.result c.map_err.result c.args.i (search rules)
    ∙ ap (λ (o : Option ℕ). row_refusal c.args.i o none) (c.judge.ensures _ c.case_at.ensures.0 ∙ ap (refusal_number (book_in c.args.self.now)) c.case_at.ensures.1)
