-- The count is that of the engagements passed.
use mathlib.Core.Path.{sym, ap, ◌∙◌}
use Prim.Native.Nat.{ℕ, ◌+◌}
use Rattle.book.specs.declared.Engagement.{Engagement}
use Rattle.book.specs.Engagements.{engagement_at}
use Rattle.settlement.specs.PartsLaws.{count_none, count-more, count-all}
use native.Mathlib.Omega.{arith}
use borrow.Author.Rules.{rules}
use Rattle.settlement.proofs.settle.count_rows.Goals as goal

pub loop-i-init : goal.loop-i-init
loop-i-init c = (sym (count_none _), search rules)

pub loop-i-preserved : goal.loop-i-preserved
loop-i-preserved c =
    let a = c.args in
    let l = c.loop-i in
    let e = c.engagement_at in
    (ap (λ (g : Engagement). l.count + g.count) e.ensures ∙ ap (λ (n : ℕ). n + (engagement_at a.engagements.now l.i).count) l.invariant.0 ∙ sym (count-more a.engagements.now l.i (omega arith)), search rules)

pub returns : goal.returns
returns c = (c.loop-i.invariant.0 ∙ count-all c.args.engagements.now c.loop-i.i (omega arith), search rules)
