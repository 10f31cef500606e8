-- The days of the engagements passed have come to those before.
use mathlib.Core.Path.{refl, ap, ◌∙◌}
use Prim.Native.Nat.{◌<◌}
use native.Mathlib.Omega.{arith}
use lib.ListN.{length, length-set}
use Rattle.book.specs.declared.Engagement.{Engagement}
use Rattle.settlement.specs.DaysLaws.{gathers-none, gathers-more, gathers-all}
use Rattle.settlement.proofs.days.gather_days.Goals as goal

pub loop-i-init : goal.loop-i-init
loop-i-init c = (refl, gathers-none _ _)

pub loop-i-preserved : goal.loop-i-preserved
loop-i-preserved c =
    let l = c.loop-i in
    let e = c.engagement_at-e in
    let inside : e.result.point < length l.engaged = omega (arith, ap (λ (e : Engagement). e.point) e.ensures, c.requires.point l.i (omega arith), l.invariant.0) in (
      length-set l.engaged e.result.point c.with_day.result ∙ l.invariant.0,
      gathers-more _ _ _ l.i e.result c.with_day.result (omega arith) e.ensures l.invariant.0 (omega (arith, inside, l.invariant.0)) c.with_day.ensures l.invariant.1,
    )

pub returns : goal.returns
returns c = gathers-all _ _ _ c.loop-i.i (omega arith) c.loop-i.invariant.1
