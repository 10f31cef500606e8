-- The days from A - 1 down to the present one have been scanned, and those that are eligible are ranked.
use Rattle.std.proofs.Common.{refl, sym, ap, ◌∙◌, arith, take, drop, drop-drop, length-take, length-take-le, ◌+◌, ◌-◌, ◌≡◌, ℕ, List}
use Rattle.baseline.specs.ShownLaws.{stands}
use Rattle.baseline.specs.RanksLaws.{scan-start, scan-yes, scan-no, scan-full, scan-few}
use Rattle.baseline.proofs.case.Case.fill_ranking.Goals as goal

-- what stays from a place on stays from the next one on
further : (n : ℕ) (a b : List ℕ) → drop n a ≡ drop n b → drop (n + 1) a ≡ drop (n + 1) b
further n a b e = sym (drop-drop 1 n a) ∙ ap (drop 1) e ∙ drop-drop 1 n b

pub loop-day-init : goal.loop-day-init
loop-day-init c = (refl, omega arith, c.requires, (λ b shows. scan-start b c.args.self.now.shown.e), refl)

pub returns-then-ranking-y-clause-ranked : goal.returns-then-ranking-y-clause-ranked
returns-then-ranking-y-clause-ranked c = λ b shows.
    let case = c.args.self.now in
    let r = c.loop-day.ranking in
    scan-full b case.shown.e c.loop-day.day case.shown.y (take r.found r.keys) (c.loop-day.invariant.3 b shows) c.loop-day.auto.day
    (length-take-le r.found r.keys (omega (arith, c.loop-day.invariant.2, case.fits.x_of_y.twenty, c.if-ranking-y.true)) ∙ c.if-ranking-y.true)

pub loop-day-preserved-in-Some : goal.loop-day-preserved-in-Some
loop-day-preserved-in-Some c =
    let case = c.args.self.now in
    let next : c.loop-day.day ≡ c.loop-day.day - 1 + 1 = omega arith in (
      refl,
      omega (arith, c.loop-day.invariant.1, c.if-ranking-y.false, c.put.ensures.found),
      c.put.ensures.room ∙ c.loop-day.invariant.2,
      (λ b shows. scan-yes (c.loop-day.invariant.3 b shows) next c.loop-day.auto.day c.in-Some.sum _ (omega (arith, (stands _ _ _ case.fits).early)) (c.in-Some.ensures.refers b shows) c.put.ensures.keys),
      c.put.ensures.behind ∙ rw c.put.ensures.found (further c.loop-day.ranking.found _ _ c.loop-day.invariant.4),
    )

pub loop-day-preserved : goal.loop-day-preserved
loop-day-preserved c =
    let case = c.args.self.now in
    let next : c.loop-day.day ≡ c.loop-day.day - 1 + 1 = omega arith in (
      refl,
      omega (arith, c.loop-day.invariant.1),
      c.loop-day.invariant.2,
      (λ b shows. scan-no (c.loop-day.invariant.3 b shows) next c.loop-day.auto.day (c.in_default.ensures.refers b shows)),
      c.loop-day.invariant.4,
    )

pub returns-clause-ranked : goal.returns-clause-ranked
returns-clause-ranked c = λ b shows.
    let case = c.args.self.now in
    let r = c.loop-day.ranking in
    let end : c.loop-day.day ≡ 0 = omega arith in
    scan-few b case.shown.e case.shown.y (take r.found r.keys) (rw end at (c.loop-day.invariant.3 b shows)) (omega (arith, length-take r.found r.keys, c.loop-day.invariant.1, c.loop-day.invariant.0))
