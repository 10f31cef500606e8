-- Months seen one after the other are all the same where each is like the one before it.
use Rattle.std.specs.Prelude.{◌≡◌, refl, Bool, true, ◌&&◌, ℕ, ◌≤◌, eqb}
use Rattle.std.proofs.Common.{sym, ap, ◌∙◌, subst, arith, eq-eqb, ne_eqb, eqb-true}
use Rattle.std.proofs.Math.Bool.{and_assoc, or-true}
use mathlib.Core.List.{List, [], ◌∷◌, ◌++◌, flat_map, map}
use Rattle.integers.proofs.TestsLaws.{and_left, and_right, and_both}
use Rattle.integers.specs.All.{All}
use Rattle.formats.specs.Items.{ItemsOk}
use Rattle.kinds.specs.declared.Kind.{Kind}
use Rattle.message.specs.Contents.{TimeSeries, Partner}
use Rattle.message.specs.Valid.{month_of, periods, first_of, IsSeries, IsPartner}
use Rattle.message.specs.Months.{follows, after}
use Rattle.message.proofs.SeriesListForm.{agree}
use Rattle.message.proofs.PartnerForm.{partner_form, partner-to, partner-from}
use Rattle.integers.proofs.AllLaws.{all_append}
use Rattle.message.specs.Months.{next_months}

pub agree-append : (seen : ℕ × ℕ) (l m : List (ℕ × ℕ)) → agree seen (l ++ m) ≡ (agree seen l && agree (after seen l) m)
unfolding agree after
agree-append seen [] m = refl
agree-append seen (q ∷ l) m = ap (λ (b : Bool). follows seen q && b) (agree-append q l m) ∙ sym (and_assoc (follows seen q) (agree q l) (agree (after q l) m))

-- a month that follows one that was seen is that one
pub follows_same : (seen q : ℕ × ℕ) → (seen.0 ≡ 0 → ⊥) → follows seen q ≡ true → q ≡ seen
unfolding follows
follows_same seen q n e =
    let f : (eqb q.0 seen.0 && eqb q.1 seen.1) ≡ true = rw (ne_eqb seen.0 0 n) at e in
    let y = eqb-true q.0 seen.0 (and_left (eqb q.0 seen.0) (eqb q.1 seen.1) f) in
    let m = eqb-true q.1 seen.1 (and_right (eqb q.0 seen.0) (eqb q.1 seen.1) f) in
    λ i. (y i, m i)

pub same-follows : (seen q : ℕ × ℕ) → q ≡ seen → follows seen q ≡ true
unfolding follows
same-follows seen q e =
    rw (eq-eqb q.0 seen.0 (ap (λ (p : ℕ × ℕ). p.0) e), eq-eqb q.1 seen.1 (ap (λ (p : ℕ × ℕ). p.1) e)) (or-true (eqb seen.0 0))

pub agree_same : (seen : ℕ × ℕ) (l : List (ℕ × ℕ)) → (seen.0 ≡ 0 → ⊥) → agree seen l ≡ true → All (λ q. q ≡ seen) l
unfolding agree All
agree_same seen [] n e = tt
agree_same seen (q ∷ l) n e =
    let f = follows_same seen q n (and_left (follows seen q) (agree q l) e) in
    (f, agree_same seen l n (subst (λ (p : ℕ × ℕ). agree p l ≡ true) f (and_right (follows seen q) (agree q l) e)))

pub same-agree : (seen : ℕ × ℕ) (l : List (ℕ × ℕ)) → All (λ q. q ≡ seen) l → agree seen l ≡ true
unfolding agree All
same-agree seen [] a = refl
same-agree seen (q ∷ l) a =
    and_both (same-follows seen q a.0) (subst (λ (p : ℕ × ℕ). agree p l ≡ true) (sym a.0) (same-agree seen l a.1))

-- from the start: all are the first
pub one-month : (l : List (ℕ × ℕ)) → All (λ q. 2018 ≤ q.0) l → agree (0, 0) l ≡ true → All (λ q. q ≡ first_of l) l
unfolding agree All first_of
one-month [] v e = tt
one-month (q ∷ l) v e = (refl, agree_same q l (λ z. omega (arith, v.0)) (and_right (follows (0, 0) q) (agree q l) e))

pub month-one : (l : List (ℕ × ℕ)) → All (λ q. q ≡ first_of l) l → agree (0, 0) l ≡ true
unfolding agree All first_of follows
month-one [] a = refl
month-one (q ∷ l) a = same-agree q l a.1

-- ---- the months of partners

series-years : (l : List TimeSeries) → All IsSeries l → All (λ q. 2018 ≤ q.0) (map month_of l)
unfolding All
series-years [] a = tt
series-years (s ∷ l) a = (a.0.volume.period.from, series-years l a.1)

pub years : (k : Kind) (l : List Partner) → All (IsPartner k) l → All (λ q. 2018 ≤ q.0) (periods l)
unfolding All periods flat_map
years k [] a = tt
years k (p ∷ l) a = all_append (λ q. 2018 ≤ q.0) (map month_of p.series) (periods l) (series-years p.series a.0.each) (years k l a.1)

pub months-to : (k : Kind) (seen : ℕ × ℕ) (l : List Partner) → ItemsOk (partner_form k) next_months seen l → All (IsPartner k) l × (agree seen (periods l) ≡ true)
unfolding ItemsOk All periods flat_map agree
months-to k seen [] ok = (tt, refl)
months-to k seen (p ∷ l) ok =
    let h = partner-to k seen p ok.0 in
    let r = months-to k (next_months seen p) l ok.1 in
    ((h.is, r.0), agree-append seen (map month_of p.series) (periods l) ∙ and_both h.agrees r.1)

pub months-from : (k : Kind) (seen : ℕ × ℕ) (l : List Partner) → All (IsPartner k) l → agree seen (periods l) ≡ true → ItemsOk (partner_form k) next_months seen l
unfolding ItemsOk All periods flat_map agree
months-from k seen [] a e = tt
months-from k seen (p ∷ l) a e =
    let f = sym (agree-append seen (map month_of p.series) (periods l)) ∙ e in (
      partner-from k seen p (record { is = a.0; agrees = and_left (agree seen (map month_of p.series)) (agree (next_months seen p) (periods l)) f }),
      months-from k (next_months seen p) l a.1 (and_right (agree seen (map month_of p.series)) (agree (next_months seen p) (periods l)) f),
    )
