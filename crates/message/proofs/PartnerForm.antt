-- The format of a partner, of each kind.
use Rattle.std.specs.Prelude.{◌≡◌, refl, true, ℕ, ◌≤◌, ◌<◌, length}
use Rattle.std.proofs.Common.{sym, arith}
use Rattle.std.proofs.Math.Path.{ap, subst}
use mathlib.Core.List.{List, [], ◌∷◌, ◌++◌, append_assoc, append-nil, flat_map, map}
use Rattle.integers.specs.All.{All}
use Rattle.text.specs.Decimal.{fixed, plain}
use Rattle.formats.specs.Format.{Format}
use Rattle.formats.specs.Words.{word_at, words}
use Rattle.formats.specs.Combine.{pre, post, seq, seq_by, Recast, recast}
use Rattle.formats.specs.Exactly.{fixed_digits}
use Rattle.kinds.specs.declared.Kind.{Kind}
use Rattle.kinds.specs.declared.Kind.TheVariants.{Toe01, Toe02, Toe03}
use Rattle.message.specs.Contents.{TimeSeries, Partner}
use Rattle.message.specs.Bytes.{opening, ending, closing, group, partner, digits, supplies, supply_bytes, supply_of, in_series, with_partner, series_bytes, partner_bytes}
use Rattle.message.specs.Valid.{month_of, IsSeries, OneSupply, IsPartner}
use Rattle.message.proofs.SeriesForm.{counted, counted-to, counted-from, apart-supplies, own_series, Supplied, shared_series}
use Rattle.message.proofs.SeriesListForm.{agree, series_list}
use Rattle.integers.proofs.AllLaws.{all_map}

-- a valid partner whose series are of the month that was seen
pub record Partnered (k : Kind) (seen : ℕ × ℕ) (p : Partner) : Type 0 where
  pub is : IsPartner k p
  pub agrees : agree seen (map month_of p.series) ≡ true

-- ---- the supply direction in each time series (TOE01, TOE02)

pub record Own (k : Kind) : Type 0 where
  pub in_series : (b : List ℕ) → in_series k b ≡ b
  pub bare : (b : List ℕ) → with_partner k b ≡ []
  pub any : (l : List TimeSeries) → OneSupply k l

own-join : (g p n c d m e l f : List ℕ) → g ++ p ++ (n ++ (c ++ d) ++ (m ++ (60 ∷ []) ++ e ++ (l ++ f))) ≡ g ++ ((p ++ n ++ c) ++ [] ++ (d ++ m ++ (60 ∷ e)) ++ l) ++ f
own-join g p n c d m e l f = simp (append_assoc, append-nil)

module _ (k : Kind) (own : Own k) (seen : ℕ × ℕ) where
  abbrev pub own_list : ℕ → Format (List TimeSeries)
  own_list n = series_list (own_series k own.in_series) (series_bytes k) (λ s. refl) n seen

  unfoldable pub own_partner_body : Format (ℕ × (ℕ × List TimeSeries))
  own_partner_body =
      pre (opening (group k) ++ opening (partner k))
      (seq (post (fixed_digits (digits k)) (closing (partner k) ++ opening "DirectionCounter"))
      (seq_by (post counted (ending "DirectionCounter")) (λ n. post (own_list n) (closing (group k)))))

  pub own-partner-recast : Recast own_partner_body (Partnered k seen) (partner_bytes k) (λ p. record { number = p.0; series = p.1.1 }) (λ p. (p.number, (length p.series, p.series)))
  unfolding own_partner_body series_list partner_bytes closing
  own-partner-recast =
      record {
        to_ok = λ p ok.
            let l = ok.1.1 in
            record {
              is = record { number = ok.0; counted = counted-to p.1.0 (length p.1.1) ok.1.0 l.count; rising = l.rising; each = l.each; one = own.any p.1.1 };
              agrees = l.agrees;
            };
        from_ok = λ p ok.
            let i = ok.is in
            (i.number, (counted-from (length p.series) i.counted, record { count = refl; rising = i.rising; each = i.each; agrees = ok.agrees }));
        back = λ p ok. ap (λ (n : ℕ). (p.0, (n, p.1.1))) ok.1.1.count;
        forth = λ p ok. refl;
        same = λ p ok. rw own.bare
            (own-join (opening (group k)) (opening (partner k)) (fixed (digits k) p.number) (closing (partner k)) (opening "DirectionCounter") (plain (length p.series))
            (ending "DirectionCounter") (flat_map (series_bytes k) p.series) (closing (group k)));
      }

  unfoldable pub own_partner : Format Partner
  own_partner = recast own_partner_body (Partnered k seen) (partner_bytes k) (λ p. record { number = p.0; series = p.1.1 }) (λ p. (p.number, (length p.series, p.series))) own-partner-recast

-- ---- the supply direction with the access point (TOE03)

supply-is : (x : ℕ) (l : List TimeSeries) → All (Supplied x) l → 1 ≤ length l → supply_of l ≡ x
unfolding All supply_of
supply-is x [] a h = absurd (omega arith)
supply-is x (s ∷ l) a h = a.0.supply

one-supply : (x : ℕ) (l : List TimeSeries) → All (Supplied x) l → All (λ (s : TimeSeries). s.supply ≡ x) l
one-supply x l a = all_map (λ s h. h.supply) l a

supply-fits : (l : List TimeSeries) → All IsSeries l → 1 ≤ length l → supply_of l < 2
unfolding All supply_of
supply-fits [] a h = absurd (omega arith)
supply-fits (s ∷ l) a h = a.0.supply

to-supplied : (x : ℕ) (l : List TimeSeries) → All IsSeries l → All (λ (s : TimeSeries). s.supply ≡ x) l → All (Supplied x) l
unfolding All
to-supplied x [] a b = tt
to-supplied x (s ∷ l) a b = (record { supply = b.0; volume = a.0.volume }, to-supplied x l a.1 b.1)

from-supplied : (x : ℕ) → x < 2 → (l : List TimeSeries) → All (Supplied x) l → All IsSeries l
from-supplied x h l a = all_map (λ s i. let e = i.supply in record { supply = omega arith; volume = i.volume }) l a

shared-join : (g p n c o w b d m e l f : List ℕ)
    → g ++ p ++ (n ++ (c ++ o) ++ (w ++ (b ++ d) ++ (m ++ (60 ∷ []) ++ e ++ (l ++ f)))) ≡ g ++ ((p ++ n ++ c) ++ (o ++ w ++ b) ++ (d ++ m ++ (60 ∷ e)) ++ l) ++ f
shared-join g p n c o w b d m e l f = simp append_assoc

module _ (seen : ℕ × ℕ) where
  abbrev pub shared_list : ℕ → ℕ → Format (List TimeSeries)
  shared_list x n = series_list (shared_series x) (series_bytes Toe03) (λ s. refl) n seen

  unfoldable pub shared_partner_body : Format (ℕ × (ℕ × (ℕ × List TimeSeries)))
  shared_partner_body =
      pre (opening (group Toe03) ++ opening (partner Toe03))
      (seq (post (fixed_digits (digits Toe03)) (closing (partner Toe03) ++ opening "SupplyDirection"))
      (seq_by (post (words supplies apart-supplies) (closing "SupplyDirection" ++ opening "DirectionCounter"))
      (λ x. seq_by (post counted (ending "DirectionCounter")) (λ n. post (shared_list x n) (closing (group Toe03))))))

  shared-one : (p : ℕ × (ℕ × (ℕ × List TimeSeries))) → shared_partner_body.Ok p → supply_of p.1.1.1 ≡ p.1.0
  unfolding shared_partner_body series_list
  shared-one p ok =
      let l = ok.1.1.1 in
      supply-is p.1.0 p.1.1.1 l.each (counted-to p.1.1.0 (length p.1.1.1) ok.1.1.0 l.count).some

  shared-to : (p : ℕ × (ℕ × (ℕ × List TimeSeries))) → shared_partner_body.Ok p → Partnered Toe03 seen (record { number = p.0; series = p.1.1.1 })
  unfolding shared_partner_body series_list supplies
  shared-to p ok =
      let l = ok.1.1.1 in
      record {
        is = record {
          number = ok.0;
          counted = counted-to p.1.1.0 (length p.1.1.1) ok.1.1.0 l.count;
          rising = l.rising;
          each = from-supplied p.1.0 ok.1.0 p.1.1.1 l.each;
          one = subst (λ (x : ℕ). All (λ (s : TimeSeries). s.supply ≡ x) p.1.1.1) (sym (shared-one p ok)) (one-supply p.1.0 p.1.1.1 l.each);
        };
        agrees = l.agrees;
      }

  shared-from : (p : Partner) → Partnered Toe03 seen p → shared_partner_body.Ok (p.number, (supply_of p.series, (length p.series, p.series)))
  unfolding shared_partner_body series_list supplies
  shared-from p ok =
      let i = ok.is in
      let x = supply_of p.series in
      let each = to-supplied x p.series i.each i.one in
      let counter = counted-from (length p.series) i.counted in
      (i.number, (supply-fits p.series i.each i.counted.some, (counter, record { count = refl; rising = i.rising; each = each; agrees = ok.agrees })))

  shared_back : (p : ℕ × (ℕ × (ℕ × List TimeSeries))) → shared_partner_body.Ok p
      → ◌≡◌ {A = ℕ × (ℕ × (ℕ × List TimeSeries))} (p.0, (supply_of p.1.1.1, (length p.1.1.1, p.1.1.1))) p
  unfolding shared_partner_body series_list
  shared_back p ok =
      let a = shared-one p ok in
      let b = ok.1.1.1.count in
      λ i. (p.0, (a i, (b i, p.1.1.1)))

  shared-bytes : (p : Partner) → shared_partner_body.render (p.number, (supply_of p.series, (length p.series, p.series))) ≡ partner_bytes Toe03 p
  unfolding shared_partner_body series_list partner_bytes supply_bytes closing
  shared-bytes p =
      shared-join (opening (group Toe03)) (opening (partner Toe03)) (fixed (digits Toe03) p.number) (closing (partner Toe03)) (opening "SupplyDirection")
      (word_at supplies (supply_of p.series)) (closing "SupplyDirection") (opening "DirectionCounter") (plain (length p.series)) (ending "DirectionCounter")
      (flat_map (series_bytes Toe03) p.series) (closing (group Toe03))

  pub shared-partner-recast : Recast shared_partner_body (Partnered Toe03 seen) (partner_bytes Toe03) (λ p. record { number = p.0; series = p.1.1.1 })
      (λ p. (p.number, (supply_of p.series, (length p.series, p.series))))
  shared-partner-recast = record { to_ok = shared-to; from_ok = shared-from; back = shared_back; forth = λ p ok. refl; same = λ p ok. shared-bytes p }

  unfoldable pub shared_partner : Format Partner
  shared_partner =
      recast shared_partner_body (Partnered Toe03 seen) (partner_bytes Toe03) (λ p. record { number = p.0; series = p.1.1.1 })
      (λ p. (p.number, (supply_of p.series, (length p.series, p.series)))) shared-partner-recast

-- ---- of each kind

pub own-01 : Own Toe01
own-01 = record { in_series = λ b. refl; bare = λ b. refl; any = λ l. tt }

pub own-02 : Own Toe02
own-02 = record { in_series = λ b. refl; bare = λ b. refl; any = λ l. tt }

unfoldable pub partner_form : Kind → ℕ × ℕ → Format Partner
partner_form Toe01 seen = own_partner Toe01 own-01 seen
partner_form Toe02 seen = own_partner Toe02 own-02 seen
partner_form Toe03 seen = shared_partner seen

pub partner-bytes : (k : Kind) (seen : ℕ × ℕ) (p : Partner) → (partner_form k seen).render p ≡ partner_bytes k p
unfolding partner_form own_partner shared_partner
partner-bytes Toe01 seen p = refl
partner-bytes Toe02 seen p = refl
partner-bytes Toe03 seen p = refl

pub partner-to : (k : Kind) (seen : ℕ × ℕ) (p : Partner) → (partner_form k seen).Ok p → Partnered k seen p
unfolding partner_form own_partner shared_partner
partner-to Toe01 seen p ok = ok
partner-to Toe02 seen p ok = ok
partner-to Toe03 seen p ok = ok

pub partner-from : (k : Kind) (seen : ℕ × ℕ) (p : Partner) → Partnered k seen p → (partner_form k seen).Ok p
unfolding partner_form own_partner shared_partner
partner-from Toe01 seen p ok = ok
partner-from Toe02 seen p ok = ok
partner-from Toe03 seen p ok = ok
