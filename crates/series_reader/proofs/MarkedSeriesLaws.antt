-- Laws about a reading of a partner's series that keeps a mark: one behind the other they are the list, and their rows are no more than their bytes.
-- They stand for whoever reads so; the reader itself goes by `Reads` and `Filled`; MarkedFilledLaws leads from what its contracts say to these.
use Rattle.std.specs.Prelude.{◌≡◌, Bool, true, false, ◌&&◌, ℕ, suc, ◌+◌, ◌-◌, ◌≤◌, ◌<◌, leb, length, drop, Option, Some, None}
use Rattle.std.proofs.Math.Path.{refl, ap}
use Rattle.std.proofs.Common.{sym, ◌∙◌, subst, add-one, arith}
use mathlib.Core.List.{List, ◌++◌, flat_map}
use Rattle.text.specs.Ascii.{bytes}
use Rattle.text.specs.Decimal.{plain}
use Rattle.formats.specs.Words.{word_at}
use Rattle.formats.specs.Format.{Res, got, bad, bind}
use Rattle.formats.specs.FormatLaws.{got-bad, sound-of}
use Rattle.formats.specs.Combine.{map_parse, only_parse}
use Rattle.formats.specs.Items.{items_parse}
use Rattle.formats.specs.Rising.{rise}
use Rattle.formats.proofs.RunLaws.{run_only, run-fail, run_none}
use Rattle.formats.proofs.MarksLaws.{Parsed}
use Rattle.kinds.specs.declared.Kind.{Kind}
use Rattle.kinds.specs.declared.Kind.TheVariants.{Toe01, Toe02, Toe03}
use Rattle.message.specs.Contents.{Observation, TimeSeries, place}
use Rattle.message.specs.Bytes.{opening, closing, element, deliveries, in_series, supply_bytes, observation_bytes, period_bytes, volume_bytes, series_bytes}
use Rattle.message.specs.Valid.{month_of}
use Rattle.message.specs.Months.{follows}
use Rattle.message.proofs.SeriesListForm.{following, series_list}
use Rattle.formats.proofs.MarksLaws.{keep}
use Rattle.series_reader.proofs.MarkedReadingInner.{Outline, outline, folded}
use Rattle.series_reader.proofs.MarkedItemsLaws.{run-same, only_same, viewed, view-bad, view-only, fold_parse, fold_end, fold-bad, fold_step, longer, longer-both, flat-long, read-long}
use Rattle.series_reader.proofs.MarkedSeriesInner.{series_form, series-bytes, item, place_in, joins, counting, list_form}

-- ---- a series of any kind

pub series-ok : (k : Kind) (x : ℕ) (s : TimeSeries) → x ≤ 1 → (series_form k x).Ok s → (s.supply ≤ 1) × (s.delivery ≤ 1)
unfolding series_form
series-ok Toe01 x s h ok = (omega (arith, ok.supply), omega (arith, ok.volume.delivery))
series-ok Toe02 x s h ok = (omega (arith, ok.supply), omega (arith, ok.volume.delivery))
series-ok Toe03 x s h ok = (omega (arith, ok.supply), omega (arith, ok.volume.delivery))

-- ---- its bytes are at least as many as its observations

observation-long : (o : Observation) → 1 ≤ length (observation_bytes o)
unfolding observation_bytes opening bytes
observation-long o = omega arith

volume-long : (s : TimeSeries) → length s.observations ≤ length (volume_bytes s)
unfolding volume_bytes
volume-long s =
    let n = length s.observations in
    let l = flat_map observation_bytes s.observations in
    let q = period_bytes s.year s.month in
    longer n (element "DeliveryDirection" (word_at deliveries s.delivery) ++ element "UnitType" (bytes "KWT") ++ element "ObservationCounter" (plain n))
    (element "TimeSeriesPeriod" (q ++ l))
    (longer-both n (opening "TimeSeriesPeriod") (q ++ l) (closing "TimeSeriesPeriod") (longer n q l (flat-long observation_bytes observation-long s.observations)))

pub series-long : (k : Kind) (s : TimeSeries) → length s.observations ≤ length (series_bytes k s)
unfolding series_bytes
series-long k s =
    let n = length s.observations in
    let w = in_series k (supply_bytes s.supply) in
    longer-both n (opening "ToETimeSeries") (w ++ volume_bytes s) (closing "ToETimeSeries") (longer n w (volume_bytes s) (volume-long s))

-- ---- one more series

-- what the one behind it is read with
abbrev pub onto : Kind → ℕ → ℕ × (ℕ × ℕ) → TimeSeries → ℕ × (ℕ × ℕ)
onto k x = rise (following (series_form k x) (series_bytes k) (series-bytes k x)) place (λ seen s. month_of s)

item-kept : (k : Kind) (x low : ℕ) (seen : ℕ × ℕ) (s : List ℕ)
    → only_parse (λ o. leb low (place_in o)) (only_parse (λ (o : Outline). follows seen o.1.0) (map_parse outline (series_form k x).parse)) s ≡ map_parse outline (item k x (low, seen)).parse s
item-kept k x low seen s =
    only_same (λ o. leb low (place_in o)) (only_parse (λ (o : Outline). follows seen o.1.0) (map_parse outline (series_form k x).parse))
    (map_parse outline (only_parse (λ t. follows seen (month_of t)) (series_form k x).parse)) (λ q. view-only outline (series_form k x).parse q (λ o. follows seen o.1.0)) s
    ∙ view-only outline (only_parse (λ t. follows seen (month_of t)) (series_form k x).parse) s (λ o. leb low (place_in o))

joined : (k : Kind) (x low : ℕ) (seen : ℕ × ℕ) (s : List ℕ) (m r : Option ℕ) (o : Outline) → Parsed (map_parse outline (series_form k x).parse) s m r o
    → Parsed (map_parse outline (item k x (low, seen)).parse) s m (keep (joins low seen (place_in o) o.1.0) r) o
joined k x low seen s m r o h = go (leb low (place_in o)) refl (follows seen o.1.0) refl
  where
    go : (a : Bool) → leb low (place_in o) ≡ a → (b : Bool) → follows seen o.1.0 ≡ b → Parsed (map_parse outline (item k x (low, seen)).parse) s m (keep (a && b) r) o
    go true e true f = record { run = run-same (item-kept k x low seen) (run_only (λ o. leb low (place_in o)) (run_only (λ (o : Outline). follows seen o.1.0) h.run f) e); within = h.within }
    go false e true f = record { run = run-same (item-kept k x low seen) (run-fail (λ o. leb low (place_in o)) (run_only (λ (o : Outline). follows seen o.1.0) h.run f) e); within = tt }
    go true e false f = record { run = run-same (item-kept k x low seen) (run_none (λ o. leb low (place_in o)) (run-fail (λ (o : Outline). follows seen o.1.0) h.run f)); within = tt }
    go false e false f = record { run = run-same (item-kept k x low seen) (run_none (λ o. leb low (place_in o)) (run-fail (λ (o : Outline). follows seen o.1.0) h.run f)); within = tt }

-- where there was none there is none
joined-no : (k : Kind) (x low : ℕ) (seen : ℕ × ℕ) (s : List ℕ) (m : Option ℕ) (o : Outline) → Parsed (map_parse outline (series_form k x).parse) s m None o
    → Parsed (map_parse outline (item k x (low, seen)).parse) s m None o
joined-no k x low seen s m o h = record { run = run-same (item-kept k x low seen) (run_none (λ o. leb low (place_in o)) (run_none (λ (o : Outline). follows seen o.1.0) h.run)); within = tt }

-- directions are 0 or 1
pub directions : (k : Kind) (x : ℕ) (s : List ℕ) (m : Option ℕ) (q : ℕ) (o : Outline) → x ≤ 1 → Parsed (map_parse outline (series_form k x).parse) s m (Some q) o → (o.0.0 ≤ 1) × (o.0.1 ≤ 1)
directions k x s None q o h p = absurd (got-bad (sym p.run.run))
directions k x s (Some n) q o h p =
    let a = viewed outline (series_form k x).parse (drop n s) o (drop q s) p.run.run in
    let ok = series-ok k x a.0 h (sound-of (series_form k x) (drop n s) a.0 (drop q s) a.1.0).1 in
    subst (λ (v : Outline). (v.0.0 ≤ 1) × (v.0.1 ≤ 1)) a.1.1 ok

-- the test of a series that is there
pub next-kept : (k : Kind) (x low : ℕ) (seen : ℕ × ℕ) (s : List ℕ) (m r : Option ℕ) (o : Outline) (t : Bool) → x ≤ 1
    → ((o.0.0 ≤ 1) × (o.0.1 ≤ 1) → t ≡ joins low seen (place_in o) o.1.0) → Parsed (map_parse outline (series_form k x).parse) s m r o
    → Parsed (map_parse outline (item k x (low, seen)).parse) s m (keep t r) o
next-kept k x low seen s m (Some q) o t h e p = rw (e (directions k x s m q o h p)) (joined k x low seen s m (Some q) o p)
next-kept k x low seen s m None o true h e p = joined-no k x low seen s m o p
next-kept k x low seen s m None o false h e p = joined-no k x low seen s m o p

-- ---- so many series

-- what is kept of n series, from place low on
module _ (k : Kind) (x : ℕ) where
  unfoldable pub list_kept : ℕ → ℕ → (ℕ × ℕ) × ℕ → List ℕ → Res ((ℕ × ℕ) × ℕ)
  list_kept n low t s = fold_parse (item k x) (onto k x) counting n (low, t.0) t s

  pub list-start : (n : ℕ) (t : (ℕ × ℕ) × ℕ) (s : List ℕ) → map_parse (folded counting t) (list_form k x n t.0).parse s ≡ list_kept n 0 t s
  unfolding list_kept list_form series_list fold_parse map_parse
  list-start n t s = go (items_parse (item k x) (onto k x) n (0, t.0) s)
    where
      go : (y : Res (List TimeSeries)) → bind (bind (bind y (λ l q. got l q)) (λ l q. got l q)) (λ l q. got (folded counting t l) q) ≡ bind y (λ l q. got (folded counting t l) q)
      go bad = refl
      go (got l q) = refl

  module _ (n i low : ℕ) (t : (ℕ × ℕ) × ℕ) (s : List ℕ) where
    pub list-end : n ≤ i → list_kept (n - i) low t s ≡ got t s
    unfolding list_kept
    list-end h = fold_end (item k x) (onto k x) counting n i (low, t.0) t s h

    pub list-bad : i < n → map_parse outline (item k x (low, t.0)).parse s ≡ bad → list_kept (n - i) low t s ≡ bad
    unfolding list_kept
    list-bad h e = fold-bad (item k x) (onto k x) counting n i (low, t.0) t s h (view-bad outline (item k x (low, t.0)).parse s e)

    pub list-step : (o : Outline) (r : List ℕ) → i < n → map_parse outline (item k x (low, t.0)).parse s ≡ got o r
        → list_kept (n - i) low t s ≡ list_kept (n - (i + 1)) (place_in o + 1) (o.1.0, t.1 + o.1.1) r
    unfolding list_kept
    list-step o r h e =
        let a = viewed outline (item k x (low, t.0)).parse s o r e in
        fold_step (item k x) (onto k x) counting n i (low, t.0) t s a.0 r h a.1.0
        ∙ ap (λ (v : Outline). fold_parse (item k x) (onto k x) counting (n - (i + 1)) (suc (place_in v), v.1.0) (v.1.0, t.1 + v.1.1) r) a.1.1
        ∙ ap (λ (l : ℕ). fold_parse (item k x) (onto k x) counting (n - (i + 1)) (l, o.1.0) (o.1.0, t.1 + o.1.1) r) (sym (add-one (place_in o)))

  -- rows are no more than bytes
  pub item-long : (low : ℕ) (seen : ℕ × ℕ) (s : List ℕ) (p q : ℕ) (o : Outline) → p ≤ length s
      → Parsed (map_parse outline (item k x (low, seen)).parse) s (Some p) (Some q) o → p + o.1.1 ≤ q
  item-long low seen s p q o h r =
      let a = viewed outline (item k x (low, seen)).parse (drop p s) o (drop q s) r.run.run in
      let l = read-long (item k x (low, seen)) s p q a.0 h r.within a.1.0 in
      let e = ap length (series-bytes k x a.0) in
      let f = ap (λ (v : Outline). v.1.1) a.1.1 in
      omega (arith, l, e, f, series-long k a.0)
