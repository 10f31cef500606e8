-- Laws about a reading that keeps a mark, a place that may be missing: from a file's tags and numbers up to a series, the parts that end at a mark are the form that ends there.
-- They stand for whoever reads so; the reader itself goes by `Reads` and `Filled`; MarkedFilledLaws leads from what its contracts say to these.
use Rattle.std.specs.Prelude.{◌≡◌, Bool, true, false, ◌&&◌, ℕ, ◌+◌, ◌-◌, ◌*◌, ◌≤◌, ◌<◌, leb, take, Option, Some, None}
use Rattle.std.proofs.Math.Path.{refl, ap, subst}
use Rattle.std.proofs.Common.{sym, ◌∙◌, length-drop, take_all, add-one, arith}
use mathlib.Core.List.{List, ◌++◌, append_assoc}
use Rattle.std.proofs.Math.ListN.{drop}
use Rattle.formats.specs.Format.{Res, got, bad, Format, ends}
use Rattle.formats.specs.FormatLaws.{got-bad, sound-of}
use Rattle.formats.proofs.BindLaws.{ends-bind}
use Rattle.formats.specs.Combine.{pre_parse, post_parse, seq_parse, strip, post, map_parse, only_parse}
use Rattle.formats.specs.Exactly.{fixed_digits}
use Rattle.formats.specs.Numbers.{number}
use Rattle.formats.specs.Words.{words_parse}
use Rattle.formats.specs.Items.{items_parse}
use Rattle.formats.proofs.ItemsLaws.{items-end, items-bad, ends-step}
use Rattle.formats.specs.Rising.{from_low, rise}
use Rattle.formats.proofs.RunLaws.{Run, run-tags, ran-of, run-pre, run-post, run-seq, run-map, run_only, run-fail, run_none}
use Rattle.formats.proofs.MarksLaws.{placed, Within, Parsed}
use Rattle.text.specs.Ascii.{bytes}
use Rattle.formats.proofs.MarksLaws.{keep}
use Rattle.moments.specs.declared.Moment.{Moment}
use Rattle.moments.specs.Moments.{moment_bytes, period_start, period_end}
use Rattle.moments.specs.MomentsLaws.{length-moment}
use Rattle.message.specs.Contents.{Observation, TimeSeries, position}
use Rattle.message.specs.Bytes.{opening, ending, closing, element, supplies, deliveries}
use Rattle.message.specs.Valid.{last_position}
use Rattle.message.specs.Reading.{is_period, behind_month, observable, observed, Volume, of_volume}
use Rattle.message.proofs.ObservationForm.{month_body, period, observation, observations, plain_number, quantity, observation_body}
use Rattle.message.proofs.SeriesForm.{position-fits, counted, volume_body, volume_of, volume-back, own_body, shared_body}
use Rattle.series_reader.proofs.MarkedReadingInner.{in_order, Passed, observations_of, VolumeRead, outline}

-- how an observation of the month, from position low on, is read
abbrev pub observing : ℕ → ℕ → List ℕ → Res Observation
observing last low = only_parse (λ o. leb low (position o)) (map_parse observed (only_parse (observable last) observation_body.parse))

-- what is read is valid
pub parsed-ok : {A : Type 0} (F : Format A) (s : List ℕ) (m : Option ℕ) (q : ℕ) (v : A) → Parsed F.parse s m (Some q) v → F.Ok v
parsed-ok F s None q v h = absurd (got-bad (sym h.run.run))
parsed-ok F s (Some p) q v h = (sound-of F (drop p s) v (drop q s) h.run.run).1

-- what isn't there at first isn't there at last
pub parsed-no : {A : Type 0} (f : List ℕ → Res A) (s : List ℕ) (v : A) → Parsed f s None None v
parsed-no f s v = record { run = record { run = refl }; within = tt }

-- where nothing is read the value doesn't matter
pub any_value : {A : Type 0} {f : List ℕ → Res A} {s : List ℕ} {m : Option ℕ} {v w : A} → Parsed f s m None v → Parsed f s m None w
any_value h = record { run = record { run = h.run.run }; within = tt }

-- what is kept of the contents that were read
pub kept_of : {A B C : Type 0} (F : Format A) (f : A → B) (view : B → C) (s : List ℕ) (m r : Option ℕ) (a : A) (v : C)
    → (F.Ok a → view (f a) ≡ v) → Parsed F.parse s m r a → Parsed (map_parse view (map_parse f F.parse)) s m r v
kept_of F f view s m None a v h p = any_value (record { run = run-map view (run-map f p.run); within = p.within })
kept_of F f view s m (Some q) a v h p =
    subst (λ x. Parsed (map_parse view (map_parse f F.parse)) s m (Some q) x) (h (parsed-ok F s m q a p)) (record { run = run-map view (run-map f p.run); within = p.within })

-- ---- Quantity

abbrev pub kilowatts : Format ℕ
kilowatts = number 46 999999999 (omega arith) refl

module _ (s : List ℕ) (m a b : Option ℕ) (k f : ℕ) (h : Parsed kilowatts.parse s m a k) (i : Parsed (fixed_digits 3).parse s a b f) where
  pub quantity-parsed : Parsed quantity.parse s m b (k * 1000 + f)
  unfolding quantity
  quantity-parsed = record { run = run-map (λ p. p.0 * 1000 + p.1) (run-seq (λ k. (fixed_digits 3).parse) h.run i.run); within = i.within }

-- ---- Observation

module _ (s : List ℕ) {m a b c d e : Option ℕ} {p w : ℕ} where
  pub body-parsed : Parsed (strip (opening "Observation" ++ opening "Position")) s m a tt → Parsed plain_number.parse s a b p
      → Parsed (strip (ending "Position" ++ opening "Quantity")) s b c tt → Parsed quantity.parse s c d w
      → Parsed (strip (closing "Quantity" ++ closing "Observation")) s d e tt → Parsed observation_body.parse s m e (p, w)
  unfolding observation_body
  body-parsed g h i j k =
      record {
        run = run-pre (opening "Observation" ++ opening "Position") g.run
            (run-seq (λ p. (post quantity (closing "Quantity" ++ closing "Observation")).parse)
            (run-post (λ p. ending "Position" ++ opening "Quantity") h.run i.run) (run-post (λ w. closing "Quantity" ++ closing "Observation") j.run k.run));
        within = k.within;
      }

pub observing-parsed : (last low : ℕ) (s : List ℕ) (m e : Option ℕ) (p : ℕ × ℕ) → Parsed observation_body.parse s m e p
    → Parsed (observing last low) s m (keep (in_order low last p) e) (observed p)
observing-parsed last low s m e p h = go (observable last p) refl (leb low p.0) refl
  where
    go : (t : Bool) → observable last p ≡ t → (l : Bool) → leb low p.0 ≡ l → Parsed (observing last low) s m (keep (t && l) e) (observed p)
    go true f true g = record { run = run_only (λ o. leb low (position o)) (run-map observed (run_only (observable last) h.run f)) g; within = h.within }
    go true f false g = record { run = run-fail (λ o. leb low (position o)) (run-map observed (run_only (observable last) h.run f)) g; within = tt }
    go false f l g = record { run = run_none (λ o. leb low (position o)) (run-map observed (run-fail (observable last) h.run f)); within = tt }

-- ---- so many observations

pub passed-end : {A : Type 0} (f : List ℕ → Res A) (none : A) (s : List ℕ) (p : ℕ) (r : Option ℕ) → ends (f (drop p s)) ≡ placed s r → Within s r → Passed f s (Some p) r
passed-end f none s p r e w = record { ran = ran-of f none (drop p s) (placed s r) e; within = w }

pub passed-no : {A : Type 0} (f : List ℕ → Res A) (none : A) (s : List ℕ) → Passed f s None None
passed-no f none s = record { ran = record { value = none; ran = record { run = refl } }; within = tt }

module _ (year month : ℕ) where
  abbrev pub observation_item : ℕ × Unit {0} → Format Observation
  observation_item = from_low (λ u. observation (last_position year month) (position-fits year month)) position (λ u o. u)

  abbrev pub observation_onto : ℕ × Unit {0} → Observation → ℕ × Unit {0}
  observation_onto = rise (λ u. observation (last_position year month) (position-fits year month)) position (λ u o. u)

  -- where n observations from position low on end
  unfoldable pub observations_end : ℕ → ℕ → List ℕ → Res (Unit {0})
  observations_end n low s = ends (items_parse observation_item observation_onto n (low, tt) s)

  pub end-start : (n : ℕ) (s : List ℕ) → ends (observations_of year month n s) ≡ observations_end n 1 s
  unfolding observations observations_end map_parse
  end-start n s = ends-bind (λ l. l) (items_parse observation_item observation_onto n (1, tt) s)

  module _ (n i low : ℕ) (s : List ℕ) where
    pub end-last : n ≤ i → observations_end (n - i) low s ≡ got tt s
    unfolding observations_end
    end-last h = ap ends (items-end observation_item observation_onto n i (low, tt) s h)

    pub end-bad : i < n → observing (last_position year month) low s ≡ bad → observations_end (n - i) low s ≡ bad
    unfolding observations_end observation
    end-bad h e = ap ends (items-bad observation_item observation_onto n i (low, tt) s h e)

    pub end_step : (o : Observation) (r : List ℕ) → i < n → observing (last_position year month) low s ≡ got o r
        → observations_end (n - i) low s ≡ observations_end (n - (i + 1)) (o.position + 1) r
    unfolding observations_end observation
    end_step o r h e = ends-step observation_item observation_onto n i (low, tt) s o r h e ∙ ap (λ (k : ℕ). ends (items_parse observation_item observation_onto (n - (i + 1)) (k, tt) r)) (sym (add-one o.position))

-- ---- what stands behind a period's month

behind-join : (t c o e d r : List ℕ) → t ++ (c ++ o) ++ e ++ (d ++ r) ≡ t ++ c ++ (o ++ e ++ d) ++ r
behind-join t c o e d r = simp append_assoc

module _ (s : List ℕ) {m a b c d : Option ℕ} (year month : ℕ) where
  pub behind-parsed : Parsed (strip (drop 7 (moment_bytes (period_start year month)))) s m a tt → Parsed (strip (closing "PeriodStart" ++ opening "PeriodEnd")) s a b tt
      → Parsed (strip (moment_bytes (period_end year month))) s b c tt → Parsed (strip (closing "PeriodEnd" ++ element "PeriodResolution" (bytes "PT15M"))) s c d tt
      → Parsed (strip (behind_month (year, month))) s m d tt
  unfolding behind_month
  behind-parsed g h i j =
      let t = drop 7 (moment_bytes (period_start year month)) in
      let e = moment_bytes (period_end year month) in
      let two = closing "PeriodStart" ++ opening "PeriodEnd" in
      let last = closing "PeriodEnd" ++ element "PeriodResolution" (bytes "PT15M") in
      record {
        run = subst (λ (l : List ℕ). Run (strip l) (placed s m) (placed s d) tt)
            (behind-join t (closing "PeriodStart") (opening "PeriodEnd") e (closing "PeriodEnd") (element "PeriodResolution" (bytes "PT15M")))
            (run-tags (t ++ two ++ e) last (run-tags (t ++ two) e (run-tags t two g.run h.run) i.run) j.run);
        within = j.within;
      }

-- the last 22 of a moment's bytes, as a part of them
pub moment-part : (m : Moment) → take 22 (drop 7 (moment_bytes m)) ≡ drop 7 (moment_bytes m)
moment-part m = take_all 22 (drop 7 (moment_bytes m)) (omega (arith, length-drop 7 (moment_bytes m), length-moment m))

-- ---- a period

module _ (s : List ℕ) {m a b c d : Option ℕ} {year month : ℕ} where
  month-parsed : Parsed (strip (opening "PeriodStart")) s m a tt → Parsed (fixed_digits 4).parse s a b year → Parsed (strip (bytes "-")) s b c tt → Parsed (fixed_digits 2).parse s c d month
      → Run (pre_parse (opening "PeriodStart") (seq_parse (post_parse (fixed_digits 4).parse (λ y. bytes "-")) (λ y. (fixed_digits 2).parse))) (placed s m) (placed s d) (year, month)
  month-parsed g h i j = run-pre (opening "PeriodStart") g.run (run-seq (λ y. (fixed_digits 2).parse) (run-post (λ y. bytes "-") h.run i.run) j.run)

  -- of a month that no period has
  pub period-none : Parsed (strip (opening "PeriodStart")) s m a tt → Parsed (fixed_digits 4).parse s a b year → Parsed (strip (bytes "-")) s b c tt → Parsed (fixed_digits 2).parse s c d month
      → is_period (year, month) ≡ false → Parsed period.parse s m None (year, month)
  unfolding period month_body
  period-none g h i j e =
      record {
        run = run-map (λ q. q) (run-post behind_month (run-fail is_period (month-parsed g h i j) e) (record { run = refl }));
        within = tt;
      }

  pub period-parsed : {r : Option ℕ} → Parsed (strip (opening "PeriodStart")) s m a tt → Parsed (fixed_digits 4).parse s a b year → Parsed (strip (bytes "-")) s b c tt → Parsed (fixed_digits 2).parse s c d month
      → is_period (year, month) ≡ true → Parsed (strip (behind_month (year, month))) s d r tt → Parsed period.parse s m r (year, month)
  unfolding period month_body
  period-parsed g h i j e k =
      record { run = run-map (λ q. q) (run-post behind_month (run_only is_period (month-parsed g h i j) e) k.run); within = k.within }

-- ---- a time series

module _ (s : List ℕ) {m a b c d e f g h : Option ℕ} {x n year month : ℕ} where
  pub volume-parsed : Parsed (strip (opening "DeliveryDirection")) s m a tt → Parsed (words_parse deliveries) s a b x
      → Parsed (strip (closing "DeliveryDirection" ++ element "UnitType" (bytes "KWT") ++ opening "ObservationCounter")) s b c tt → Parsed counted.parse s c d n
      → Parsed (strip (ending "ObservationCounter" ++ opening "TimeSeriesPeriod")) s d e tt → Parsed period.parse s e f (year, month)
      → (q : Passed (observations_of year month n) s f g) → Parsed (strip (closing "TimeSeriesPeriod")) s g h tt → Parsed volume_body.parse s m h (x, (n, ((year, month), q.ran.value)))
  unfolding volume_body
  volume-parsed i j k l o p q r =
      record {
        run = run-pre (opening "DeliveryDirection") i.run
            (run-seq _ (run-post _ j.run k.run) (run-seq _ (run-post _ l.run o.run) (run-seq _ p.run (run-post _ q.ran.ran r.run))));
        within = r.within;
      }

-- ---- a series

-- the counter is the number of observations
outline-volume : (x delivery rows year month : ℕ) (l : List Observation) → volume_body.Ok (delivery, (rows, ((year, month), l)))
    → outline (of_volume x (delivery, (rows, ((year, month), l)))) ≡ ((x, delivery), ((year, month), rows))
unfolding of_volume volume_of
outline-volume x delivery rows year month l ok =
    let e = ap (λ (v : Volume). v.1.0) (volume-back x (delivery, (rows, ((year, month), l))) ok) in
    λ i. ((x, delivery), ((year, month), e i))

-- how it is read with its supply direction
abbrev pub own_parse : List ℕ → Res TimeSeries
own_parse = map_parse (λ p. of_volume p.0 p.1) own_body.parse

own-ok : (x : ℕ) (v : Volume) → own_body.Ok (x, v) → volume_body.Ok v
unfolding own_body
own-ok x v ok = ok.1

module _ (s : List ℕ) {m a b c d e : Option ℕ} {x delivery year month rows : ℕ} where
  pub own-body : Parsed (strip (opening "ToETimeSeries" ++ opening "SupplyDirection")) s m a tt → Parsed (words_parse supplies) s a b x → Parsed (strip (closing "SupplyDirection")) s b c tt
      → (v : VolumeRead s c d delivery year month rows) → Parsed (strip (closing "ToETimeSeries")) s d e tt
      → Parsed own_body.parse s m e (x, (delivery, (rows, ((year, month), v.observations))))
  unfolding own_body
  own-body i j k v r =
      record {
        run = run-pre (opening "ToETimeSeries" ++ opening "SupplyDirection") i.run (run-seq _ (run-post _ j.run k.run) (run-post _ v.parsed.run r.run));
        within = r.within;
      }

  pub own_read : Parsed (strip (opening "ToETimeSeries" ++ opening "SupplyDirection")) s m a tt → Parsed (words_parse supplies) s a b x → Parsed (strip (closing "SupplyDirection")) s b c tt
      → VolumeRead s c d delivery year month rows → Parsed (strip (closing "ToETimeSeries")) s d e tt → Parsed (map_parse outline own_parse) s m e ((x, delivery), ((year, month), rows))
  own_read i j k v r =
      kept_of own_body (λ p. of_volume p.0 p.1) outline s m e (x, (delivery, (rows, ((year, month), v.observations)))) ((x, delivery), ((year, month), rows))
      (λ ok. outline-volume x delivery rows year month v.observations (own-ok x (delivery, (rows, ((year, month), v.observations))) ok)) (own-body i j k v r)

-- how it is read with that of its access point
abbrev pub shared_parse : ℕ → List ℕ → Res TimeSeries
shared_parse x = map_parse (of_volume x) shared_body.parse

shared-ok : (v : Volume) → shared_body.Ok v → volume_body.Ok v
unfolding shared_body
shared-ok v ok = ok

module _ (s : List ℕ) {m a b c : Option ℕ} (x : ℕ) {delivery year month rows : ℕ} where
  pub shared-body : Parsed (strip (opening "ToETimeSeries")) s m a tt → (v : VolumeRead s a b delivery year month rows) → Parsed (strip (closing "ToETimeSeries")) s b c tt
      → Parsed shared_body.parse s m c (delivery, (rows, ((year, month), v.observations)))
  unfolding shared_body
  shared-body i v r = record { run = run-pre (opening "ToETimeSeries") i.run (run-post _ v.parsed.run r.run); within = r.within }

  pub shared-read : Parsed (strip (opening "ToETimeSeries")) s m a tt → VolumeRead s a b delivery year month rows → Parsed (strip (closing "ToETimeSeries")) s b c tt
      → Parsed (map_parse outline (shared_parse x)) s m c ((x, delivery), ((year, month), rows))
  shared-read i v r =
      kept_of shared_body (of_volume x) outline s m c (delivery, (rows, ((year, month), v.observations))) ((x, delivery), ((year, month), rows))
      (λ ok. outline-volume x delivery rows year month v.observations (shared-ok (delivery, (rows, ((year, month), v.observations))) ok)) (shared-body i v r)
