-- Laws about a reading that keeps a mark and fills rows: observations and series, each behind the other, fill them in turn.
-- They stand for whoever reads so; the reader itself goes by `Filled`; MarkedFilledLaws leads from what its contracts say to these.
use Rattle.std.specs.Prelude.{◌≡◌, refl, ℕ, suc, ◌+◌, ◌-◌, ◌*◌, ◌≤◌, ◌<◌, leb, length, drop, Option, Some}
use Rattle.std.proofs.Common.{sym, ◌∙◌, add-one, arith}
use Rattle.std.proofs.Math.Path.{ap, subst}
use mathlib.Core.List.{List, [], ◌∷◌, ◌++◌, flat_map}
use Rattle.text.specs.Ascii.{bytes}
use Rattle.text.specs.WrittenInner.{written}
use Rattle.formats.specs.Format.{Res, got, bad, bind}
use Rattle.formats.specs.Combine.{strip, map_parse}
use Rattle.formats.specs.Words.{words_parse}
use Rattle.formats.specs.Items.{items_parse}
use Rattle.formats.proofs.ItemsLaws.{items-bad}
use Rattle.formats.proofs.RunLaws.{run-map}
use Rattle.formats.proofs.MarksLaws.{Parsed}
use Rattle.kinds.specs.declared.Kind.{Kind}
use Rattle.message.specs.Contents.{Observation, TimeSeries, place}
use Rattle.message.specs.Bytes.{opening, ending, closing, element, supplies, deliveries}
use Rattle.message.specs.Valid.{last_position, month_of}
use Rattle.message.specs.Rows.{Row, row_numbers, numbers}
use Rattle.message.proofs.ObservationForm.{observation, observations, period}
use Rattle.message.specs.Reading.{Volume, of_volume}
use Rattle.message.proofs.SeriesForm.{counted, volume_body}
use Rattle.message.specs.Months.{follows}
use Rattle.message.proofs.SeriesListForm.{series_list}
use Rattle.series_reader.proofs.MarkedReadingLaws.{observing, observation_item, observation_onto, volume-parsed, own_parse, own-body, own_read, shared_parse, shared-body, shared-read}
use Rattle.series_reader.proofs.MarkedReadingInner.{Passed, observations_of, VolumeRead, Outline, outline}
use Rattle.series_reader.proofs.MarkedItemsLaws.{viewed, view-bad}
use Rattle.series_reader.proofs.MarkedSeriesInner.{series_form, item, place_in, list_form}
use Rattle.series_reader.proofs.MarkedSeriesLaws.{onto}
use Rattle.series_reader.proofs.MarkedFillingInner.{Fills, Stored, rows_of_series}
use Rattle.series_reader.specs.RowsInner.{rows_of_observation}
use Rattle.series_reader.proofs.MarkedFillingLaws.{fills_same, fills-only, fills-bad, fills-within, fills-none, fills-step}

-- contents as they are
pub fills-all : {A : Type 0} {f : List ℕ → Res A} {R : A → List Row} {s : List ℕ} {m : Option ℕ} {k : ℕ} {d o : List ℕ} → Fills f R s m k d o → Fills (map_parse (λ a. a) f) R s m k d o
unfolding map_parse
fills-all {A} {f} i = fills_same (map_parse (λ a. a) f) (λ q. go (f q)) i
  where
    go : (x : Res A) → bind x (λ a q. got a q) ≡ x
    go bad = refl
    go (got a q) = refl

-- ---- observations

stored-fills : {f : List ℕ → Res Observation} {s : List ℕ} {p k k' : ℕ} {d mid r : List ℕ} (partner : ℕ) (directions : ℕ × ℕ) (o : Observation) → f (drop p s) ≡ got o r
    → Stored (partner, (directions, o)) k d mid k' → Fills f (rows_of_observation partner directions) s (Some p) k d mid
unfolding numbers row_numbers flat_map
stored-fills {f} {s} {p} {k} {k'} {d} {mid} {r} partner directions o e i =
    record {
      keeps = i.keeps;
      wrote = λ q v t m g room.
          let at : p ≡ q = cc in
          let z : got o r ≡ got v t = sym e ∙ ap (λ (n : ℕ). f (drop n s)) at ∙ g in
          let y : o ≡ v = cc in
          subst (λ (x : Observation). mid ≡ written d (6 * k) (numbers ((partner, (directions, x)) ∷ []))) y (i.wrote (omega arith)).0;
    }

-- n observations from position low on
module _ (year month : ℕ) where
  unfoldable pub observations_from : ℕ → ℕ → List ℕ → Res (List Observation)
  observations_from n low = items_parse (observation_item year month) (observation_onto year month) n (low, tt)

  pub observations-filled : (n : ℕ) {R : List Observation → List Row} {s : List ℕ} {m : Option ℕ} {k : ℕ} {d o : List ℕ} → Fills (observations_from n 1) R s m k d o → Fills (observations_of year month n) R s m k d o
  unfolding observations_from observations
  observations-filled n i = fills-all i

  module _ (n i low : ℕ) (partner : ℕ) (directions : ℕ × ℕ) (s : List ℕ) (p k : ℕ) (d : List ℕ) where
    pub observations-fill-none : n ≤ i → Fills (observations_from (n - i) low) (flat_map (rows_of_observation partner directions)) s (Some p) k d d
    unfolding observations_from
    observations-fill-none h = fills-none (observation_item year month) (observation_onto year month) (rows_of_observation partner directions) n i (low, tt) s p k d h

    pub observations-fill-step : {q k' : ℕ} {mid o : List ℕ} (x : Observation) → i < n → observing (last_position year month) low (drop p s) ≡ got x (drop q s)
        → Stored (partner, (directions, x)) k d mid k' → Fills (observations_from (n - (i + 1)) (x.position + 1)) (flat_map (rows_of_observation partner directions)) s (Some q) k' mid o
        → Fills (observations_from (n - i) low) (flat_map (rows_of_observation partner directions)) s (Some p) k d o
    unfolding observations_from observation
    observations-fill-step {q} {k'} {mid} {o} x h e store rest =
        fills-step (observation_item year month) (observation_onto year month) (rows_of_observation partner directions) n i (low, tt) x h e
        (stored-fills partner directions x e store) (λ room. (store.wrote room).1)
        (subst (λ (j : ℕ). Fills (observations_from (n - (i + 1)) j) (flat_map (rows_of_observation partner directions)) s (Some q) k' mid o) (add-one x.position) rest)

-- ---- a time series

module _ (s : List ℕ) {m a b c d e f g h : Option ℕ} {x n year month : ℕ} (partner supply : ℕ) {k : ℕ} {before after : List ℕ} where
  pub volume-filled : Parsed (strip (opening "DeliveryDirection")) s m a tt → Parsed (words_parse deliveries) s a b x
      → Parsed (strip (closing "DeliveryDirection" ++ element "UnitType" (bytes "KWT") ++ opening "ObservationCounter")) s b c tt → Parsed counted.parse s c d n
      → Parsed (strip (ending "ObservationCounter" ++ opening "TimeSeriesPeriod")) s d e tt → Parsed period.parse s e f (year, month)
      → Passed (observations_of year month n) s f g × Fills (observations_of year month n) (flat_map (rows_of_observation partner (supply, x))) s f k before after
      → Parsed (strip (closing "TimeSeriesPeriod")) s g h tt
      → VolumeRead s m h x year month n × Fills volume_body.parse (λ v. rows_of_series partner (of_volume supply v)) s m k before after
  unfolding of_volume
  volume-filled i j l o p q w t =
      let r = w.0 in
      let whole = volume-parsed s i j l o p q r t in (
        record { observations = r.ran.value; parsed = whole },
        fills-within (observations_of year month n) volume_body.parse (λ v. rows_of_series partner (of_volume supply v)) (closing "TimeSeriesPeriod") r.ran.value (x, (n, ((year, month), r.ran.value)))
            w.1 whole (record { run = r.ran.ran; within = r.within }) t (λ q e. refl),
      )

-- ---- a series

module _ (s : List ℕ) {m a b c d e : Option ℕ} {x delivery year month rows : ℕ} (partner : ℕ) {k : ℕ} {before after : List ℕ} where
  pub own-filled : Parsed (strip (opening "ToETimeSeries" ++ opening "SupplyDirection")) s m a tt → Parsed (words_parse supplies) s a b x → Parsed (strip (closing "SupplyDirection")) s b c tt
      → VolumeRead s c d delivery year month rows × Fills volume_body.parse (λ v. rows_of_series partner (of_volume x v)) s c k before after
      → Parsed (strip (closing "ToETimeSeries")) s d e tt
      → Parsed (map_parse outline own_parse) s m e ((x, delivery), ((year, month), rows)) × Fills own_parse (rows_of_series partner) s m k before after
  own-filled i j l z r =
      let v = z.0 in
      let w : Volume = (delivery, (rows, ((year, month), v.observations))) in
      let whole = own-body s i j l v r in (
        own_read s i j l v r,
        fills-within volume_body.parse own_parse (rows_of_series partner) (closing "ToETimeSeries") w (of_volume x w)
            z.1 (record { run = run-map (λ p. of_volume p.0 p.1) whole.run; within = whole.within }) v.parsed r (λ q e. refl),
      )

module _ (s : List ℕ) {m a b c : Option ℕ} (x : ℕ) {delivery year month rows : ℕ} (partner : ℕ) {k : ℕ} {before after : List ℕ} where
  pub shared-filled : Parsed (strip (opening "ToETimeSeries")) s m a tt
      → VolumeRead s a b delivery year month rows × Fills volume_body.parse (λ v. rows_of_series partner (of_volume x v)) s a k before after → Parsed (strip (closing "ToETimeSeries")) s b c tt
      → Parsed (map_parse outline (shared_parse x)) s m c ((x, delivery), ((year, month), rows)) × Fills (shared_parse x) (rows_of_series partner) s m k before after
  shared-filled i z r =
      let v = z.0 in
      let w : Volume = (delivery, (rows, ((year, month), v.observations))) in
      let whole = shared-body s x i v r in (
        shared-read s x i v r,
        fills-within volume_body.parse (shared_parse x) (rows_of_series partner) (closing "ToETimeSeries") w (of_volume x w)
            z.1 (record { run = run-map (of_volume x) whole.run; within = whole.within }) v.parsed r (λ q e. refl),
      )

-- the next one of a partner
pub next-fills : (kind : Kind) (x low : ℕ) (seen : ℕ × ℕ) {R : TimeSeries → List Row} {s : List ℕ} {m : Option ℕ} {k : ℕ} {d o : List ℕ} → Fills (series_form kind x).parse R s m k d o
    → Fills (item kind x (low, seen)).parse R s m k d o
next-fills kind x low seen i = fills-only (λ a. leb low (place a)) (fills-only (λ a. follows seen (month_of a)) i)

-- ---- series, behind each other

pub rows-each : (partner : ℕ) (directions : ℕ × ℕ) (l : List Observation) → length (flat_map (rows_of_observation partner directions) l) ≡ length l
unfolding flat_map
rows-each partner directions [] = refl
rows-each partner directions (o ∷ l) = ap suc (rows-each partner directions l)

-- n series from place low on
module _ (kind : Kind) (x : ℕ) where
  unfoldable pub series_from : ℕ → ℕ → ℕ × ℕ → List ℕ → Res (List TimeSeries)
  series_from n low seen = items_parse (item kind x) (onto kind x) n (low, seen)

  pub series-filled : (n : ℕ) (seen : ℕ × ℕ) {R : List TimeSeries → List Row} {s : List ℕ} {m : Option ℕ} {k : ℕ} {d o : List ℕ} → Fills (series_from n 0 seen) R s m k d o → Fills (list_form kind x n seen).parse R s m k d o
  unfolding series_from list_form series_list
  series-filled n seen i = fills-all (fills-all i)

  module _ (n i low : ℕ) (seen : ℕ × ℕ) (partner : ℕ) (s : List ℕ) (p k : ℕ) (d : List ℕ) where
    pub series-fill-none : n ≤ i → Fills (series_from (n - i) low seen) (flat_map (rows_of_series partner)) s (Some p) k d d
    unfolding series_from
    series-fill-none h = fills-none (item kind x) (onto kind x) (rows_of_series partner) n i (low, seen) s p k d h

    pub series-fill-bad : (o : List ℕ) → i < n → map_parse outline (item kind x (low, seen)).parse (drop p s) ≡ bad → length o ≡ length d
        → Fills (series_from (n - i) low seen) (flat_map (rows_of_series partner)) s (Some p) k d o
    unfolding series_from
    series-fill-bad o h e l =
        fills-bad (items_parse (item kind x) (onto kind x) (n - i) (low, seen)) (flat_map (rows_of_series partner)) s p k d o l
        (items-bad (item kind x) (onto kind x) n i (low, seen) (drop p s) h (view-bad outline (item kind x (low, seen)).parse (drop p s) e))

    pub series-fill-step : {q : ℕ} {mid o : List ℕ} (v : Outline) → i < n → map_parse outline (item kind x (low, seen)).parse (drop p s) ≡ got v (drop q s)
        → Fills (item kind x (low, seen)).parse (rows_of_series partner) s (Some p) k d mid
        → Fills (series_from (n - (i + 1)) (place_in v + 1) v.1.0) (flat_map (rows_of_series partner)) s (Some q) (k + v.1.1) mid o
        → Fills (series_from (n - i) low seen) (flat_map (rows_of_series partner)) s (Some p) k d o
    unfolding series_from
    series-fill-step {q} {mid} {o} v h e first rest =
        let a = viewed outline (item kind x (low, seen)).parse (drop p s) v (drop q s) e in
        let r = a.0 in
        let on = subst (λ (j : ℕ). Fills (items_parse (item kind x) (onto kind x) (n - (i + 1)) (j, v.1.0)) (flat_map (rows_of_series partner)) s (Some q) (k + v.1.1) mid o) (add-one (place_in v)) rest in
        let back = subst (λ (w : Outline). Fills (items_parse (item kind x) (onto kind x) (n - (i + 1)) (suc (place_in w), w.1.0)) (flat_map (rows_of_series partner)) s (Some q) (k + w.1.1) mid o) (sym a.1.1) on in
        fills-step (item kind x) (onto kind x) (rows_of_series partner) n i (low, seen) r h a.1.0 first
        (λ room. ap (λ (j : ℕ). k + j) (sym (rows-each partner (r.supply, r.delivery) r.observations))) back
