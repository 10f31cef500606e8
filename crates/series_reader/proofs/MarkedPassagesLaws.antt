-- Laws about a reading that keeps a mark: the passages of a time series, as a cursor reads them (`Reads`), are readings from mark to mark (`Parsed`).
-- They stand for whoever reads so; the reader itself goes by `Reads` and `Filled`; MarkedFilledLaws leads from what its contracts say to these.
use Rattle.std.specs.Prelude.{◌≡◌, List, ◌++◌, ℕ, ◌≤◌, ◌<◌, Option, Some}
use Rattle.std.proofs.Common.{refl, ap, subst, arith}
use Rattle.text.specs.Ascii.{bytes}
use Rattle.formats.specs.Combine.{strip}
use Rattle.formats.specs.Exactly.{fixed_digits, fixed_parse}
use Rattle.formats.specs.Words.{words_parse}
use Rattle.formats.proofs.MarksLaws.{Parsed}
use Rattle.cursor.specs.declared.Cursor.{Cursor}
use Rattle.cursor.specs.ReadsInner.{Reads, number_of, counter_parse, fixed_of}
use Rattle.cursor.proofs.ParsedLaws.{number_fits, fixed-fits, word_fits}
use Rattle.cursor.proofs.MarkedReadsLaws.{mark_behind, read_or, reads-parsed}
use Rattle.cursor.proofs.StepsLaws.{seq-got, pre-got, post-got, only-got, tag-step, word-step, form-step, last-step}
use Rattle.message.specs.Bytes.{opening, ending, closing, element, supplies, deliveries}
use Rattle.message.specs.Contents.{TimeSeries}
use Rattle.message.specs.Reading.{Volume, of_volume, is_period, behind_month, position_parse, plain_parse, counted_parse, quantity_parse, month_parse, volume_parse, own_series_parse}
use Rattle.message.proofs.ObservationForm.{plain_number, quantity, observation_body}
use Rattle.message.proofs.SeriesForm.{counted}
use Rattle.series_reader.proofs.MarkedItemsLaws.{viewed}

-- ---- the parts of a passage that more is read behind

pub record MonthSteps (s : List ℕ) (m d : Option ℕ) (year month : ℕ) : Type 0 where
  pub a : Option ℕ
  pub b : Option ℕ
  pub c : Option ℕ
  pub before_year : Parsed (strip (opening "PeriodStart")) s m a tt
  pub at_year : Parsed (fixed_digits 4).parse s a b year
  pub between : Parsed (strip (bytes "-")) s b c tt
  pub at_month : Parsed (fixed_digits 2).parse s c d month

pub record VolumeSteps (s : List ℕ) (m e : Option ℕ) (x n : ℕ) : Type 0 where
  pub a : Option ℕ
  pub b : Option ℕ
  pub c : Option ℕ
  pub d : Option ℕ
  pub before_delivery : Parsed (strip (opening "DeliveryDirection")) s m a tt
  pub delivery : Parsed (words_parse deliveries) s a b x
  pub before_count : Parsed (strip (closing "DeliveryDirection" ++ element "UnitType" (bytes "KWT") ++ opening "ObservationCounter")) s b c tt
  pub count : Parsed counted.parse s c d n
  pub behind_count : Parsed (strip (ending "ObservationCounter" ++ opening "TimeSeriesPeriod")) s d e tt

pub record SupplySteps (s : List ℕ) (m c : Option ℕ) (x : ℕ) : Type 0 where
  pub a : Option ℕ
  pub b : Option ℕ
  pub before_supply : Parsed (strip (opening "ToETimeSeries" ++ opening "SupplyDirection")) s m a tt
  pub supply : Parsed (words_parse supplies) s a b x
  pub behind_supply : Parsed (strip (closing "SupplyDirection")) s b c tt

-- ---- from a passage to its parts

module _ {c d : Cursor} where
  -- the number up to the byte <, and the same of a counter
  pub plain-parsed : {r : Option ℕ} → Reads (number_of 60 18446744073709551615) c d r → Parsed plain_number.parse c.text.now (Some c.at) (mark_behind d r) (read_or 0 r)
  plain-parsed h = reads-parsed 0 h

  pub counted-parsed : {r : Option ℕ} → Reads counter_parse c d r → Parsed counted.parse c.text.now (Some c.at) (mark_behind d r) (read_or 0 r)
  counted-parsed h = reads-parsed 0 h

  -- a month that was read, up to its end
  pub month-steps : {q : ℕ × ℕ} → Reads month_parse c d (Some q) → MonthSteps c.text.now (Some c.at) (Some d.at) q.0 q.1
  unfolding month_parse fixed_parse
  month-steps {q} h =
      let s = c.text.now in
      let p = reads-parsed (0, 0) h in
      let body = only-got is_period _ _ p.run.run in
      let tag = pre-got (opening "PeriodStart") _ _ body.0 in
      let both = seq-got _ _ _ tag.1.1 in
      let head = post-got _ _ _ both.1.0 in
      let before = tag-step (opening "PeriodStart") s c.inside refl tag.1.0 in
      let year = form-step (fixed_digits 4) s before.within before.rest head.1.0 in
      let dash = tag-step (bytes "-") s year.within year.rest head.1.1 in
      record {
        a = Some before.at;
        b = Some year.at;
        c = Some dash.at;
        before_year = before.parsed;
        at_year = year.parsed;
        between = dash.parsed;
        at_month = last-step (fixed_digits 2).parse s p.within dash.rest both.1.1;
      }

  -- a time series that was read, up to its period
  pub volume-steps : {v : Volume} → Reads volume_parse c d (Some v) → (e : ℕ) × VolumeSteps c.text.now (Some c.at) (Some e) v.0 v.1.0
  unfolding volume_parse counted_parse plain_parse
  volume-steps {v} h =
      let s = c.text.now in
      let p = reads-parsed v h in
      let tag = pre-got (opening "DeliveryDirection") _ _ p.run.run in
      let first = seq-got _ _ _ tag.1.1 in
      let direction = post-got _ _ _ first.1.0 in
      let second = seq-got _ _ _ first.1.1 in
      let counter = post-got _ _ _ second.1.0 in
      let before = tag-step (opening "DeliveryDirection") s c.inside refl tag.1.0 in
      let word = word-step deliveries s before.within before.rest direction.1.0 in
      let unit = tag-step (closing "DeliveryDirection" ++ element "UnitType" (bytes "KWT") ++ opening "ObservationCounter") s word.within word.rest direction.1.1 in
      let count = form-step counted s unit.within unit.rest counter.1.0 in
      let behind = tag-step (ending "ObservationCounter" ++ opening "TimeSeriesPeriod") s count.within count.rest counter.1.1 in (
        behind.at,
        record {
          a = Some before.at;
          b = Some word.at;
          c = Some unit.at;
          d = Some count.at;
          before_delivery = before.parsed;
          delivery = word.parsed;
          before_count = unit.parsed;
          count = count.parsed;
          behind_count = behind.parsed;
        },
      )

  -- a series that was read, up to behind its own supply direction
  pub own-steps : {t : TimeSeries} → Reads own_series_parse c d (Some t) → (e : ℕ) × SupplySteps c.text.now (Some c.at) (Some e) t.supply
  unfolding own_series_parse of_volume
  own-steps {t} h =
      let s = c.text.now in
      let p = reads-parsed t h in
      let of = viewed _ _ _ _ _ p.run.run in
      let tag = pre-got (opening "ToETimeSeries" ++ opening "SupplyDirection") _ _ of.1.0 in
      let both = seq-got _ _ _ tag.1.1 in
      let direction = post-got _ _ _ both.1.0 in
      let before = tag-step (opening "ToETimeSeries" ++ opening "SupplyDirection") s c.inside refl tag.1.0 in
      let word = word-step supplies s before.within before.rest direction.1.0 in
      let behind = tag-step (closing "SupplyDirection") s word.within word.rest direction.1.1 in
      let is : of.0.0 ≡ t.supply = ap (λ (u : TimeSeries). u.supply) of.1.1 in (
        behind.at,
        record {
          a = Some before.at;
          b = Some word.at;
          before_supply = before.parsed;
          supply = subst (λ (x : ℕ). Parsed (words_parse supplies) s (Some before.at) (Some word.at) x) is word.parsed;
          behind_supply = behind.parsed;
        },
      )

  -- a delivery direction, and a supply direction: a series' own or its access point's; 0 where there is none
  pub delivery-fits : {r : Option ℕ} → Reads (words_parse deliveries) c d r → read_or 0 r ≤ 1
  unfolding deliveries
  delivery-fits h = omega (arith, word_fits (bytes "DeliveryUp") (bytes "DeliveryDown") h)

  pub own-fits : {r : Option ℕ} → Reads (words_parse supplies) c d r → read_or 0 r ≤ 1
  unfolding supplies
  own-fits h = omega (arith, word_fits (bytes "Off-take") (bytes "Injection") h)

  pub access-fits : {r : Option ℕ} → Reads (words_parse supplies) c d r → read_or 0 r ≤ 1
  access-fits h = own-fits h

  -- the tags around a series and its observations
  pub shared-steps : {r : Option (Unit {0})} → Reads (strip (bytes "<ToETimeSeries>")) c d r → Parsed (strip (opening "ToETimeSeries")) c.text.now (Some c.at) (mark_behind d r) tt
  unfolding opening bytes
  shared-steps h = reads-parsed tt h

  pub series-end : {r : Option (Unit {0})} → Reads (strip (bytes "</ToETimeSeries>")) c d r → Parsed (strip (closing "ToETimeSeries")) c.text.now (Some c.at) (mark_behind d r) tt
  unfolding closing ending bytes
  series-end h = reads-parsed tt h

  pub volume-end : {r : Option (Unit {0})} → Reads (strip (bytes "</TimeSeriesPeriod>")) c d r → Parsed (strip (closing "TimeSeriesPeriod")) c.text.now (Some c.at) (mark_behind d r) tt
  unfolding closing ending bytes
  volume-end h = reads-parsed tt h

  -- what stands behind a month
  pub behind-read : {r : Option (Unit {0})} (year month : ℕ) → Reads (strip (behind_month (year, month))) c d r → Parsed (strip (behind_month (year, month))) c.text.now (Some c.at) (mark_behind d r) tt
  behind-read year month h = reads-parsed tt h

  -- an observation
  pub observation-read : {r : Option (ℕ × ℕ)} → Reads position_parse c d r → Parsed observation_body.parse c.text.now (Some c.at) (mark_behind d r) (read_or (0, 0) r)
  unfolding position_parse plain_parse quantity_parse fixed_parse observation_body quantity
  observation-read h = reads-parsed (0, 0) h

  -- its watts fit
  pub observation-fits : {e : Cursor} {whole part : Option ℕ} → Reads (number_of 46 999999999) c d whole → Reads (fixed_of 3) d e part → (read_or 0 whole ≤ 999999999) × (read_or 0 part < 1000)
  observation-fits h k = (number_fits 46 999999999 (omega arith) refl h, fixed-fits 3 (omega arith) (omega arith) k)
