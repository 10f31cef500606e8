-- The format of a time series, with its supply direction (TOE01, TOE02) or without (TOE03).
use Rattle.std.specs.Prelude.{◌≡◌, refl, ℕ, ◌≤◌, ltb, length}
use Rattle.std.proofs.Common.{sym, arith, ltb-true, lt-ltb}
use Rattle.std.proofs.Math.Path.{ap}
use mathlib.Core.List.{List, [], ◌∷◌, ◌++◌, append_assoc, flat_map}
use Rattle.text.specs.Ascii.{bytes}
use Rattle.text.specs.Decimal.{plain}
use Rattle.text.specs.Tag.{begins}
use Rattle.formats.specs.Format.{Format}
use Rattle.formats.specs.Words.{Apart, apart-two, word_at, words}
use Rattle.formats.specs.Combine.{strip, pre, post, seq, seq_by, only, Recast, recast}
use Rattle.kinds.specs.declared.Kind.{Kind}
use Rattle.kinds.specs.declared.Kind.TheVariants.{Toe03}
use Rattle.message.specs.Contents.{TimeSeries}
use Rattle.message.specs.Bytes.{opening, ending, closing, element, observation_bytes, period_bytes, supplies, deliveries, supply_bytes, volume_bytes, series_bytes, in_series}
use Rattle.message.proofs.PositionsLaws.{position-small}
use Rattle.message.specs.Valid.{most, IsVolume, IsSeries, IsCounter, last_position}
use Rattle.message.specs.Reading.{Volume, of_volume}
use Rattle.message.proofs.ObservationForm.{plain_number, observations, observations-ok, ok-observations, period}

-- ---- a time series

pub apart-supplies : Apart supplies
unfolding supplies bytes strip begins
apart-supplies = apart-two (bytes "Off-take") (bytes "Injection") (λ rest. refl)

pub apart-deliveries : Apart deliveries
unfolding deliveries bytes strip begins
apart-deliveries = apart-two (bytes "DeliveryUp") (bytes "DeliveryDown") (λ rest. refl)

pub position-fits : (year month : ℕ) → last_position year month ≤ most
position-fits year month = omega (arith, position-small year month)

-- how many follow, at least one
abbrev pub counted : Format ℕ
counted = only (λ n. ltb 0 n) plain_number

unfoldable pub volume_body : Format Volume
volume_body =
    pre (opening "DeliveryDirection")
    (seq (post (words deliveries apart-deliveries) (closing "DeliveryDirection" ++ element "UnitType" (bytes "KWT") ++ opening "ObservationCounter"))
    (seq_by (post counted (ending "ObservationCounter" ++ opening "TimeSeriesPeriod"))
    (λ n. seq_by period (λ q. post (observations (last_position q.0 q.1) (position-fits q.0 q.1) n) (closing "TimeSeriesPeriod")))))

unfoldable pub volume_of : TimeSeries → Volume
volume_of s = (s.delivery, (length s.observations, ((s.year, s.month), s.observations)))

pub counted-to : (n m : ℕ) → counted.Ok n → m ≡ n → IsCounter m
counted-to n m ok e = record { some = omega (arith, ltb-true 0 n ok.1); fits = omega (arith, ok.0) }

pub counted-from : (n : ℕ) → IsCounter n → counted.Ok n
counted-from n c = (c.fits, lt-ltb 0 n c.some)

-- all but the supply direction
pub volume-to : (supply : ℕ) (v : Volume) → volume_body.Ok v → IsVolume (of_volume supply v)
unfolding volume_body of_volume period deliveries
volume-to supply v ok =
    let o = observations-ok (last_position v.1.1.0.0 v.1.1.0.1) (position-fits v.1.1.0.0 v.1.1.0.1) v.1.0 v.1.1.1 ok.1.1.1 in
    record {
      delivery = ok.0;
      period = ok.1.1.0;
      counted = counted-to v.1.0 (length v.1.1.1) ok.1.0 o.0;
      rising = o.1;
      each = o.2;
    }

pub volume-back : (supply : ℕ) (v : Volume) → volume_body.Ok v → volume_of (of_volume supply v) ≡ v
unfolding volume_body of_volume volume_of
volume-back supply v ok =
    let o = observations-ok (last_position v.1.1.0.0 v.1.1.0.1) (position-fits v.1.1.0.0 v.1.1.0.1) v.1.0 v.1.1.1 ok.1.1.1 in
    ap (λ (n : ℕ). (v.0, (n, v.1.1))) o.0

pub volume-from : (s : TimeSeries) → IsVolume s → volume_body.Ok (volume_of s)
unfolding volume_body volume_of period deliveries
volume-from s ok =
    let n = length s.observations in
    let l = ok-observations (last_position s.year s.month) (position-fits s.year s.month) n s.observations refl ok.rising ok.each in
    (ok.delivery, (counted-from n ok.counted, (ok.period, l)))

volume-join : (a w b u c n e t q o f : List ℕ) → a ++ (w ++ (b ++ u ++ c) ++ (n ++ (60 ∷ []) ++ (e ++ t) ++ (q ++ (o ++ f)))) ≡ (a ++ w ++ b) ++ u ++ (c ++ n ++ (60 ∷ e)) ++ (t ++ (q ++ o) ++ f)
volume-join a w b u c n e t q o f = simp append_assoc

pub volume-bytes : (s : TimeSeries) → volume_body.render (volume_of s) ≡ volume_bytes s
unfolding volume_body volume_of volume_bytes period observations closing
volume-bytes s =
    volume-join (opening "DeliveryDirection") (word_at deliveries s.delivery) (closing "DeliveryDirection") (element "UnitType" (bytes "KWT"))
    (opening "ObservationCounter") (plain (length s.observations)) (ending "ObservationCounter") (opening "TimeSeriesPeriod")
    (period_bytes s.year s.month) (flat_map observation_bytes s.observations) (closing "TimeSeriesPeriod")

-- its supply direction in it (TOE01, TOE02), or that of its access point (TOE03)
unfoldable pub own_body : Format (ℕ × Volume)
own_body =
    pre (opening "ToETimeSeries" ++ opening "SupplyDirection")
    (seq (post (words supplies apart-supplies) (closing "SupplyDirection")) (post volume_body (closing "ToETimeSeries")))

module _ (k : Kind) (own : (b : List ℕ) → in_series k b ≡ b) where
  pub own-recast : Recast own_body IsSeries (series_bytes k) (λ p. of_volume p.0 p.1) (λ s. (s.supply, volume_of s))
  unfolding own_body series_bytes supply_bytes supplies of_volume volume_of
  own-recast =
      record {
        to_ok = λ p ok. record { supply = ok.0; volume = volume-to p.0 p.1 ok.1 };
        from_ok = λ s ok. (ok.supply, volume-from s ok.volume);
        back = λ p ok. ap (λ (v : Volume). (p.0, v)) (volume-back p.0 p.1 ok.1);
        forth = λ s ok. refl;
        same = λ s ok. rw (own, volume-bytes) (simp append_assoc);
      }

  abbrev pub own_series : Format TimeSeries
  own_series = recast own_body IsSeries (series_bytes k) (λ p. of_volume p.0 p.1) (λ s. (s.supply, volume_of s)) own-recast

-- a series whose supply direction is x
pub record Supplied (x : ℕ) (s : TimeSeries) : Type 0 where
  pub supply : s.supply ≡ x
  pub volume : IsVolume s

unfoldable pub shared_body : Format Volume
shared_body = pre (opening "ToETimeSeries") (post volume_body (closing "ToETimeSeries"))

module _ (x : ℕ) where
  pub shared-recast : Recast shared_body (Supplied x) (series_bytes Toe03) (of_volume x) volume_of
  unfolding shared_body series_bytes supply_bytes of_volume volume_of
  shared-recast =
      record {
        to_ok = λ v ok. record { supply = refl; volume = volume-to x v ok };
        from_ok = λ s ok. volume-from s ok.volume;
        back = λ v ok. volume-back x v ok;
        forth = λ s ok. ap (λ (n : ℕ). of_volume n (volume_of s)) (sym ok.supply);
        same = λ s ok. rw volume-bytes (simp append_assoc);
      }

  abbrev pub shared_series : Format TimeSeries
  shared_series = recast shared_body (Supplied x) (series_bytes Toe03) (of_volume x) volume_of shared-recast
