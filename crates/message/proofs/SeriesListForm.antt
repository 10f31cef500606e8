-- The format of a partner's series: they rise, and they are of the month that was seen before them.
use Rattle.std.specs.Prelude.{◌≡◌, refl, Bool, true, ◌&&◌, ℕ, length}
use mathlib.Core.List.{List, [], ◌∷◌, flat_map, map}
use Rattle.integers.proofs.TestsLaws.{and_left, and_right, and_both}
use Rattle.integers.specs.Rises.{rises}
use Rattle.integers.specs.All.{All}
use Rattle.formats.specs.Format.{Format}
use Rattle.formats.specs.Combine.{only, Recast, recast}
use Rattle.formats.specs.Items.{ItemsOk}
use Rattle.formats.specs.Rising.{rising_items}
use Rattle.message.specs.Contents.{TimeSeries, place}
use Rattle.message.specs.Valid.{month_of}
use Rattle.message.specs.Months.{follows}

-- ---- series of one month

unfoldable pub agree : ℕ × ℕ → List (ℕ × ℕ) → Bool
agree seen [] = true
agree seen (q ∷ l) = follows seen q && agree q l

-- n series of a format F under the month that was seen
module _ (F : Format TimeSeries) (bytes : TimeSeries → List ℕ) (same : (s : TimeSeries) → F.render s ≡ bytes s) where
  abbrev pub following : ℕ × ℕ → Format TimeSeries
  following seen = only (λ s. follows seen (month_of s)) F

  to-agree : (seen : ℕ × ℕ) (l : List TimeSeries) → ItemsOk following (λ seen s. month_of s) seen l → All F.Ok l × (agree seen (map month_of l) ≡ true)
  unfolding ItemsOk All agree
  to-agree seen [] ok = (tt, refl)
  to-agree seen (s ∷ l) ok =
      let r = to-agree (month_of s) l ok.1 in
      ((ok.0.0, r.0), and_both ok.0.1 r.1)

  from-agree : (seen : ℕ × ℕ) (l : List TimeSeries) → All F.Ok l → agree seen (map month_of l) ≡ true → ItemsOk following (λ seen s. month_of s) seen l
  unfolding ItemsOk All agree
  from-agree seen [] a e = tt
  from-agree seen (s ∷ l) a e = (
    (a.0, and_left (follows seen (month_of s)) (agree (month_of s) (map month_of l)) e),
    from-agree (month_of s) l a.1 (and_right (follows seen (month_of s)) (agree (month_of s) (map month_of l)) e),
  )

  pub record SeriesList (n : ℕ) (seen : ℕ × ℕ) (l : List TimeSeries) : Type 0 where
    pub count : length l ≡ n
    pub rising : rises 0 (map place l) ≡ true
    pub each : All F.Ok l
    pub agrees : agree seen (map month_of l) ≡ true

  abbrev items_of : ℕ → ℕ × ℕ → Format (List TimeSeries)
  items_of n seen = rising_items following place (λ seen s. month_of s) bytes (λ st s. same s) n 0 seen

  pub list-recast : (n : ℕ) (seen : ℕ × ℕ) → Recast (items_of n seen) (SeriesList n seen) (flat_map bytes) (λ l. l) (λ l. l)
  list-recast n seen =
      record {
        to_ok = λ l ok. let r = to-agree seen l ok.each in record { count = ok.count; rising = ok.rising; each = r.0; agrees = r.1 };
        from_ok = λ l ok. record { count = ok.count; rising = ok.rising; each = from-agree seen l ok.each ok.agrees };
        back = λ l ok. refl;
        forth = λ l ok. refl;
        same = λ l ok. refl;
      }

  unfoldable pub series_list : ℕ → ℕ × ℕ → Format (List TimeSeries)
  series_list n seen = recast (items_of n seen) (SeriesList n seen) (flat_map bytes) (λ l. l) (λ l. l) (list-recast n seen)
