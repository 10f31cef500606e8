-- An engagement's numbers and refusal depend on its own point, that point's readings and engagements, and the tables alone.
-- No code needs it: it says that an engagement that comes or goes leaves the rows of other points as they are (C-19), and that a provider's volumes are the same
-- whatever else the register holds (C-21).
use Rattle.std.specs.Prelude.{◌≡◌, Bool, true, false, ◌&&◌, ◌||◌, ℕ, eqb, ◌+ℤ◌, ◌-ℤ◌, length}
use Rattle.std.proofs.Math.Path.{refl, ap, ap₂}
use Rattle.std.proofs.Math.Bool.{cond, not}
use mathlib.Core.List.{List, [], ◌∷◌, ◌++◌, map, flat_map}
use Rattle.std.proofs.Math.Option.{none, some}
use Rattle.std.proofs.Math.IntN.{pos}
use Rattle.std.proofs.Math.ListN.{take}
use Rattle.integers.specs.Sums.{sum_by}
use Rattle.integers.specs.Ranges.{range}
use Rattle.integers.specs.Keep.{keep}
use Rattle.integers.specs.First.{any_of}
use Rattle.grains.specs.Grains.{grains_z}
use Rattle.book.specs.declared.Method.{Method}
use Rattle.book.specs.declared.Method.TheVariants.{LastQuarter, HighXOfY, Adjusted}
use Rattle.book.specs.declared.Engagement.{Engagement}
use Rattle.book.specs.Book.{Book}
use Rattle.volumes.specs.Quarters.{quarter_hours, start, reference}
use Rattle.volumes.specs.Ranking.{ranked}
use Rattle.volumes.specs.Baseline.{point_of, watts, known, complete, mean, reading_before, window, own_reading, day_reading, day_readings, own_window, day_window, windowed, allowed, suits, is_on, engaged, regular, eligible, before, eligible_days, x_of, y_of, latest, day_sum, taken, high, addend, last_reading, baseline_by, baseline}
use Rattle.volumes.specs.Settlement.{needed_by, needed, too_few, refusal_number, delivered_by, delivered, requested_at, source_by, injection_by, source_correction, fsp_correction, injection_correction, corrections, signed, row}

-- an engagement as one of point 0
unfoldable pub alone : Engagement → Engagement
alone e = record { point = 0; day = e.day; first = e.first; count = e.count; direction = e.direction; notice = e.notice; requested = e.requested }

-- the engagements of a point, as engagements of point 0
unfoldable pub of_point : ℕ → List Engagement → List Engagement
of_point p l = map alone (keep (λ e. eqb e.point p) l)

-- the book with an engagement's point alone, and that point's engagements
unfoldable pub only : Book → Engagement → Book
only book e =
    record {
      version = book.version;
      calendar = book.calendar;
      category = book.category;
      x = book.x;
      y = book.y;
      points = point_of book e ∷ [];
      reading = λ p. book.reading e.point;
      engagements = of_point e.point book.engagements;
    }

-- the days with an engagement are those of the point's engagements
engaged-of : (p d : ℕ) (l : List Engagement) → any_of (is_on p d) l ≡ any_of (is_on 0 d) (of_point p l)
unfolding any_of of_point keep alone
engaged-of p d [] = refl
engaged-of p d (e ∷ l) = go (eqb e.point p) (engaged-of p d l)
  where
    rest : List Engagement
    rest = keep (λ f. eqb f.point p) l

    go : (b : Bool) → any_of (is_on p d) l ≡ any_of (is_on 0 d) (map alone rest)
        → ((b && eqb e.day d) || any_of (is_on p d) l) ≡ any_of (is_on 0 d) (map alone (cond b (e ∷ rest) rest))
    go true h = ap (λ (b : Bool). eqb e.day d || b) h
    go false h = h

module _ (book : Book) (e : Engagement) where
  pub engaged-only : (d : ℕ) → engaged book e.point d ≡ engaged (only book e) 0 d
  unfolding engaged only
  engaged-only d = engaged-of e.point d book.engagements

  pub suits-only : (d : ℕ) → suits book e d ≡ suits (only book e) (alone e) d
  unfolding only alone quarter_hours start reference point_of known complete reading_before window day_reading day_readings day_window windowed allowed suits range
  suits-only d = refl

  pub regular-only : (d : ℕ) → regular book e d ≡ regular (only book e) (alone e) d
  unfolding only alone reference point_of regular
  regular-only d = refl

  pub eligible-only : (d : ℕ) → eligible book e d ≡ eligible (only book e) (alone e) d
  unfolding alone eligible
  eligible-only d = λ i. not (engaged-only d i) && (regular-only d i && suits-only d i)

  pub days-only : eligible_days book e ≡ eligible_days (only book e) (alone e)
  unfolding alone eligible_days
  days-only = λ i. keep (λ d. eligible-only d i) (before e.day)

  pub taken-only : taken book e ≡ taken (only book e) (alone e)
  unfolding only alone quarter_hours start reference watts day_reading day_readings latest day_sum taken sum_by
  taken-only = λ i. take (x_of book e) (ranked (day_sum book e) (take (y_of book e) (days-only i)))

  by_only : (m : Method) (k : ℕ) → baseline_by m book e k ≡ baseline_by m (only book e) (alone e) k
  unfolding only alone quarter_hours start reference point_of watts known complete mean reading_before window own_reading day_reading own_window day_window high addend last_reading baseline_by range
  by_only LastQuarter k = refl
  by_only HighXOfY k = λ i. mean (map (day_reading book e k) (taken-only i))
  by_only Adjusted k = λ i. mean (map (day_reading book e k) (taken-only i)) +ℤ (mean (own_window book e) -ℤ mean (flat_map (day_window book e) (taken-only i)))

  pub baseline-only : (k : ℕ) → baseline book e k ≡ baseline (only book e) (alone e) k
  unfolding baseline only alone point_of
  baseline-only k = by_only (point_of book e).method k

  pub delivered-only : (k : ℕ) → delivered book e k ≡ delivered (only book e) (alone e) k
  unfolding only alone delivered point_of own_reading start
  delivered-only k = ap (λ z. delivered_by e.direction (point_of book e) z (grains_z (watts (own_reading book e k)))) (baseline-only k)

  pub row-only : (k : ℕ) → row book e k ≡ row (only book e) (alone e) k
  unfolding only alone row corrections source_correction fsp_correction injection_correction requested_at own_reading start
  row-only k =
      let read = grains_z (watts (own_reading book e k)) in
      ap₂
      (λ z v. z ∷ pos v ∷ signed e.direction (pos (source_by book.version e.direction z read v)) ∷ signed e.direction (pos (requested_at e k) -ℤ pos v) ∷ signed e.direction (pos (injection_by book.version e.direction z read v)) ∷ [])
      (baseline-only k)
      (delivered-only k)

  needed-only : (m : Method) → needed_by m book e ≡ needed_by m (only book e) (alone e)
  unfolding only alone start reading_before window own_window last_reading needed_by
  needed-only LastQuarter = refl
  needed-only HighXOfY = refl
  needed-only Adjusted = refl

  pub refusal-only : refusal_number book e ≡ refusal_number (only book e) (alone e)
  unfolding only alone quarter_hours start point_of own_reading needed refusal_number
  refusal-only =
      ap₂ (λ l days. cond (complete (map (own_reading book e) (quarter_hours e) ++ l)) (cond (too_few (point_of book e).method (y_of book e) (length days)) (some 9) none) (some 8)) (needed-only (point_of book e).method) days-only
