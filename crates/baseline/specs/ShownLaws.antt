-- A book's runs of readings, and its windows, are those of the section of readings.
use Rattle.std.specs.Prelude.{◌≡◌, refl, false, List, [], ◌∷◌, map, ℕ, zero, suc, ◌+◌, ◌-◌, ◌*◌, ◌≤◌, ◌<◌, leb, length, None}
use Rattle.std.proofs.Math.Path.{ap}
use Rattle.std.proofs.Common.{ap₂, ◌∙◌, arith, le-leb}
use Rattle.std.proofs.Math.Bool.{cond}
use Rattle.std.proofs.lemmas.Bool.{lt-leb}
use Rattle.integers.specs.Ranges.{range}
use Rattle.wire.specs.Readings.{Reading, reading_at}
use Rattle.quarters.specs.declared.Calendar.{Calendar}
use Rattle.book.specs.declared.Engagement.{Engagement}
use Rattle.quarters.specs.Quarters.{days_of, quarters_of}
use Rattle.quarters.proofs.QuartersLaws.{quarters-most, day-start-next, day-start-mono, days-few, quarters-few}
use Rattle.book.specs.Book.{Book}
use Rattle.volumes.specs.Quarters.{quarter_hours, start, reference}
use Rattle.volumes.specs.Baseline.{reading_before, window, own_reading, day_reading, day_readings, own_window, day_window, known, complete}
use Rattle.baseline.specs.declared.shown.Shown.{Shown}
use Rattle.baseline.specs.TallyInner.{in_run}
use Rattle.baseline.specs.RunsInner.{standing, StandsOn}
use Rattle.baseline.specs.RunsLaws.{stands-runs}
use Rattle.baseline.specs.ShownInner.{Shows, Fits, before_in, window_in}
use Rattle.integers.proofs.RangesLaws.{range-shift}
use Rattle.quarters.specs.QuartersInner.{longest_day, longest_calendar}

map-cong : {A B : Type 0} (f g : A → B) (l : List A) → ((a : A) → f a ≡ g a) → map f l ≡ map g l
map-cong f g [] h = refl
map-cong f g (a ∷ l) h = ap₂ ◌∷◌ (h a) (map-cong f g l h)

module _ {shown : Shown} {calendar readings : List ℕ} {book : Book} (s : Shows shown calendar readings book) where
  -- a run of readings from quarter-hour q on
  run_at : (q n : ℕ) → map (λ k. book.reading shown.e.point (q + k)) (range 0 n) ≡ in_run readings q n
  run_at q n =
      let none : q + 0 ≡ q = omega arith in
      map-cong (λ k. book.reading shown.e.point (q + k)) (λ k. reading_at readings (q + k)) (range 0 n) (λ k. s.reading (q + k))
      ∙ range-shift (reading_at readings) q 0 n
      ∙ ap (λ (a : ℕ). in_run readings a n) none

  -- the readings of day d that stand for the engagement's quarter-hours
  pub day-reading : (k d : ℕ) → day_reading book shown.e k d ≡ reading_at readings (reference shown.c shown.e d k)
  unfolding day_reading
  day-reading k d = s.reading (reference book.calendar shown.e d k) ∙ ap (λ (b : Calendar). reading_at readings (reference b shown.e d k)) s.when

  pub day-standing : (d : ℕ) → day_readings book shown.e d ≡ standing readings shown.c shown.e d
  unfolding day_readings
  day-standing d = map-cong _ _ (quarter_hours shown.e) (λ k. day-reading k d)

  -- those of A in the engagement's quarter-hours
  pub own-run : map (own_reading book shown.e) (quarter_hours shown.e) ≡ in_run readings (start shown.c shown.e) shown.e.count
  unfolding own_reading quarter_hours
  own-run =
      map-cong _ (λ k. book.reading shown.e.point (start shown.c shown.e + k)) (range 0 shown.e.count) (λ k. ap (λ (b : Calendar). book.reading shown.e.point (start b shown.e + k)) s.when)
      ∙ run_at (start shown.c shown.e) shown.e.count

  pub before_at : (q n : ℕ) → reading_before book shown.e.point q n ≡ before_in readings q n
  unfolding reading_before
  before_at q n = ap (λ (r : Reading). cond (leb n q) r None) (s.reading (q - n))

  pub window-at : (q : ℕ) → window book shown.e.point q ≡ window_in readings q
  unfolding window
  window-at q = map-cong _ _ (range 0 12) (λ i. before_at q (24 - i))

  pub start-at : start book.calendar shown.e ≡ start shown.c shown.e
  start-at = ap (λ (b : Calendar). start b shown.e) s.when

  pub own-window : own_window book shown.e ≡ window_in readings (start shown.c shown.e)
  unfolding own_window
  own-window = window-at (start book.calendar shown.e) ∙ ap (window_in readings) start-at

  pub day-window : (d : ℕ) → day_window book shown.e d ≡ window_in readings (reference shown.c shown.e d 0)
  unfolding day_window
  day-window d = window-at (reference book.calendar shown.e d 0) ∙ ap (λ (b : Calendar). window_in readings (reference b shown.e d 0)) s.when

-- a window that lies in the calendar is a run of 12, and another is not whole
pub window-run : (readings : List ℕ) (q : ℕ) → 24 ≤ q → window_in readings q ≡ in_run readings (q - 24) 12
unfolding range
window-run readings q h =
    let none : q - 24 + 0 ≡ q - 24 = omega arith in
    from 0 12 (omega arith) ∙ range-shift (reading_at readings) (q - 24) 0 12 ∙ ap (λ (a : ℕ). in_run readings a 12) none
  where
    from : (a n : ℕ) → a + n ≤ 24 → map (λ i. before_in readings q (24 - i)) (range a n) ≡ map (λ i. reading_at readings (q - 24 + i)) (range a n)
    from a zero k = refl
    from a (suc n) k =
        let place : q - (24 - a) ≡ q - 24 + a = omega arith in
        ap₂ ◌∷◌ (rw (le-leb (24 - a) q (omega arith)) (ap (reading_at readings) place)) (from (suc a) n (omega arith))

pub window-early : (readings : List ℕ) (q : ℕ) → q < 24 → complete (window_in readings q) ≡ false
unfolding complete known range
window-early readings q h = rw (lt-leb 24 q h)

-- where the engagement's quarter-hours stand among the readings
pub record DayStands (c : Calendar) (e : Engagement) (room : ℕ) : Type 0 where
  pub many : e.count ≤ longest_day
  pub early : e.day < 64
  pub inside : start c e + e.count ≤ quarters_of c
  pub few : quarters_of c ≤ longest_calendar
  pub roomy : 4 * quarters_of c ≤ room

pub stands : (shown : Shown) (calendar readings : List ℕ) → Fits shown calendar readings → DayStands shown.c shown.e (length readings)
unfolding start
stands shown calendar readings f =
    let c = shown.c in
    let d = shown.e.day in
    let n = days-few c f.ranged in
    let q = f.quarter in
    record {
      many = omega (arith, quarters-most c d);
      early = omega (arith, f.day);
      inside = omega (arith, day-start-next c d, day-start-mono c (suc d) (days_of c) f.day);
      few = quarters-few c f.ranged;
      roomy = f.room;
    }

-- and those that stand for them on a day before
pub stands_on : (shown : Shown) (calendar readings : List ℕ) (d : ℕ) → Fits shown calendar readings → d < shown.e.day → StandsOn shown.c shown.e d
stands_on shown calendar readings d f h = stands-runs shown.c shown.e d f.day (days-few shown.c f.ranged).1 f.quarter h

-- both
pub lies : {shown : Shown} {calendar readings : List ℕ} → Fits shown calendar readings → (d : ℕ) → d < shown.e.day → DayStands shown.c shown.e (length readings) × StandsOn shown.c shown.e d
lies {shown} {calendar} {readings} f d h = (stands shown calendar readings f, stands_on shown calendar readings d f h)
