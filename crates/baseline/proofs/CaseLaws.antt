-- What the check applies by itself: laws in the forms that it finds.
use Rattle.std.specs.Prelude.{◌≡◌, List, Option, Some, None, is_some, ℕ, ◌+◌, ◌-◌, ◌*◌, ◌≤◌, ◌<◌, eqb, Bool, not, ◌&&◌, length, true, false, get_or}
use Rattle.std.proofs.Common.{arith, ap, sym, ◌∙◌, ne_eqb}
use Rattle.wire.specs.Readings.{reading_at}
use Rattle.wire.specs.ReadingsInner.{Raised, RaisedIf}
use Rattle.quarters.specs.Quarters.{is_clock_change}
use Rattle.book.specs.Register.{excludes}
use Rattle.std.proofs.Math.Bool.{and-true, and-false}
use Rattle.integers.proofs.TestsLaws.{both}
use borrow.Author.Tests.{not-true}
use Rattle.volumes.specs.Quarters.{start, reference_quarter, reference}
use Rattle.volumes.proofs.QuartersLaws.{reference-most}
use Rattle.volumes.specs.Baseline.{known, complete}
use Rattle.volumes.proofs.WindowsLaws.{touches-is}
use Rattle.baseline.specs.declared.shown.Shown.{Shown}
use Rattle.baseline.specs.ShownInner.{Fits, alike}
use Rattle.baseline.specs.ShownLaws.{stands, lies, window-run, window-early}
use Rattle.baseline.specs.TallyInner.{in_run, Summed}
use Rattle.baseline.specs.RunsInner.{together, Lie}
use Rattle.baseline.specs.RunsLaws.{two_runs}
use Rattle.book.specs.declared.Engagement.{Engagement}
use Rattle.quarters.specs.declared.Calendar.{Calendar}
use Rattle.quarters.specs.QuartersInner.{usual_day, longest_day, longest_calendar}
use Rattle.baseline.specs.TallyLaws.{there, is_whole, run_more, sum-none, sum-more, complete-more}

-- where the engagement's quarter-hours stand
pub early-day : {shown : Shown} {calendar readings : List ℕ} → Fits shown calendar readings → shown.e.day < 64
early-day f = (stands _ _ _ f).early

pub own-room : {shown : Shown} {calendar readings : List ℕ} → Fits shown calendar readings → 4 * (start shown.c shown.e + shown.e.count) ≤ length readings
own-room f = let m = stands _ _ _ f in omega (arith, m.inside, m.roomy)

pub own-few : {shown : Shown} {calendar readings : List ℕ} → Fits shown calendar readings → shown.e.count ≤ longest_day
own-few f = (stands _ _ _ f).many

-- and what stands for them on a day before
module _ {shown : Shown} {calendar readings : List ℕ} (f : Fits shown calendar readings) (d : ℕ) (h : d < shown.e.day) where
  pub early-before : d < 64
  early-before = (lies f d h).1.early

  pub day-room : 4 * reference shown.c shown.e d 0 ≤ length readings
  day-room = let m = lies f d h in omega (arith, m.1.each 0 f.some, m.0.roomy)

  pub first-room : 4 * (reference shown.c shown.e d 0 + together shown.c shown.e) ≤ length readings
  first-room = let m = lies f d h in omega (arith, m.1.first, m.0.roomy)

  pub second-room : 4 * (reference shown.c shown.e d (together shown.c shown.e) + (shown.e.count - together shown.c shown.e)) ≤ length readings
  second-room = let m = lies f d h in omega (arith, m.1.second, m.0.roomy)

-- the first of them is one of the 96 of a day
pub usual-place : {shown : Shown} {calendar readings : List ℕ} → Fits shown calendar readings → reference_quarter shown.c shown.e.day (shown.e.first + 0) ≤ usual_day
usual-place {shown} f = reference-most shown.c shown.e.day (shown.e.first + 0) (omega (arith, f.some, f.quarter))

-- a day that is like A is one on which the clocks don't change
pub usual-day : (calendar : List ℕ) (shown : Shown) (d : ℕ) → alike calendar shown d ≡ true → is_clock_change shown.c d ≡ false
usual-day calendar shown d h =
    let free = (both (eqb (get_or calendar d 0) (get_or calendar shown.e.day 0)) (not (excludes shown.closed d) && not (is_clock_change shown.c d)) h).1 in
    not-true _ (both (not (excludes shown.closed d)) (not (is_clock_change shown.c d)) free).1

pub together-most : (c : Calendar) (e : Engagement) → together c e ≤ e.count
together-most c e = (two_runs c e).most

pub ruleset placed = (early-day, own-room, own-few, early-before, day-room, usual-place)

pub ruleset usual_days = (usual-day)

pub ruleset two_rooms = (first-room, second-room, together-most)

-- a raised reading is 0 where the reading is missing
pub raised-known : (readings : List ℕ) (i r : ℕ) → Raised readings i r → not (eqb r 0) ≡ known (reading_at readings i)
raised-known readings i r h = (there _ r h.range h.is).is

-- one reading more of a run
pub sum-next : (readings : List ℕ) (at i sum r : ℕ) → Summed (in_run readings at i) i sum → Raised readings (at + i) r → r < 4294967296 → Summed (in_run readings at (i + 1)) (i + 1) (sum + r)
sum-next readings at i sum r h raised small = rw (run_more readings at i) (sum-more (in_run readings at i) i sum _ r h (there _ r raised.range raised.is) small)

pub whole-next : (readings : List ℕ) (at i r : ℕ) → Raised readings (at + i) r → complete (in_run readings at (i + 1)) ≡ (complete (in_run readings at i) && not (eqb r 0))
whole-next readings at i r raised = ap complete (run_more readings at i) ∙ complete-more (in_run readings at i) _ ∙ ap (λ (b : Bool). complete (in_run readings at i) && b) (sym (raised-known readings (at + i) r raised))

-- the same of a reading that is there, and of a missing one
pub whole-there : (readings : List ℕ) (at i r : ℕ) → Raised readings (at + i) r → 1 ≤ r → complete (in_run readings at i) ≡ complete (in_run readings at (i + 1))
whole-there readings at i r raised some = sym (whole-next readings at i r raised ∙ ap (λ (b : Bool). complete (in_run readings at i) && not b) (ne_eqb r 0 (λ z. omega (arith, some))) ∙ and-true _)

pub whole-none : (readings : List ℕ) (at i : ℕ) → Raised readings (at + i) 0 → false ≡ complete (in_run readings at (i + 1))
whole-none readings at i raised = sym (whole-next readings at i 0 raised ∙ and-false _)

pub sum-none-next : (readings : List ℕ) (at i sum : ℕ) → Summed (in_run readings at i) i sum → Raised readings (at + i) 0 → Summed (in_run readings at (i + 1)) (i + 1) sum
sum-none-next readings at i sum h raised = let same : sum + 0 ≡ sum = omega arith in rw (← same) (sum-next readings at i sum 0 h raised (omega arith))

-- one that is there or none
pub raised-told : (readings : List ℕ) (i : ℕ) (o : Option ℕ) → RaisedIf readings i o → is_some o ≡ known (reading_at readings i)
raised-told readings i (Some r) h = ap not (sym (ne_eqb r 0 (λ z. omega (arith, h.1)))) ∙ raised-known readings i r h.0
raised-told readings i None h = raised-known readings i 0 h

pub ruleset raised_readings = (raised-told)

pub ruleset windows = (window-run, window-early)

pub ruleset touched_windows = (touches-is)

pub ruleset wholes = (is_whole)

pub ruleset run_steps = (sum-none)

-- what is to be read of the days is there
module _ {readings starts : List ℕ} {place back n : ℕ} (h : Lie readings starts place back n) (j : ℕ) (k : j < length starts) where
  pub lie-inside : get_or starts j 0 + place ≤ longest_calendar
  lie-inside = (h.lies j k).inside

  pub lie-from : back ≤ get_or starts j 0 + place
  lie-from = (h.lies j k).from

  pub lie-room : 4 * (get_or starts j 0 + place - back + n) ≤ length readings
  lie-room = (h.lies j k).room

pub ruleset lying_days = (lie-inside, lie-from, lie-room)
