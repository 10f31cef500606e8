-- Where an engagement's quarter-hours, and those of reference days that stand for them, lie in the calendar and the month.
use Rattle.std.specs.Prelude.{◌≡◌, refl, Bool, true, false, cond, ◌&&◌, ℕ, suc, ◌+◌, ◌-◌, ◌≤◌, ◌<◌, eqb, leb}
use native.Mathlib.Omega.{arith}
use Rattle.std.proofs.Common.{leb-true, leb-false}
use Rattle.quarters.specs.declared.Calendar.{Calendar}
use Rattle.book.specs.declared.Engagement.{Engagement}
use Rattle.quarters.specs.Quarters.{days_of, quarters, is_clock_change, day_start, quarters_of, in_calendar, position, month_quarters}
use Rattle.quarters.specs.QuartersInner.{usual_day}
use Rattle.quarters.proofs.QuartersLaws.{quarters-cases, quarters-range, no_change, day-start-next, day-start-mono, day-inside, settled-inside}
use Rattle.volumes.specs.Quarters.{start, looks_at, reference_quarter, reference}
use Rattle.volumes.specs.SoundInner.{Placed}

-- where an engagement starts in the calendar
pub start_is : (c : Calendar) (e : Engagement) → start c e ≡ in_calendar c e.day e.first
unfolding start
start_is c e = refl

-- what a quarter-hour of a day looks at is one of 96 (m is 1), and the day's end looks at theirs (m is 0)
place-room : (c : Calendar) (a q m : ℕ) → m ≤ 1 → q + m ≤ quarters c a → looks_at (quarters c a) q + m ≤ usual_day
unfolding looks_at
place-room c a = quarters-cases (λ n. (q m : ℕ) → m ≤ 1 → q + m ≤ n → looks_at n q + m ≤ usual_day) short (λ q m few h. h) long c a
  where
    short : (q m : ℕ) → m ≤ 1 → q + m ≤ 92 → looks_at 92 q + m ≤ usual_day
    short q m few h = go (leb 8 q)
      where
        go : (b : Bool) → cond b (q + 4) q + m ≤ usual_day
        go true = omega arith
        go false = omega arith

    long : (q m : ℕ) → m ≤ 1 → q + m ≤ 100 → looks_at 100 q + m ≤ usual_day
    long q m few h = go (leb 12 q) refl
      where
        go : (b : Bool) → leb 12 q ≡ b → cond b (q - 4) q + m ≤ usual_day
        go true e = omega (arith, leb-true 12 q e)
        go false e = omega (arith, leb-false 12 q e)

pub reference-most : (c : Calendar) (a q : ℕ) → q ≤ quarters c a → reference_quarter c a q ≤ usual_day
unfolding reference_quarter
reference-most c a q h = omega (arith, place-room c a q 0 (omega arith) (omega arith))

pub reference-below : (c : Calendar) (a q : ℕ) → q < quarters c a → reference_quarter c a q < usual_day
unfolding reference_quarter
reference-below c a q h = omega (arith, place-room c a q 1 (omega arith) (omega arith))

-- it is at most 4 later
pub reference-near : (c : Calendar) (a q : ℕ) → reference_quarter c a q ≤ q + 4
unfolding reference_quarter looks_at
reference-near c a q = go (eqb (quarters c a) 92 && leb 8 q) (eqb (quarters c a) 100 && leb 12 q)
  where
    go : (x y : Bool) → cond x (q + 4) (cond y (q - 4) q) ≤ q + 4
    go true y = omega arith
    go false true = omega arith
    go false false = omega arith

-- 96 quarter-hours from the start of a day before another lie in the calendar, whatever the day's length: so code may read before it tests
pub day-before-inside : (c : Calendar) (a d : ℕ) → a < days_of c → d < a → day_start c d + usual_day ≤ quarters_of c
day-before-inside c a d h l =
    omega (arith, day-start-next c d, day-start-next c (suc d), (quarters-range c d).least, (quarters-range c (suc d)).least, day-start-mono c (suc (suc d)) (days_of c) (omega arith))

module _ (c : Calendar) (points : ℕ) (e : Engagement) (h : Placed c points e) where
  pub start-inside : (k : ℕ) → k < e.count → start c e + k < quarters_of c
  unfolding start
  start-inside k l = let i : in_calendar c e.day (e.first + k) < quarters_of c = day-inside c e.day (e.first + k) h.inside (omega (arith, h.ends)) in omega arith

  -- a reference place is below 96, and so on its day, which isn't one on which the clocks change
  pub reference-place : (k : ℕ) → k < e.count → reference_quarter c e.day (e.first + k) < usual_day
  reference-place k m = reference-below c e.day (e.first + k) (omega (arith, h.ends))

  pub reference-on : (d k : ℕ) → is_clock_change c d ≡ false → k < e.count → reference_quarter c e.day (e.first + k) < quarters c d
  reference-on d k n m = omega (arith, reference-place k m, no_change c d n)

  pub reference-inside : (d k : ℕ) → d < e.day → k < e.count → reference c e d k < quarters_of c
  unfolding reference
  reference-inside d k l m = omega (arith, reference-place k m, day-before-inside c e.day d h.inside l)

  -- its positions are 1 to the month's quarter-hours
  pub position-inside : position c e.day e.first + e.count ≤ month_quarters c + 1
  position-inside = settled-inside c e.day e.first e.count h.settled h.inside h.ends
