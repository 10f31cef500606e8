-- Days of the calendar stand one after another, 96 quarter-hours each but for the one on which the clocks change; those of the month are as many as the file's
-- positions; and how many each has at most.
use Rattle.std.specs.Prelude.{◌≡◌, refl, Bool, true, false, cond, not, ℕ, zero, suc, ◌+◌, ◌-◌, ◌*◌, ◌≤◌, ◌<◌, eqb, leb, ltb}
use Rattle.std.proofs.Common.{sym, ⊎_elim, mul-le-mul, eq-or-lt_of_le, arith, lit≤, leb-true, leb-false, ltb-true, ltb-false, eqb-true, lt-ltb, le-ltb}
use Rattle.std.proofs.lemmas.Bool.{eqb-false}
use Rattle.calendar.specs.declared.Clock.{Clock}
use Rattle.calendar.specs.declared.Clock.TheVariants.{Same, Shorter, Longer}
use Rattle.calendar.specs.Dates.{month_length, last_sunday, calendar_days}
use Rattle.calendar.proofs.DatesLaws.{month-length, no-month, not-february, last-sunday-is}
use Rattle.calendar.specs.Clocks.{clock_of}
use Rattle.calendar.proofs.ClocksLaws.{Before, march-clock, october-clock, other-clock}
use Rattle.quarters.specs.declared.Calendar.{Calendar}
use Rattle.quarters.specs.Quarters.{days_of, quarters_by, quarters, is_clock_change, day_start, quarters_of, in_calendar, position, month_quarters, quarters_in_month, origin_of}
use Rattle.quarters.specs.QuartersInner.{cell_of, Ranged, longest_day, longest_month, longest_calendar, most_reading_bytes, farthest_origin}

-- ---- a day

-- it has 92, 96 or 100: what holds of these three holds of each day
pub quarters-cases : (P : ℕ → Type 0) → P 92 → P 96 → P 100 → (c : Calendar) (d : ℕ) → P (quarters c d)
unfolding quarters quarters_by
quarters-cases P short usual long c d = by c.clock
  where
    by : (k : Clock) → P (quarters_by k d)
    by Same = usual
    by (Shorter at) = go (eqb d at)
      where
        go : (t : Bool) → P (cond t 92 96)
        go true = short
        go false = usual
    by (Longer at) = go (eqb d at)
      where
        go : (t : Bool) → P (cond t 100 96)
        go true = long
        go false = usual

pub record Lengths (n : ℕ) : Type 0 where
  pub least : 92 ≤ n
  pub most : n ≤ longest_day

pub quarters-range : (c : Calendar) (d : ℕ) → Lengths (quarters c d)
quarters-range = quarters-cases Lengths (record { least = lit≤ tt; most = lit≤ tt }) (record { least = lit≤ tt; most = lit≤ tt }) (record { least = lit≤ tt; most = lit≤ tt })

pub quarters-most : (c : Calendar) (d : ℕ) → quarters c d ≤ longest_day
quarters-most c d = (quarters-range c d).most

pub no_change : (c : Calendar) (d : ℕ) → is_clock_change c d ≡ false → quarters c d ≡ 96
unfolding is_clock_change
no_change c d e = go (eqb (quarters c d) 96) refl e
  where
    go : (b : Bool) → eqb (quarters c d) 96 ≡ b → not b ≡ false → quarters c d ≡ 96
    go true p q = eqb-true (quarters c d) 96 p
    go false p q = let z : ◌≡◌ {A = ℕ} 0 1 = cc in absurd (omega arith)

-- ---- where days start

pub day-start-zero : (c : Calendar) → day_start c 0 ≡ 0
unfolding day_start
day-start-zero c = refl

pub day-start-next : (c : Calendar) (d : ℕ) → day_start c (suc d) ≡ day_start c d + quarters c d
unfolding day_start
day-start-next c d = refl

-- the closed form: 96 a day, 4 fewer or more behind the change
unfoldable pub closed_by : Clock → ℕ → ℕ
closed_by Same d = 96 * d
closed_by (Shorter at) d = cond (ltb at d) (96 * d - 4) (96 * d)
closed_by (Longer at) d = cond (ltb at d) (96 * d + 4) (96 * d)

closed-next : (k : Clock) (d : ℕ) → closed_by k d + quarters_by k d ≡ closed_by k (suc d)
unfolding closed_by quarters_by
closed-next Same d = omega arith
closed-next (Shorter at) d = go (ltb at d) (eqb d at) refl refl
  where
    go : (a b : Bool) → ltb at d ≡ a → eqb d at ≡ b → cond a (96 * d - 4) (96 * d) + cond b 92 96 ≡ cond (ltb at (suc d)) (96 * suc d - 4) (96 * suc d)
    go true true p q = absurd (omega (arith, ltb-true at d p, eqb-true d at q))
    go true false p q = rw (lt-ltb at (suc d) (omega (arith, ltb-true at d p))) (omega (arith, ltb-true at d p))
    go false true p q = rw (lt-ltb at (suc d) (omega (arith, eqb-true d at q))) (omega arith)
    go false false p q = rw (le-ltb at (suc d) (omega (arith, ltb-false at d p, eqb-false d at q))) (omega arith)
closed-next (Longer at) d = go (ltb at d) (eqb d at) refl refl
  where
    go : (a b : Bool) → ltb at d ≡ a → eqb d at ≡ b → cond a (96 * d + 4) (96 * d) + cond b 100 96 ≡ cond (ltb at (suc d)) (96 * suc d + 4) (96 * suc d)
    go true true p q = absurd (omega (arith, ltb-true at d p, eqb-true d at q))
    go true false p q = rw (lt-ltb at (suc d) (omega (arith, ltb-true at d p))) (omega arith)
    go false true p q = rw (lt-ltb at (suc d) (omega (arith, eqb-true d at q))) (omega arith)
    go false false p q = rw (le-ltb at (suc d) (omega (arith, ltb-false at d p, eqb-false d at q))) (omega arith)

closed-zero : (k : Clock) → closed_by k 0 ≡ 0
unfolding closed_by
closed-zero Same = refl
closed-zero (Shorter at) = rw (le-ltb at 0 (omega arith)) refl
closed-zero (Longer at) = rw (le-ltb at 0 (omega arith)) refl

pub day-start-is : (c : Calendar) (d : ℕ) → day_start c d ≡ closed_by c.clock d
unfolding day_start quarters
day-start-is c zero = sym (closed-zero c.clock)
day-start-is c (suc d) = rw (day-start-is c d) (closed-next c.clock d)

-- in numbers: where no more is needed, this is enough
pub record About (d n : ℕ) : Type 0 where
  pub least : 96 * d ≤ n + 4
  pub most : n ≤ 96 * d + 4

closed-about : (k : Clock) (d : ℕ) → About d (closed_by k d)
unfolding closed_by
closed-about Same d = record { least = omega arith; most = omega arith }
closed-about (Shorter at) d = go (ltb at d)
  where
    go : (b : Bool) → About d (cond b (96 * d - 4) (96 * d))
    go true = record { least = omega arith; most = omega arith }
    go false = record { least = omega arith; most = omega arith }
closed-about (Longer at) d = go (ltb at d)
  where
    go : (b : Bool) → About d (cond b (96 * d + 4) (96 * d))
    go true = record { least = omega arith; most = omega arith }
    go false = record { least = omega arith; most = omega arith }

pub day-start-about : (c : Calendar) (d : ℕ) → About d (day_start c d)
day-start-about c d = rw (day-start-is c d) (closed-about c.clock d)

pub day-start-mono : (c : Calendar) (a b : ℕ) → a ≤ b → day_start c a ≤ day_start c b
day-start-mono c a zero h = let e : a ≡ 0 = omega arith in rw e (omega arith)
day-start-mono c a (suc b) h =
    ⊎_elim (λ e. rw e (omega arith)) (λ l. let i : day_start c a ≤ day_start c b = day-start-mono c a b (omega arith) in omega (arith, day-start-next c b)) (eq-or-lt_of_le h)

-- a quarter-hour of a day of the calendar lies in the calendar
pub day-inside : (c : Calendar) (d q : ℕ) → d < days_of c → q < quarters c d → in_calendar c d q < quarters_of c
day-inside c d q h k = omega (arith, day-start-next c d, day-start-mono c (suc d) (days_of c) h)

-- and one of a settled day in the month: positions are 1 to the month's quarter-hours
pub settled-inside : (c : Calendar) (d q n : ℕ) → c.lead ≤ d → d < days_of c → q + n ≤ quarters c d → position c d q + n ≤ month_quarters c + 1
unfolding position month_quarters
settled-inside c d q n settled inside ends = omega (arith, day-start-next c d, day-start-mono c (suc d) (days_of c) inside, day-start-mono c c.lead d settled)

-- positions are counted from 1
pub cell-position : (c : Calendar) (d q : ℕ) → position c d q ≡ 1 + cell_of c d q
unfolding position
cell-position c d q = omega arith

-- ---- the month

-- the closed form up to the change, and behind it
closed-to : (at d : ℕ) → d ≤ at → (closed_by (Shorter at) d ≡ 96 * d) × (closed_by (Longer at) d ≡ 96 * d)
unfolding closed_by
closed-to at d h = (rw (le-ltb at d h), rw (le-ltb at d h))

closed-from : (at d : ℕ) → at < d → (closed_by (Shorter at) d ≡ 96 * d - 4) × (closed_by (Longer at) d ≡ 96 * d + 4)
unfolding closed_by
closed-from at d h = (rw (lt-ltb at d h), rw (lt-ltb at d h))

-- behind the change days have 96
closed_after : (k : Clock) (d n : ℕ) → Before d k → d ≤ n → closed_by k n ≡ closed_by k d + 96 * (n - d)
unfolding closed_by
closed_after Same d n b h = omega arith
closed_after (Shorter at) d n b h = rw (lt-ltb at d b, lt-ltb at n (omega arith)) (omega arith)
closed_after (Longer at) d n b h = rw (lt-ltb at d b, lt-ltb at n (omega arith)) (omega arith)

-- March loses four on its last Sunday, October gains four, and another month has its change, if any, behind it
march : (y lead : ℕ) → closed_by (clock_of y 3 lead) (lead + month_length y 3) - closed_by (clock_of y 3 lead) lead ≡ 2972
march y lead =
    let at = lead + last_sunday y 3 - 1 in
    let s = last-sunday-is y 3 (lit≤ tt) (lit≤ tt) in
    let long : month_length y 3 ≡ 31 = not-february y 3 (lit≤ tt) (lit≤ tt) (λ e. absurd (omega arith)) in
    rw (march-clock y lead, (closed-from at (lead + month_length y 3) (omega (arith, s.first, s.last))).0, (closed-to at lead (omega (arith, s.first))).0) (omega (arith, long))

october : (y lead : ℕ) → lead ≤ 33 → closed_by (clock_of y 10 lead) (lead + month_length y 10) - closed_by (clock_of y 10 lead) lead ≡ 2980
october y lead few =
    let at = lead + last_sunday y 10 - 1 in
    let s = last-sunday-is y 10 (lit≤ tt) (lit≤ tt) in
    let long : month_length y 10 ≡ 31 = not-february y 10 (lit≤ tt) (lit≤ tt) (λ e. absurd (omega arith)) in
    rw (october-clock y lead few, (closed-from at (lead + month_length y 10) (omega (arith, s.first, s.last))).1, (closed-to at lead (omega (arith, s.first))).1) (omega (arith, long))

closed-month : (y m lead : ℕ) → 1 ≤ m → m ≤ 12 → lead ≤ 33 → closed_by (clock_of y m lead) (lead + month_length y m) - closed_by (clock_of y m lead) lead ≡ quarters_in_month y m
unfolding quarters_in_month
closed-month y m lead h l few = go (eqb m 3) (eqb m 10) refl refl
  where
    go : (a b : Bool) → eqb m 3 ≡ a → eqb m 10 ≡ b → closed_by (clock_of y m lead) (lead + month_length y m) - closed_by (clock_of y m lead) lead ≡ cond a 2972 (cond b 2980 (96 * month_length y m))
    go true b p q = rw (eqb-true m 3 p) (march y lead)
    go false true p q = rw (eqb-true m 10 q) (october y lead few)
    go false false p q = rw (closed_after (clock_of y m lead) lead (lead + month_length y m) (other-clock y m lead h l (eqb-false m 3 p) (eqb-false m 10 q)) (omega arith)) (omega arith)

-- 2,972 in March, 2,980 in October, else 96 a day: in a calendar with any lead days, and of a file's month
pub month-quarters : (c : Calendar) → Ranged c → month_quarters c ≡ quarters_in_month c.year c.month
unfolding month_quarters calendar_days
month-quarters c h =
    rw (day-start-is c (c.lead + month_length c.year c.month), day-start-is c c.lead, h.clock)
    (closed-month c.year c.month c.lead h.january h.december h.few)

-- ---- at most

-- no month has more than 31 days
pub days-most : (year month : ℕ) → month_length year month ≤ 31
unfolding month_length
days-most year zero = omega arith
days-most year (suc m) = go (leb (suc m) 12) refl
  where
    go : (b : Bool) → leb (suc m) 12 ≡ b → month_length year (suc m) ≤ 31
    go true e = (month-length year (suc m) (omega arith) (leb-true (suc m) 12 e)).most
    go false e = omega (arith, no-month year (suc m) (leb-false (suc m) 12 e))

pub month-most : (year month : ℕ) → quarters_in_month year month ≤ longest_month
unfolding quarters_in_month
month-most year month = go (eqb month 3) (eqb month 10)
  where
    go : (a b : Bool) → cond a 2972 (cond b 2980 (96 * month_length year month)) ≤ longest_month
    go true b = lit≤ tt
    go false true = lit≤ tt
    go false false = omega (arith, days-most year month)

pub month-quarters-most : (c : Calendar) → Ranged c → month_quarters c ≤ longest_month
month-quarters-most c h = omega (arith, month-quarters c h, month-most c.year c.month)

pub days-few : (c : Calendar) → Ranged c → (c.lead + 28 ≤ days_of c) × (days_of c ≤ 64)
unfolding calendar_days
days-few c h = omega (arith, month-length c.year c.month h.january h.december)

pub day-start-few : (c : Calendar) (d : ℕ) → d ≤ 64 → day_start c d ≤ longest_calendar
day-start-few c d h = omega (arith, day-start-about c d)

pub quarters-few : (c : Calendar) → Ranged c → quarters_of c ≤ longest_calendar
quarters-few c h = day-start-few c (days_of c) (days-few c h).1

pub quarters-some : (c : Calendar) → Ranged c → 1 ≤ quarters_of c
quarters-some c h = omega (arith, days-few c h, day-start-about c (days_of c))

-- the readings of a book's points, in bytes, and where those of a point start
pub readings-few : (c : Calendar) (points : ℕ) → Ranged c → points ≤ 256 → 4 * quarters_of c * points ≤ most_reading_bytes
readings-few c points h k = mul-le-mul {n₁ = 4 * quarters_of c} {n₂ = 4 * longest_calendar} (omega (arith, quarters-few c h)) k

pub origin-few : (c : Calendar) (p : ℕ) → Ranged c → p < 256 → origin_of c p ≤ farthest_origin
origin-few c p h k = let m = mul-le-mul {n₁ = quarters_of c} {m₁ = p} {n₂ = longest_calendar} {m₂ = 255} (quarters-few c h) (omega arith) in omega arith

-- ---- the laws as the check cites them

pub ruleset closed_days = (day-start-is)

pub ruleset few_quarters = (day-start-few)

pub ruleset day_order = (day-start-mono)

pub ruleset few_days = (days-few)

pub ruleset few_origins = (origin-few)

pub ruleset most_days = (days-most)
