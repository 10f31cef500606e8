-- Laws of dates: the closed forms that the code computes are the definitions, and the definitions mean what they say.
use Rattle.std.specs.Prelude.{◌≡◌, refl, Bool, true, false, cond, not, ◌&&◌, ◌||◌, ℕ, zero, suc, pred, ◌+◌, ◌-◌, ◌*◌, ◌/◌, ◌%◌, ◌≤◌, ◌<◌, T, eqb, leb, ltb, get_or}
use Rattle.std.proofs.Common.{sym, ap, ◌∙◌, arith, add-zero, add-suc, le_refl, div-add-mod', mod-lt, suc-mul, add-one, sub-one, lit<, lit≤, eqb→eq, ltb-true, ltb-false, leb-true, leb-false, eqb-true, eq-eqb, ne_eqb, lt-ltb, le-ltb, le-leb}
use Rattle.std.proofs.Math.Bool.{and-true, and-false}
use Rattle.std.proofs.Math.Arith.{digits_div}
use Rattle.std.proofs.Math.Dec.{eqb-suc-zero}
use Rattle.std.proofs.lemmas.Bool.{eqb-false, lt-leb}
use Rattle.std.proofs.Math.ListN.{get_or-eq_default}
use Rattle.integers.specs.Running.{up_to}
use Rattle.integers.proofs.RunningLaws.{up_to-cong}
use Rattle.integers.proofs.TestsLaws.{all_below, all-below}
use Rattle.calendar.specs.Dates.{leap, month_length, MonthLengths, year_length, day_number, weekday, sunday_up_to, last_sunday, march_sunday, october_sunday, offset_hours, lengths, days_before_year, days_before_month, calendar_days, next_year, next_month}
use Rattle.calendar.specs.DatesInner.{IsMonth}

-- the test by 400 decides for a century's year, that by 4 for any other
pub leap-century : (y : ℕ) → y % 100 ≡ 0 → leap y ≡ eqb (y % 400) 0
unfolding leap
leap-century y e = rw (eq-eqb (y % 4) 0 (omega arith), eq-eqb (y % 100) 0 e)

pub leap-other : (y : ℕ) → (y % 100 ≡ 0 → ⊥) → leap y ≡ eqb (y % 4) 0
unfolding leap
leap-other y e = rw (ne_eqb (y % 100) 0 e) (and-true _)

-- whether a month's length is the listed one
abbrev as_listed : ℕ → ℕ → Bool
as_listed y m = eqb (month_length y m) (get_or (lengths (leap y)) m 0)

-- it is at each place of the list, in a leap year and in another: both are computed
leap-listed : T (all_below (as_listed 2020) 13)
unfolding month_length leap
leap-listed = tt

other-listed : T (all_below (as_listed 2021) 13)
unfolding month_length leap
other-listed = tt

-- so it is in every year that is a leap year just if z is
alike : (y z m : ℕ) → leap y ≡ leap z → T (all_below (as_listed z) 13) → m < 13 → month_length y m ≡ get_or (lengths (leap y)) m 0
unfolding month_length
alike y z m e t h = rw e (eqb→eq _ _ (all-below (as_listed z) 13 t m h) ∙ ap (λ (b : Bool). get_or (lengths b) m 0) (sym e))

-- beyond the list there is no month, so both are 0
pub as-listed : (y m : ℕ) → month_length y m ≡ get_or (lengths (leap y)) m 0
unfolding month_length leap
as-listed y m = go (ltb m 13) (leap y) refl refl
  where
    none : (a : Bool) (days : ℕ) → a ≡ false → cond a days 0 ≡ 0
    none a days e = rw e

    go : (a b : Bool) → ltb m 13 ≡ a → leap y ≡ b → month_length y m ≡ get_or (lengths (leap y)) m 0
    go true true p q = alike y 2020 m q leap-listed (ltb-true m 13 p)
    go true false p q = alike y 2021 m q other-listed (ltb-true m 13 p)
    go false b p q =
        let h = ltb-false m 13 p in
        none (leb 1 m && leb m 12) _ (rw (lt-leb m 12 h) (and-false (leb 1 m))) ∙ sym (get_or-eq_default (lengths (leap y)) 0 h)

pub month-lengths : MonthLengths
month-lengths = record { lengths_as_listed = λ y m h l. as-listed y m; no_answer_changes = as-listed }

-- of the twelve months February alone depends on the year
pub not-february : (y m : ℕ) → 1 ≤ m → m ≤ 12 → (m ≡ 2 → ⊥) → month_length y m ≡ 30 + (m + m / 8) % 2
unfolding month_length
not-february y m h l e = rw (le-leb 1 m h, le-leb m 12 l, ne_eqb m 2 e)

pub february : (y : ℕ) → month_length y 2 ≡ cond (leap y) 29 28
february y = as-listed y 2

pub month-zero : (y m : ℕ) → m < 1 → month_length y m ≡ 0
unfolding month_length
month-zero y m h = rw (lt-leb 1 m h)

pub no-month : (y m : ℕ) → 12 < m → month_length y m ≡ 0
no-month y m h = as-listed y m ∙ get_or-eq_default (lengths (leap y)) 0 h

-- what has days is a month
pub is-month : (y m : ℕ) → 1 ≤ month_length y m → (1 ≤ m) × (m ≤ 12)
is-month y zero h = absurd (omega (arith, month-zero y zero (lit< tt)))
is-month y (suc m) h = (omega arith, go (leb (suc m) 12) refl)
  where
    go : (b : Bool) → leb (suc m) 12 ≡ b → suc m ≤ 12
    go true e = leb-true (suc m) 12 e
    go false e = absurd (omega (arith, no-month y (suc m) (leb-false (suc m) 12 e)))

-- a year has 365 days, a leap year one more
pub year-length : (y : ℕ) → year_length y ≡ 365 + cond (leap y) 1 0
unfolding year_length up_to
year-length y = up_to-cong (month_length y) (λ m. get_or (lengths (leap y)) m 0) 12 (λ m h l. as-listed y m) ∙ go (leap y)
  where
    go : (b : Bool) → up_to (λ m. get_or (lengths b) m 0) 12 ≡ 365 + cond b 1 0
    go true = refl
    go false = refl

-- a quotient by k gains 1 with each number that k divides
gain : (k n : ℕ) → 0 < k → suc n / k ≡ n / k + cond (eqb (suc n % k) 0) 1 0
gain k n h = go (suc n % k) (suc n / k) (div-add-mod' (suc n) k) (mod-lt (suc n) h)
  where
    go : (r q : ℕ) → q * k + r ≡ suc n → r < k → q ≡ n / k + cond (eqb r 0) 1 0
    go zero zero e l = absurd (omega arith)
    go zero (suc q) e l =
        let m : n ≡ q * k + pred k = omega (arith, suc-mul q k) in
        rw m (omega (arith, digits_div q {m = k} {r = pred k} (omega arith)))
    go (suc r) q e l =
        let m : n ≡ q * k + r = omega arith in
        rw (eqb-suc-zero r, m) (omega (arith, digits_div q {m = k} {r = r} (omega arith)))

-- a leap year's day: of the tests by 4, 100 and 400, where each holds the one before does
leap-day : (y : ℕ) → cond (leap y) 1 0 + cond (eqb (y % 100) 0) 1 0 ≡ cond (eqb (y % 4) 0) 1 0 + cond (eqb (y % 400) 0) 1 0
unfolding leap
leap-day y = go (eqb (y % 4) 0) (eqb (y % 100) 0) (eqb (y % 400) 0) refl refl refl
  where
    go : (a b c : Bool) → eqb (y % 4) 0 ≡ a → eqb (y % 100) 0 ≡ b → eqb (y % 400) 0 ≡ c → cond (a && (not b || c)) 1 0 + cond b 1 0 ≡ cond a 1 0 + cond c 1 0
    go true true true p q r = refl
    go true true false p q r = refl
    go true false false p q r = refl
    go false false false p q r = refl
    go true false true p q r = absurd (omega (arith, eqb-false (y % 100) 0 q, eqb-true (y % 400) 0 r))
    go false false true p q r = absurd (omega (arith, eqb-false (y % 100) 0 q, eqb-true (y % 400) 0 r))
    go false true true p q r = absurd (omega (arith, eqb-false (y % 4) 0 p, eqb-true (y % 100) 0 q))
    go false true false p q r = absurd (omega (arith, eqb-false (y % 4) 0 p, eqb-true (y % 100) 0 q))

-- the days of the years 1 to n
pub years : (n : ℕ) → up_to year_length n + n / 100 ≡ 365 * n + n / 4 + n / 400
unfolding up_to
years zero = refl
years (suc n) = rw (gain 4 n (lit< tt), gain 100 n (lit< tt), gain 400 n (lit< tt), year-length (suc n)) (omega (arith, years n, leap-day (suc n)))

pub years-before : (y : ℕ) → days_before_year y ≡ 365 * (y - 1) + (y - 1) / 4 + (y - 1) / 400 - (y - 1) / 100
years-before y = rw sub-one (omega (arith, years (pred y)))

sum-none : (g : ℕ → ℕ) → up_to g 0 ≡ 0
unfolding up_to
sum-none g = refl

pub first-before : (y : ℕ) → days_before_month y 1 ≡ 0
first-before y = sum-none (month_length y)

pub next-before : (y m : ℕ) → 1 ≤ m → days_before_month y (m + 1) ≡ days_before_month y m + month_length y m
unfolding up_to
next-before y zero h = absurd (omega arith)
next-before y (suc m) h = rw add-one refl

-- a known day: 1 January 2001 was a Monday
pub known-monday : weekday 2001 1 1 ≡ 1
unfolding weekday day_number
known-monday = omega (arith, years 2000, sum-none (month_length 2001))

-- each month has 28 to 31 days
pub record Length (days : ℕ) : Type 0 where
  pub least : 28 ≤ days
  pub most : days ≤ 31

pub month-length : (y m : ℕ) → 1 ≤ m → m ≤ 12 → Length (month_length y m)
month-length y m h l = go (eqb m 2) (leap y) refl refl
  where
    go : (a b : Bool) → eqb m 2 ≡ a → leap y ≡ b → Length (month_length y m)
    go true true p q = let e : m ≡ 2 = eqb-true m 2 p in rw (e, february y, q) (record { least = lit≤ tt; most = lit≤ tt })
    go true false p q = let e : m ≡ 2 = eqb-true m 2 p in rw (e, february y, q) (record { least = lit≤ tt; most = lit≤ tt })
    go false b p q =
        let e = not-february y m h l (eqb-false m 2 p) in
        record { least = omega (arith, e); most = omega (arith, e) }

-- the last Sunday up to day d is d less d's weekday, where there is one
pub sunday-up-to : (y m d : ℕ) → weekday y m d ≤ d → sunday_up_to y m d + weekday y m d ≡ d
unfolding sunday_up_to weekday day_number
sunday-up-to y m zero h = omega arith
sunday-up-to y m (suc d) h = go (eqb (day_number y m (suc d) % 7) 0) refl (sunday-up-to y m d)
  where
    go : (b : Bool) → eqb (day_number y m (suc d) % 7) 0 ≡ b → (day_number y m d % 7 ≤ d → sunday_up_to y m d + day_number y m d % 7 ≡ d) → cond b (suc d) (sunday_up_to y m d) + day_number y m (suc d) % 7 ≡ suc d
    go true e ih = omega (arith, eqb-true (day_number y m (suc d) % 7) 0 e)
    go false e ih =
        let n : day_number y m (suc d) % 7 ≡ suc (day_number y m d % 7) = omega (arith, eqb-false (day_number y m (suc d) % 7) 0 e) in
        omega (arith, ih (omega arith))

-- the last Sunday is the last day less its weekday
pub last-sunday : (y m : ℕ) → 1 ≤ m → m ≤ 12 → last_sunday y m + weekday y m (month_length y m) ≡ month_length y m
unfolding last_sunday weekday
last-sunday y m h l = sunday-up-to y m (month_length y m) (omega (arith, month-length y m h l))

-- the last Sunday is a Sunday of the month, and no later day of the month is one
pub record LastSunday (y m d : ℕ) : Type 0 where
  pub sunday : weekday y m d ≡ 0
  pub first : 1 ≤ d
  pub last : d ≤ month_length y m
  pub no_later : (e : ℕ) → d < e → e ≤ month_length y m → weekday y m e ≡ 0 → ⊥

pub last-sunday-is : (y m : ℕ) → 1 ≤ m → m ≤ 12 → LastSunday y m (last_sunday y m)
unfolding weekday day_number
last-sunday-is y m h l =
    record {
      sunday = omega (arith, last-sunday y m h l, month-length y m h l);
      first = omega (arith, last-sunday y m h l, month-length y m h l);
      last = omega (arith, last-sunday y m h l, month-length y m h l);
      no_later = λ e p q r. omega (arith, last-sunday y m h l, month-length y m h l);
    }

-- a sum of more terms is at least as great
pub sum_mono : (g : ℕ → ℕ) (a n : ℕ) → up_to g a ≤ up_to g (a + n)
unfolding up_to
sum_mono g a zero = rw add-zero (le_refl _)
sum_mono g a (suc n) = rw add-suc (omega (arith, sum_mono g a n))

sum-le : (g : ℕ → ℕ) (a b : ℕ) → a ≤ b → up_to g a ≤ up_to g b
sum-le g a b h =
    let e : a + (b - a) ≡ b = omega arith in
    rw e at (sum_mono g a (b - a))

whole : (y m : ℕ) → suc m ≤ 12 → up_to (month_length y) m + month_length y (suc m) ≤ year_length y
unfolding up_to year_length
whole y m h = sum-le (month_length y) (suc m) 12 h

-- a date lies in its year
pub record InYear (y number : ℕ) : Type 0 where
  pub after : days_before_year y < number
  pub within : number ≤ days_before_year y + year_length y

pub in-year : (y m d : ℕ) → 1 ≤ m → m ≤ 12 → 1 ≤ d → d ≤ month_length y m → InYear y (day_number y m d)
unfolding day_number
in-year y zero d h l f t = absurd (omega arith)
in-year y (suc m) d h l f t = record { after = omega arith; within = omega (arith, whole y m l) }

-- a year ends before a later one starts
pub year-after : (z y : ℕ) → 1 ≤ z → z < y → days_before_year z + year_length z ≤ days_before_year y
unfolding up_to
year-after zero y h l = absurd (omega arith)
year-after (suc z) y h l = sum-le year_length (suc z) (pred y) (omega arith)

-- the last three months after October, or more, have 33 days
three : (y m : ℕ) → suc m ≤ 10 → up_to (month_length y) m + month_length y (suc m) + 33 ≤ year_length y
unfolding up_to year_length
three y m h = omega (arith, sum-le (month_length y) (suc m) 10 h, month-length y 11 (lit≤ tt) (lit≤ tt), month-length y 12 (lit≤ tt) (lit≤ tt))

-- the days of a month follow each other
days : (y m : ℕ) → 1 ≤ month_length y m → day_number y m (month_length y m) + 1 ≡ day_number y m 1 + month_length y m
unfolding day_number
days y m h = omega arith

-- a day lies in its year, 33 days before its end or earlier: so do the last Sundays of March and October
pub record Inner (y number : ℕ) : Type 0 where
  pub after : days_before_year y < number
  pub early : number + 33 ≤ days_before_year y + year_length y

inner : (y m : ℕ) → 1 ≤ m → m ≤ 10 → Inner y (day_number y m (last_sunday y m))
unfolding day_number
inner y zero h l = absurd (omega arith)
inner y (suc m) h l =
    record {
      after = omega (arith, (last-sunday-is y (suc m) h (omega arith)).first);
      early = omega (arith, (last-sunday-is y (suc m) h (omega arith)).last, three y m l);
    }

pub march-inner : (y : ℕ) → Inner y (march_sunday y)
unfolding march_sunday
march-inner y = inner y 3 (lit≤ tt) (lit≤ tt)

pub october-inner : (y : ℕ) → Inner y (october_sunday y)
unfolding october_sunday
october-inner y = inner y 10 (lit≤ tt) (lit≤ tt)

-- such a day in a calendar is one of the month's own year
pub own-year : (y m lead k z number : ℕ) → 1 ≤ y → 1 ≤ z → 1 ≤ m → m ≤ 12 → lead ≤ 33 → k < calendar_days y m lead → Inner z number → number + lead ≡ day_number y m 1 + k → z ≡ y
unfolding calendar_days
own-year y m lead k z number hy hz h l few below i day = go (ltb z y) (ltb y z) refl refl
  where
    first : InYear y (day_number y m 1)
    first = in-year y m 1 h l (lit≤ tt) (omega (arith, month-length y m h l))

    end : InYear y (day_number y m (month_length y m))
    end = in-year y m (month_length y m) h l (omega (arith, month-length y m h l)) (le_refl _)

    go : (a b : Bool) → ltb z y ≡ a → ltb y z ≡ b → z ≡ y
    go true b p q = absurd (omega (arith, day, i, first, year-after z y hz (ltb-true z y p)))
    go false true p q = absurd (omega (arith, day, i, end, days y m (omega (arith, month-length y m h l)), year-after y z hy (ltb-true y z q)))
    go false false p q = omega (arith, ltb-false z y p, ltb-false y z q)

-- ---- the offset of the first of a month: +02:00 from April to October

pub first-mono : (y m k : ℕ) → m ≤ k → day_number y m 1 ≤ day_number y k 1
unfolding day_number
first-mono y m k h = omega (arith, sum-le (month_length y) (pred m) (pred k) (omega arith))

-- the last Sunday comes after the first of its month and before that of the next one
pub sunday-after : (y m : ℕ) → 1 ≤ m → m ≤ 12 → day_number y m 1 < day_number y m (last_sunday y m)
unfolding day_number weekday
sunday-after y m h l = omega (arith, last-sunday y m h l, month-length y m h l)

pub sunday-before : (y m : ℕ) → 1 ≤ m → m ≤ 12 → day_number y m (last_sunday y m) < day_number y (m + 1) 1
unfolding day_number
sunday-before y m h l = omega (arith, next-before y m h, (last-sunday-is y m h l).last)

pub first-offset : (y m : ℕ) → offset_hours y m 1 ≡ cond (leb 4 m && leb m 10) 2 1
unfolding offset_hours march_sunday october_sunday
first-offset y m = go (leb 4 m) (leb m 10) refl refl
  where
    march : ℕ
    march = day_number y 3 (last_sunday y 3)

    october : ℕ
    october = day_number y 10 (last_sunday y 10)

    number : ℕ
    number = day_number y m 1

    go : (a b : Bool) → leb 4 m ≡ a → leb m 10 ≡ b → cond {A = ℕ} (leb march number && ltb number october) 2 1 ≡ cond (a && b) 2 1
    go true true p q =
        rw (le-leb march number (omega (arith, sunday-before y 3 (lit≤ tt) (lit≤ tt), first-mono y 4 m (leb-true 4 m p))), lt-ltb number october (omega (arith, sunday-after y 10 (lit≤ tt) (lit≤ tt), first-mono y m 10 (leb-true m 10 q))))
    go true false p q =
        rw (le-leb march number (omega (arith, sunday-before y 3 (lit≤ tt) (lit≤ tt), first-mono y 4 m (leb-true 4 m p))), le-ltb number october (omega (arith, sunday-before y 10 (lit≤ tt) (lit≤ tt), first-mono y 11 m (leb-false m 10 q))))
    go false b p q =
        rw (lt-leb march number (omega (arith, sunday-after y 3 (lit≤ tt) (lit≤ tt), first-mono y m 3 (omega (arith, leb-false 4 m p)))))

-- ---- bounds, by which the code's sums fit

pub sunday-most : (y m : ℕ) → 1 ≤ m → m ≤ 12 → last_sunday y m ≤ 31
sunday-most y m h l = omega (arith, (last-sunday-is y m h l).last, month-length y m h l)

pub weekday-most : (y m d : ℕ) → weekday y m d ≤ 6
unfolding weekday
weekday-most y m d = omega arith

pub before-year : (y : ℕ) → y ≤ 9999 → days_before_year y ≤ 3660000
before-year y h = omega (arith, years (pred y))

pub year-most : (y : ℕ) → year_length y ≤ 366
year-most y = go (leap y) (year-length y)
  where
    go : (b : Bool) → year_length y ≡ 365 + cond b 1 0 → year_length y ≤ 366
    go true e = omega arith
    go false e = omega arith

pub before-month : (y m : ℕ) → m ≤ 12 → days_before_month y m ≤ 366
unfolding year_length
before-month y m h = omega (arith, sum-le (month_length y) (pred m) 12 (omega arith), year-most y)

pub number-most : (y m d : ℕ) → IsMonth y m → d ≤ 31 → day_number y m d ≤ 4000000
unfolding day_number
number-most y m d h l = omega (arith, before-year y h.to, before-month y m h.december)

pub inner-most : (y number : ℕ) → y ≤ 9999 → Inner y number → number ≤ 4000000
inner-most y number h i = omega (arith, before-year y h, year-most y)

pub march-most : (y : ℕ) → y ≤ 9999 → march_sunday y ≤ 4000000
march-most y h = inner-most y (march_sunday y) h (march-inner y)

pub october-most : (y : ℕ) → y ≤ 9999 → october_sunday y ≤ 4000000
october-most y h = inner-most y (october_sunday y) h (october-inner y)

pub calendar-most : (y m lead : ℕ) → IsMonth y m → lead ≤ 255 → calendar_days y m lead ≤ 286
unfolding calendar_days
calendar-most y m lead h l = omega (arith, month-length y m h.january h.december)

pub next-is-month : (y m : ℕ) → IsMonth y m → y ≤ 9998 → IsMonth (next_year y m) (next_month m)
unfolding next_year next_month
next-is-month y m h l = go (eqb m 12) refl
  where
    go : (b : Bool) → eqb m 12 ≡ b → IsMonth (cond b (y + 1) y) (cond b 1 (m + 1))
    go true e = record { from = omega arith; to = omega arith; january = lit≤ tt; december = lit≤ tt }
    go false e = record { from = h.from; to = h.to; january = omega arith; december = omega (arith, eqb-false m 12 e) }

-- ---- the laws as the check cites them

pub ruleset listed_lengths = (month-lengths)

pub ruleset closed_years = (years-before)

pub ruleset month_days = (month-length)

pub ruleset month_sums = (first-before, next-before, month-length)

pub ruleset day_bounds = (before-year, before-month)

pub ruleset last_sundays = (last-sunday, sunday-most, weekday-most)

pub ruleset clock_bounds = (number-most, calendar-most, march-most, october-most)

pub ruleset later_months = (next-is-month)

-- the offset of a month's first, as the check cites it
pub ruleset first_offsets = (first-offset)
