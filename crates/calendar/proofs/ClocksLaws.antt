-- A calendar holds at most one day on which the clocks change, and its clock says which: March's and October's on their last Sunday, another month's among its
-- lead days. The day of whatever year is the clock's.
use Rattle.std.specs.Prelude.{◌≡◌, refl, Bool, true, false, cond, ◌&&◌, ℕ, ◌+◌, ◌-◌, ◌≤◌, ◌<◌, leb, ltb}
use Rattle.std.proofs.Common.{ap₂, arith, lit≤, ltb-true, ltb-false, leb-true, lt-ltb, le-leb}
use Rattle.integers.proofs.TestsLaws.{both}
use Rattle.integers.specs.Running.{up_to}
use Rattle.calendar.specs.declared.Clock.{Clock}
use Rattle.calendar.specs.declared.Clock.TheVariants.{Same, Shorter, Longer}
use Rattle.calendar.specs.Dates.{month_length, day_number, last_sunday, march_sunday, october_sunday, calendar_days}
use Rattle.calendar.proofs.DatesLaws.{month-length, not-february, last-sunday-is, first-mono, sunday-after, sunday-before, next-before, march-inner, october-inner, own-year}
use Rattle.calendar.specs.Clocks.{holds_day, day_of, clock_of}

-- a day of the calendar, in numbers
pub record Inside (y m lead number : ℕ) : Type 0 where
  pub from : day_number y m 1 ≤ number + lead
  pub to : number + lead < day_number y m 1 + calendar_days y m lead

pub inside : (y m lead number : ℕ) → holds_day y m lead number ≡ true → Inside y m lead number
inside y m lead number e =
    let p = both (leb (day_number y m 1) (number + lead)) (ltb (number + lead) (day_number y m 1 + calendar_days y m lead)) e in
    record { from = leb-true _ _ p.0; to = ltb-true _ _ p.1 }

holds : (y m lead number : ℕ) → Inside y m lead number → holds_day y m lead number ≡ true
holds y m lead number i =
    ap₂ ◌&&◌ (le-leb (day_number y m 1) (number + lead) i.from) (lt-ltb (number + lead) (day_number y m 1 + calendar_days y m lead) i.to)

-- ---- at most one

-- a year's two clock-change days lie 64 days apart, and more
pub sundays-apart : (y : ℕ) → march_sunday y + 64 ≤ october_sunday y
unfolding march_sunday october_sunday day_number up_to
sundays-apart y =
    omega (arith, sunday-before y 3 (lit≤ tt) (lit≤ tt), sunday-after y 10 (lit≤ tt) (lit≤ tt), month-length y 4 (lit≤ tt) (lit≤ tt), month-length y 5 (lit≤ tt) (lit≤ tt), month-length y 6 (lit≤ tt) (lit≤ tt))

pub one-change : (y m lead : ℕ) → 1 ≤ m → m ≤ 12 → lead ≤ 33 → Inside y m lead (march_sunday y) → Inside y m lead (october_sunday y) → ⊥
unfolding calendar_days
one-change y m lead h l few a b = omega (arith, a, b, sundays-apart y, month-length y m h l)

-- the clock of a calendar that holds one of them
pub shorter-clock : (y m lead : ℕ) → Inside y m lead (march_sunday y) → clock_of y m lead ≡ Shorter (day_of y m lead (march_sunday y))
unfolding clock_of
shorter-clock y m lead i = rw (holds y m lead (march_sunday y) i)

pub longer-clock : (y m lead : ℕ) → 1 ≤ m → m ≤ 12 → lead ≤ 33 → Inside y m lead (october_sunday y) → clock_of y m lead ≡ Longer (day_of y m lead (october_sunday y))
unfolding clock_of
longer-clock y m lead h l few i = go (holds_day y m lead (march_sunday y)) refl
  where
    go : (a : Bool) → holds_day y m lead (march_sunday y) ≡ a → cond a (Shorter (day_of y m lead (march_sunday y))) (cond (holds_day y m lead (october_sunday y)) (Longer (day_of y m lead (october_sunday y))) Same) ≡ Longer (day_of y m lead (october_sunday y))
    go true p = absurd (one-change y m lead h l few (inside y m lead (march_sunday y) p) i)
    go false p = rw (holds y m lead (october_sunday y) i)

-- ---- the day on which the clocks change, of whatever year, is the clock's

on-day : (y m lead k number : ℕ) → k < calendar_days y m lead → number + lead ≡ day_number y m 1 + k → Inside y m lead number
on-day y m lead k number below day = record { from = omega (arith, day); to = omega (arith, day) }

pub march-of-any-year : (y m lead k z : ℕ) → 1 ≤ y → 1 ≤ z → 1 ≤ m → m ≤ 12 → lead ≤ 33 → k < calendar_days y m lead → march_sunday z + lead ≡ day_number y m 1 + k → clock_of y m lead ≡ Shorter k
march-of-any-year y m lead k z hy hz h l few below day =
    let own : z ≡ y = own-year y m lead k z (march_sunday z) hy hz h l few below (march-inner z) day in
    let at : march_sunday y + lead ≡ day_number y m 1 + k = rw own at day in
    let is : day_of y m lead (march_sunday y) ≡ k = omega (arith, at) in
    rw (shorter-clock y m lead (on-day y m lead k (march_sunday y) below at), is)

pub october-of-any-year : (y m lead k z : ℕ) → 1 ≤ y → 1 ≤ z → 1 ≤ m → m ≤ 12 → lead ≤ 33 → k < calendar_days y m lead → october_sunday z + lead ≡ day_number y m 1 + k → clock_of y m lead ≡ Longer k
october-of-any-year y m lead k z hy hz h l few below day =
    let own : z ≡ y = own-year y m lead k z (october_sunday z) hy hz h l few below (october-inner z) day in
    let at : october_sunday y + lead ≡ day_number y m 1 + k = rw own at day in
    let is : day_of y m lead (october_sunday y) ≡ k = omega (arith, at) in
    rw (longer-clock y m lead h l few (on-day y m lead k (october_sunday y) below at), is)

-- ---- by month

-- the last Sunday of a month lies in each calendar of that month
own-month : (y m lead : ℕ) → 1 ≤ m → m ≤ 12 → Inside y m lead (day_number y m (last_sunday y m))
unfolding day_number calendar_days
own-month y m lead h l =
    let s = last-sunday-is y m h l in
    record { from = omega (arith, s.first); to = omega (arith, s.last) }

own-day : (y m lead : ℕ) → 1 ≤ m → m ≤ 12 → day_of y m lead (day_number y m (last_sunday y m)) ≡ lead + last_sunday y m - 1
unfolding day_number
own-day y m lead h l = omega (arith, (last-sunday-is y m h l).first)

pub march-clock : (y lead : ℕ) → clock_of y 3 lead ≡ Shorter (lead + last_sunday y 3 - 1)
unfolding march_sunday
march-clock y lead = rw (shorter-clock y 3 lead (own-month y 3 lead (lit≤ tt) (lit≤ tt)), own-day y 3 lead (lit≤ tt) (lit≤ tt))

pub october-clock : (y lead : ℕ) → lead ≤ 33 → clock_of y 10 lead ≡ Longer (lead + last_sunday y 10 - 1)
unfolding october_sunday
october-clock y lead few =
    rw (longer-clock y 10 lead (lit≤ tt) (lit≤ tt) few (own-month y 10 lead (lit≤ tt) (lit≤ tt)), own-day y 10 lead (lit≤ tt) (lit≤ tt))

-- the last Sunday of a month lies before the first of a later month, and behind the last of an earlier one
sunday-early : (y n m : ℕ) → 1 ≤ n → n < m → n ≤ 12 → day_number y n (last_sunday y n) < day_number y m 1
sunday-early y n m h l t = omega (arith, sunday-before y n h t, first-mono y (n + 1) m (omega arith))

sunday-late : (y m n : ℕ) → 1 ≤ m → m < n → n ≤ 12 → day_number y m 1 + month_length y m ≤ day_number y n (last_sunday y n)
unfolding day_number
sunday-late y m n h l t = omega (arith, next-before y m h, first-mono y (m + 1) n (omega arith), (last-sunday-is y n (omega arith) t).first)

-- one that lies in the calendar of another month is a lead day
in-lead : (y n m lead : ℕ) → 1 ≤ m → m ≤ 12 → 1 ≤ n → n ≤ 12 → (m ≡ n → ⊥) → Inside y m lead (day_number y n (last_sunday y n)) → day_of y m lead (day_number y n (last_sunday y n)) < lead
unfolding calendar_days
in-lead y n m lead h l s t other i = go (ltb n m) refl
  where
    go : (b : Bool) → ltb n m ≡ b → day_of y m lead (day_number y n (last_sunday y n)) < lead
    go true e = omega (arith, i, sunday-early y n m s (ltb-true n m e) t)
    go false e = absurd (omega (arith, i, sunday-late y m n h (omega (arith, ltb-false n m e, other)) t))

-- the clocks change before a day, if they do
abbrev pub Before : ℕ → Clock → Type 0
Before d Same = Unit {0}
Before d (Shorter at) = at < d
Before d (Longer at) = at < d

-- outside March and October they change in the lead days, if they do
pub other-clock : (y m lead : ℕ) → 1 ≤ m → m ≤ 12 → (m ≡ 3 → ⊥) → (m ≡ 10 → ⊥) → Before lead (clock_of y m lead)
unfolding clock_of march_sunday october_sunday
other-clock y m lead h l a b = go (holds_day y m lead march) (holds_day y m lead october) refl refl
  where
    march : ℕ
    march = day_number y 3 (last_sunday y 3)

    october : ℕ
    october = day_number y 10 (last_sunday y 10)

    go : (p q : Bool) → holds_day y m lead march ≡ p → holds_day y m lead october ≡ q → Before lead (cond p (Shorter (day_of y m lead march)) (cond q (Longer (day_of y m lead october)) Same))
    go true q e f = in-lead y 3 m lead h l (lit≤ tt) (lit≤ tt) a (inside y m lead march e)
    go false true e f = in-lead y 10 m lead h l (lit≤ tt) (lit≤ tt) b (inside y m lead october f)
    go false false e f = tt

-- a month of which neither lies in the calendar has no change
same-clock : (y m lead : ℕ) → (Inside y m lead (march_sunday y) → ⊥) → (Inside y m lead (october_sunday y) → ⊥) → clock_of y m lead ≡ Same
unfolding clock_of
same-clock y m lead a b = go (holds_day y m lead (march_sunday y)) (holds_day y m lead (october_sunday y)) refl refl
  where
    go : (p q : Bool) → holds_day y m lead (march_sunday y) ≡ p → holds_day y m lead (october_sunday y) ≡ q → cond p (Shorter (day_of y m lead (march_sunday y))) (cond q (Longer (day_of y m lead (october_sunday y))) Same) ≡ Same
    go true q e f = absurd (a (inside y m lead (march_sunday y) e))
    go false true e f = absurd (b (inside y m lead (october_sunday y) f))
    go false false e f = refl

-- April and May have 58 days and more
six : (y : ℕ) → day_number y 4 1 + 58 ≤ day_number y 6 1
unfolding day_number
six y = omega (arith, next-before y 4 (lit≤ tt), next-before y 5 (lit≤ tt), not-february y 4 (lit≤ tt) (lit≤ tt) (λ e. absurd (omega arith)), not-february y 5 (lit≤ tt) (lit≤ tt) (λ e. absurd (omega arith)))

october-late : (y m lead : ℕ) → 1 ≤ m → m ≤ 9 → Inside y m lead (day_number y 10 (last_sunday y 10)) → ⊥
unfolding calendar_days
october-late y m lead h l i = omega (arith, i, sunday-late y m 10 h (omega arith) (lit≤ tt))

march-late : (y m lead : ℕ) → 1 ≤ m → m ≤ 2 → Inside y m lead (day_number y 3 (last_sunday y 3)) → ⊥
unfolding calendar_days
march-late y m lead h l i = omega (arith, i, sunday-late y m 3 h (omega arith) (lit≤ tt))

march-early : (y m lead : ℕ) → 6 ≤ m → lead ≤ 33 → Inside y m lead (day_number y 3 (last_sunday y 3)) → ⊥
march-early y m lead h few i = omega (arith, i.from, sunday-before y 3 (lit≤ tt) (lit≤ tt), first-mono y 6 m h, six y)

-- June to September have none, nor have January and February: what a book of theirs needs, without summing days
pub summer-clock : (y m lead : ℕ) → 6 ≤ m → m ≤ 9 → lead ≤ 33 → clock_of y m lead ≡ Same
unfolding march_sunday october_sunday
summer-clock y m lead h l few = same-clock y m lead (march-early y m lead h few) (october-late y m lead (omega arith) l)

pub winter-clock : (y m lead : ℕ) → 1 ≤ m → m ≤ 2 → clock_of y m lead ≡ Same
unfolding march_sunday october_sunday
winter-clock y m lead h l = same-clock y m lead (march-late y m lead h l) (october-late y m lead h (omega arith))
