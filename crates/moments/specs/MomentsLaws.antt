-- Moments: bytes that are judged real are a real moment's and no other's, and a real moment's bytes are judged so.
use Rattle.std.specs.Prelude.{◌≡◌, refl, Bool, true, false, ◌&&◌, List, [], ◌++◌, ℕ, ◌+◌, ◌*◌, ◌^◌, ◌≤◌, ◌<◌, eqb, leb, length, take, drop, Some, None}
use Rattle.std.proofs.Common.{sym, ◌∙◌, ap, append-nil, arith, eqb-true, leb-true, eq-eqb, ne_eqb, drop_of_length-le}
use Rattle.integers.proofs.TestsLaws.{both}
use Rattle.text.specs.Ascii.{bytes}
use Rattle.text.specs.Decimal.{above, fixed, fixed_at}
use Rattle.text.proofs.DecimalLaws.{digits-fixed, value-fixed}
use Rattle.text.specs.Tag.{begins}
use Rattle.text.proofs.TagLaws.{begins-append, begins-split}
use Rattle.text.specs.WrittenInner.{written}
use Rattle.calendar.specs.Dates.{month_length, day_number, next_year, next_month}
use Rattle.calendar.proofs.DatesLaws.{is-month, month-length, first-offset}
use Rattle.moments.specs.Moments.{moment_bytes, date_bytes, time_bytes, tail_bytes, within, real_date, real_time, real, value_at, parts, moment_of, pick_read, period_start, period_end}
use Rattle.moments.specs.declared.Moment.{Moment}
use Rattle.calendar.specs.DatesInner.{IsMonth}
use Rattle.moments.specs.MomentsInner.{clock, instant}

-- the form has 29 bytes
pub length-moment : (m : Moment) → length (moment_bytes m) ≡ 29
unfolding moment_bytes date_bytes time_bytes tail_bytes fixed bytes
length-moment m = refl

-- what a real moment's numbers are
pub record RealMoment (m : Moment) : Type 0 where
  pub from : 2018 ≤ m.year
  pub to : m.year ≤ 2099
  pub first : 1 ≤ m.day
  pub last : m.day ≤ month_length m.year m.month
  pub hour : m.hour ≤ 23
  pub minute : m.minute ≤ 59
  pub second : m.second ≤ 59
  pub milli : m.milli ≤ 999
  pub winter : 1 ≤ m.offset
  pub summer : m.offset ≤ 2

pub real-is : (m : Moment) → real m ≡ true → RealMoment m
unfolding real real_date real_time
real-is m e =
    let all = both (real_date m.year m.month m.day && real_time m.hour m.minute m.second m.milli) (within 1 m.offset 2) e in
    let date-time = both (real_date m.year m.month m.day) (real_time m.hour m.minute m.second m.milli) all.0 in
    let date = both (within 2018 m.year 2099) (within 1 m.day (month_length m.year m.month)) date-time.0 in
    let year = both (leb 2018 m.year) (leb m.year 2099) date.0 in
    let day = both (leb 1 m.day) (leb m.day (month_length m.year m.month)) date.1 in
    let h-m-s = both (leb m.hour 23 && leb m.minute 59 && leb m.second 59) (leb m.milli 999) date-time.1 in
    let h-m = both (leb m.hour 23 && leb m.minute 59) (leb m.second 59) h-m-s.0 in
    let h = both (leb m.hour 23) (leb m.minute 59) h-m.0 in
    let off = both (leb 1 m.offset) (leb m.offset 2) all.1 in
    record {
      from = leb-true 2018 m.year year.0;
      to = leb-true m.year 2099 year.1;
      first = leb-true 1 m.day day.0;
      last = leb-true m.day (month_length m.year m.month) day.1;
      hour = leb-true m.hour 23 h.0;
      minute = leb-true m.minute 59 h.1;
      second = leb-true m.second 59 h-m.1;
      milli = leb-true m.milli 999 h-m-s.1;
      winter = leb-true 1 m.offset off.0;
      summer = leb-true m.offset 2 off.1;
    }

-- a real moment's month is one
pub real-month : (m : Moment) → RealMoment m → IsMonth m.year m.month
real-month m r =
    let month = is-month m.year m.month (omega (arith, r.first, r.last)) in
    record { from = omega (arith, r.from); to = omega (arith, r.to); january = month.0; december = month.1 }

-- where n digits of v stand, the number read is v
value-at : (s : List ℕ) (at n v : ℕ) → leb (at + n) (length s) ≡ true → take n (drop at s) ≡ fixed n v → v < 10 ^ n → value_at s at n ≡ v
unfolding value_at fixed_at
value-at s at n v l e h = rw (l, e, digits-fixed n v) (value-fixed n v h)

-- the numbers of a real moment are read from its bytes
parts-of : (m : Moment) → RealMoment m → parts (moment_bytes m) ≡ m
unfolding parts moment_bytes date_bytes time_bytes tail_bytes fixed bytes
parts-of m r =
    let month = real-month m r in
    let days = month-length m.year m.month month.january month.december in
    let s = moment_bytes m in
    λ i.
    record {
      year = value-at s 0 4 m.year refl refl (omega (arith, r.to)) i;
      month = value-at s 5 2 m.month refl refl (omega (arith, month.december)) i;
      day = value-at s 8 2 m.day refl refl (omega (arith, r.last, days.most)) i;
      hour = value-at s 11 2 m.hour refl refl (omega (arith, r.hour)) i;
      minute = value-at s 14 2 m.minute refl refl (omega (arith, r.minute)) i;
      second = value-at s 17 2 m.second refl refl (omega (arith, r.second)) i;
      milli = value-at s 20 3 m.milli refl refl (omega (arith, r.milli)) i;
      offset = value-at s 24 2 m.offset refl refl (omega (arith, r.summer)) i;
    }

-- "in the form shown, a real date and time": what is judged real has the moment's bytes, and the moment is real
pub record IsMoment (s : List ℕ) (m : Moment) : Type 0 where
  pub form : s ≡ moment_bytes m
  pub is-real : real m ≡ true

pub judged-is : (s : List ℕ) (m : Moment) → moment_of s ≡ Some m → IsMoment s m
unfolding moment_of
judged-is s m e = go (eqb (length s) 29) (real (parts s)) (begins (moment_bytes (parts s)) s) refl refl refl e
  where
    go : (a b c : Bool) → eqb (length s) 29 ≡ a → real (parts s) ≡ b → begins (moment_bytes (parts s)) s ≡ c → pick_read (a && b && c) (parts s) ≡ Some m → IsMoment s m
    go true true true l r f e =
        let p : parts s ≡ m = cc in
        let short : length s ≤ length (moment_bytes (parts s)) = omega (arith, eqb-true (length s) 29 l, length-moment (parts s)) in
        let whole : drop (length (moment_bytes (parts s))) s ≡ [] = drop_of_length-le s short in
        record {
          form = begins-split (moment_bytes (parts s)) s f ∙ ap (λ t. moment_bytes (parts s) ++ t) whole ∙ append-nil (moment_bytes (parts s)) ∙ ap moment_bytes p;
          is-real = rw (← p) r;
        }
    go true true false l r f e = let z : ◌≡◌ {A = ℕ} 0 1 = cc in absurd (omega arith)
    go true false c l r f e = let z : ◌≡◌ {A = ℕ} 0 1 = cc in absurd (omega arith)
    go false b c l r f e = let z : ◌≡◌ {A = ℕ} 0 1 = cc in absurd (omega arith)

pub judged_real : (s : List ℕ) (m : Moment) → moment_of s ≡ Some m → real m ≡ true
judged_real s m e = (judged-is s m e).is-real

-- a list begins with itself
own : (t : List ℕ) → begins t t ≡ true
own t = ap (begins t) (sym (append-nil t)) ∙ begins-append t []

pub is-judged : (s : List ℕ) (m : Moment) → IsMoment s m → moment_of s ≡ Some m
unfolding moment_of
is-judged s m i =
    let p : parts s ≡ m = ap parts i.form ∙ parts-of m (real-is m i.is-real) in
    let l : length s ≡ 29 = ap length i.form ∙ length-moment m in
    let f : begins (moment_bytes m) s ≡ true = rw i.form (own (moment_bytes m)) in
    rw (p, eq-eqb (length s) 29 l, i.is-real, f)

-- ---- judging in steps: the length, what stands at the places, the form

pub not-length : (s : List ℕ) → (length s ≡ 29 → ⊥) → moment_of s ≡ None
unfolding moment_of
not-length s h = rw (ne_eqb (length s) 29 h)

pub not-real : (s : List ℕ) → length s ≡ 29 → real (parts s) ≡ false → moment_of s ≡ None
unfolding moment_of
not-real s l e = rw (eq-eqb (length s) 29 l, e)

pub by_form : (s : List ℕ) → length s ≡ 29 → real (parts s) ≡ true → moment_of s ≡ pick_read (begins (moment_bytes (parts s)) s) (parts s)
unfolding moment_of
by_form s l e = rw (eq-eqb (length s) 29 l, e)

-- a moment written into 29 bytes fills them
pub form-is : (d : List ℕ) (m : Moment) → length d ≡ 29 → written d 0 (moment_bytes m) ≡ moment_bytes m
unfolding written
form-is d m e =
    let short : length d ≤ 0 + length (moment_bytes m) = omega (arith, length-moment m) in
    ap (λ t. moment_bytes m ++ t) (drop_of_length-le d short) ∙ append-nil (moment_bytes m)

-- the offset never takes more than there is
pub instant-clock : (m : Moment) → RealMoment m → instant m + m.offset * 3600000 ≡ clock m
unfolding instant clock day_number
instant-clock m r = omega (arith, r.first, r.summer)

-- a real moment's day is within the range of the code
pub real-day : (m : Moment) → RealMoment m → m.day ≤ 31
real-day m r =
    let month = real-month m r in
    omega (arith, r.last, month-length m.year m.month month.january month.december)

-- case F's period, and the last one: "December 2099 ends at 2100-01-01"
pub june-2021 : moment_bytes (period_start 2021 6) ++ moment_bytes (period_end 2021 6) ≡ bytes "2021-06-01T00:00:00.000+02:002021-07-01T00:00:00.000+02:00"
unfolding moment_bytes date_bytes time_bytes tail_bytes fixed above bytes period_start period_end next_year next_month
june-2021 = rw (first-offset 2021 6, first-offset 2021 7)

pub december-2099 : moment_bytes (period_start 2099 12) ++ moment_bytes (period_end 2099 12) ≡ bytes "2099-12-01T00:00:00.000+01:002100-01-01T00:00:00.000+01:00"
unfolding moment_bytes date_bytes time_bytes tail_bytes fixed above bytes period_start period_end next_year next_month
december-2099 = rw (first-offset 2099 12, first-offset 2100 1)

-- the same, as the check cites it
pub ruleset one_form = (form-is)
