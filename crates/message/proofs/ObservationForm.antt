-- The formats of a quantity, an observation and a period. Each has the bytes and the valid contents of the definitions.
use Rattle.std.specs.Prelude.{◌≡◌, true, ◌&&◌, List, ◌++◌, map, ℕ, ◌+◌, ◌*◌, ◌/◌, ◌%◌, ◌≤◌, ◌<◌, leb, ltb, length, drop}
use Rattle.std.proofs.Math.Path.{refl}
use Rattle.std.proofs.Common.{append_assoc, arith}
use borrow.Author.Tests.{leb-true, le-leb, ltb-true, lt-ltb}
use Rattle.integers.proofs.TestsLaws.{and_left, and_right, and_both}
use Rattle.integers.specs.Rises.{rises}
use Rattle.integers.specs.All.{All}
use Rattle.text.specs.Ascii.{bytes}
use Rattle.text.specs.Decimal.{fixed}
use Rattle.formats.specs.Format.{Format}
use Rattle.formats.specs.Combine.{pre, post, post_by, seq, only, Recast, recast}
use Rattle.formats.specs.Exactly.{fixed_digits}
use Rattle.formats.specs.Numbers.{number}
use Rattle.formats.specs.Rising.{rising_items, to-all, from_all}
use Rattle.moments.specs.Moments.{moment_bytes, date_bytes, time_bytes, tail_bytes, period_start, period_end}
use Rattle.message.specs.Contents.{Observation, position}
use Rattle.message.specs.Bytes.{opening, ending, closing, element, quantity_bytes, observation_bytes, period_bytes}
use Rattle.message.specs.Valid.{most, IsObservation, IsPeriod}
use Rattle.message.specs.Reading.{observable, observed, is_period, behind_month}

-- a number without leading zeros and the < that ends it
abbrev pub plain_number : Format ℕ
plain_number = number 60 most (omega arith) refl

-- ---- Quantity

parts : (p : ℕ × ℕ) → p.1 < 1000 → ◌≡◌ {A = ℕ × ℕ} ((p.0 * 1000 + p.1) / 1000, (p.0 * 1000 + p.1) % 1000) p
parts p h =
    let a : (p.0 * 1000 + p.1) / 1000 ≡ p.0 = omega arith in
    let b : (p.0 * 1000 + p.1) % 1000 ≡ p.1 = omega arith in
    λ i. (a i, b i)

pub quantity-recast : Recast (seq (number 46 999999999 (omega arith) refl) (fixed_digits 3)) (λ w. w < 1000000000000) quantity_bytes
    (λ p. p.0 * 1000 + p.1) (λ w. (w / 1000, w % 1000))
unfolding quantity_bytes bytes
quantity-recast =
    record {
      to_ok = λ p ok. omega (arith, ok.0, ok.1);
      from_ok = λ w h. (omega arith, omega arith);
      back = λ p ok. parts p (omega (arith, ok.1));
      forth = λ w h. omega arith;
      same = λ w h. refl;
    }

unfoldable pub quantity : Format ℕ
quantity =
    recast (seq (number 46 999999999 (omega arith) refl) (fixed_digits 3)) (λ w. w < 1000000000000) quantity_bytes
    (λ p. p.0 * 1000 + p.1) (λ w. (w / 1000, w % 1000)) quantity-recast

-- ---- Observation

unfoldable pub observation_body : Format (ℕ × ℕ)
observation_body =
    pre (opening "Observation" ++ opening "Position")
    (seq (post plain_number (ending "Position" ++ opening "Quantity")) (post quantity (closing "Quantity" ++ closing "Observation")))

module _ (last : ℕ) (fits : last ≤ most) where
  pub observation-recast : Recast (only (observable last) observation_body) (IsObservation last) observation_bytes
      observed (λ o. (o.position, o.watts))
  unfolding observation_body quantity observation_bytes closing
  observation-recast =
      record {
        to_ok = λ p ok.
            record {
              within = leb-true p.0 last (and_left (leb p.0 last) (ltb 0 p.1) ok.1);
              some = ltb-true 0 p.1 (and_right (leb p.0 last) (ltb 0 p.1) ok.1);
              below = ok.0.1;
            };
        from_ok = λ o ok. ((omega (arith, ok.within), ok.below), and_both (le-leb o.position last ok.within) (lt-ltb 0 o.watts ok.some));
        back = λ p ok. refl;
        forth = λ o ok. refl;
        same = λ o ok. simp append_assoc;
      }

  unfoldable pub observation : Format Observation
  observation =
      recast (only (observable last) observation_body) (IsObservation last) observation_bytes observed (λ o. (o.position, o.watts)) observation-recast

  pub observation-bytes : (u : Unit {0}) (o : Observation) → observation.render o ≡ observation_bytes o
  unfolding observation
  observation-bytes u o = refl

  -- n of them, from position 1 on
  unfoldable pub observations : ℕ → Format (List Observation)
  observations n = rising_items (λ u. observation) position (λ u o. u) observation_bytes observation-bytes n 1 tt

  pub observations-ok : (n : ℕ) (l : List Observation) → (observations n).Ok l → (length l ≡ n) × (rises 1 (map position l) ≡ true) × All (IsObservation last) l
  unfolding observations observation
  observations-ok n l ok = (ok.count, ok.rising, to-all observation (λ u o. u) tt l ok.each)

  pub ok-observations : (n : ℕ) (l : List Observation) → length l ≡ n → rises 1 (map position l) ≡ true → All (IsObservation last) l → (observations n).Ok l
  unfolding observations observation
  ok-observations n l e r a = record { count = e; rising = r; each = from_all observation (λ u o. u) tt l a }

-- ---- the period

pub to-period : (q : ℕ × ℕ) → is_period q ≡ true → IsPeriod q.0 q.1
unfolding is_period
to-period q e =
    let y = and_left (leb 2018 q.0 && leb q.0 2099) (leb 1 q.1 && leb q.1 12) e in
    let m = and_right (leb 2018 q.0 && leb q.0 2099) (leb 1 q.1 && leb q.1 12) e in
    record {
      from = leb-true 2018 q.0 (and_left (leb 2018 q.0) (leb q.0 2099) y);
      to = leb-true q.0 2099 (and_right (leb 2018 q.0) (leb q.0 2099) y);
      january = leb-true 1 q.1 (and_left (leb 1 q.1) (leb q.1 12) m);
      december = leb-true q.1 12 (and_right (leb 1 q.1) (leb q.1 12) m);
    }

pub from-period : (q : ℕ × ℕ) → IsPeriod q.0 q.1 → is_period q ≡ true
unfolding is_period
from-period q p =
    and_both (and_both (le-leb 2018 q.0 p.from) (le-leb q.0 2099 p.to)) (and_both (le-leb 1 q.1 p.january) (le-leb q.1 12 p.december))

-- year and month, and what follows them
unfoldable pub month_body : Format (ℕ × ℕ)
month_body = only is_period (pre (opening "PeriodStart") (seq (post (fixed_digits 4) (bytes "-")) (fixed_digits 2)))

-- the first bytes are the year and the month
month-split : (year month : ℕ)
    → moment_bytes (period_start year month) ≡ fixed 4 year ++ bytes "-" ++ fixed 2 month ++ drop 7 (moment_bytes (period_start year month))
unfolding moment_bytes date_bytes time_bytes tail_bytes period_start fixed bytes
month-split year month = refl

join : (o x t c e r m : List ℕ) → m ≡ x ++ t → o ++ x ++ (t ++ c ++ e ++ r) ≡ (o ++ m ++ c) ++ e ++ r
join o x t c e r m h = rw h (simp append_assoc)

pub period-recast : Recast (post_by month_body behind_month) (λ q. IsPeriod q.0 q.1) (λ q. period_bytes q.0 q.1) (λ q. q) (λ q. q)
unfolding month_body behind_month period_bytes
period-recast =
    record {
      to_ok = λ q ok. to-period q ok.1;
      from_ok = λ q ok. ((omega (arith, ok.to), omega (arith, ok.december)), from-period q ok);
      back = λ q ok. refl;
      forth = λ q ok. refl;
      same = λ q ok. join (opening "PeriodStart") (fixed 4 q.0 ++ bytes "-" ++ fixed 2 q.1) (drop 7 (moment_bytes (period_start q.0 q.1))) (closing "PeriodStart")
          (element "PeriodEnd" (moment_bytes (period_end q.0 q.1))) (element "PeriodResolution" (bytes "PT15M"))
          (moment_bytes (period_start q.0 q.1)) (month-split q.0 q.1);
    }

unfoldable pub period : Format (ℕ × ℕ)
period = recast (post_by month_body behind_month) (λ q. IsPeriod q.0 q.1) (λ q. period_bytes q.0 q.1) (λ q. q) (λ q. q) period-recast
