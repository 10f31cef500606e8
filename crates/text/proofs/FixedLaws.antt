-- What a loop over the digits of a number of n digits goes by: what is said behind those that were read, and what is written before those that were.
use Rattle.std.specs.Prelude.{◌≡◌, true, false, List, ℕ, suc, ◌+◌, ◌-◌, ◌*◌, ◌/◌, ◌%◌, ◌^◌, ◌≤◌, ◌<◌, length, take, drop, get_or, set, Option, Some, None}
use Rattle.std.proofs.Common.{arith, le-leb, drop_of_length-le, drop-cons, add-one}
use Rattle.std.proofs.lemmas.Bool.{lt-leb}
use Rattle.text.specs.Decimal.{digit, digits, value_from, pick_number, above, fixed, fixed_at}
use Rattle.text.specs.WrittenInner.{written}
use Rattle.text.proofs.DecimalLaws.{digit-is, above_zero, above-suc, above-push, below-within, length-fixed}
use Rattle.text.proofs.TagLaws.{to_end}
use Rattle.text.proofs.WrittenLaws.{written-nil, written-cons}

-- ---- read

-- what the bytes l say behind acc
abbrev pub number_from : ℕ → List ℕ → Option ℕ
number_from acc l = pick_number (digits l) (Some (value_from acc l))

module _ (s : List ℕ) (at n : ℕ) where
  pub fixed-short : length s < at + n → fixed_at s at n ≡ None
  unfolding fixed_at
  fixed-short h = rw (lt-leb (at + n) (length s) h)

  pub fixed-begin : at + n ≤ length s → fixed_at s at n ≡ number_from 0 (take n (drop at s))
  unfolding fixed_at
  fixed-begin h = rw (le-leb (at + n) (length s) h)

module _ (l : List ℕ) (i acc : ℕ) where
  -- a digit is passed, another byte ends it
  pub from-digit : i < length l → digit (get_or l i 0) ≡ true → number_from acc (drop i l) ≡ number_from (acc * 10 + (get_or l i 0 - 48)) (drop (i + 1) l)
  unfolding digits value_from
  from-digit h e = rw (add-one, drop-cons l i 0 h, e)

  pub from-other : i < length l → digit (get_or l i 0) ≡ false → number_from acc (drop i l) ≡ None
  unfolding digits value_from
  from-other h e = rw (drop-cons l i 0 h, e)

  pub from-end : length l ≤ i → number_from acc (drop i l) ≡ Some acc
  unfolding digits value_from
  from-end h = rw (drop_of_length-le l {i = i} h)

-- 17 digits and one more are a number of 64 bits
pub below-17 : (n v : ℕ) → n ≤ 17 → above n v ≡ 0 → v < 10 ^ 17
below-17 n v h e = below-within 17 n v h e

pub ruleset numbers_read = (fixed-short, fixed-begin, to_end, from-digit, from-other, from-end, below-17, above_zero, above-push, digit-is)

-- ---- written

-- one digit more
pub fixed-turn : (d : List ℕ) (at n k v : ℕ) → 0 < k → k ≤ n → at + n ≤ length d
    → set (written d (at + k) (fixed (n - k) v)) (at + (k - 1)) (48 + above (n - k) v % 10) ≡ written d (at + (k - 1)) (fixed (n - (k - 1)) v)
unfolding fixed
fixed-turn d at n k v h g room =
    let e : n - (k - 1) ≡ suc (n - k) = omega arith in
    let f : at + k ≡ suc (at + (k - 1)) = omega arith in
    let l = length-fixed (n - k) v in
    rw (e, f) (written-cons d (at + (k - 1)) (48 + above (n - k) v % 10) (fixed (n - k) v) (omega arith))

pub above-turn : (n k v : ℕ) → 0 < k → k ≤ n → above (n - k) v / 10 ≡ above (n - (k - 1)) v
above-turn n k v h g = let e : n - (k - 1) ≡ suc (n - k) = omega arith in rw (e, above-suc)

pub written-begin : (d : List ℕ) (at n v : ℕ) → written d at (fixed (n - n) v) ≡ d
unfolding fixed
written-begin d at n v = let e : n - n ≡ 0 = omega arith in rw e (written-nil _ _)

pub above-begin : (n v : ℕ) → above (n - n) v ≡ v
above-begin n v = let e : n - n ≡ 0 = omega arith in rw (e, above_zero)

pub ruleset digits_written = (fixed-turn, above-turn, written-begin, above-begin, length-fixed)
