-- Decimals of n digits: their length, that they say the number and no other digits do, their bound 10 ^ n. For every n.
use Rattle.std.specs.Prelude.{◌≡◌, refl, Bool, true, false, ◌&&◌, List, [], ◌∷◌, ℕ, zero, suc, ◌+◌, ◌-◌, ◌*◌, ◌/◌, ◌%◌, ◌^◌, ◌≤◌, ◌<◌, length, leb}
use Rattle.std.proofs.Common.{sym, ap, ◌∙◌, subst, arith, pow-suc, add-one, le-leb, leb-true, leb-false}
use Rattle.std.proofs.Math.Nat.{pow-le-pow_right, div-div-eq-div-mul}
use Rattle.text.specs.Decimal.{digit, digits, value_from, value_of, above, fixed, count, plain}

pub true-false : true ≡ false → ⊥
true-false e = let z : ◌≡◌ {A = ℕ} 0 1 = cc in omega arith

-- ---- the number above the last n digits

pub above_zero : (v : ℕ) → above 0 v ≡ v
unfolding above
above_zero v = omega arith

pub above-suc : (n v : ℕ) → above (suc n) v ≡ above n v / 10
unfolding above
above-suc n v = ap (λ (k : ℕ). v / k) (pow-suc 10 n) ∙ sym (div-div-eq-div-mul v (10 ^ n) 10)

-- the first of n + 1 digits taken off, or the last
pub above-tail : (n v : ℕ) → above (suc n) v ≡ above n (v / 10)
above-tail zero v = rw (above-suc, above_zero, above_zero)
above-tail (suc n) v = above-suc (suc n) v ∙ ap (λ (k : ℕ). k / 10) (above-tail n v) ∙ sym (above-suc n (v / 10))

pub above-le : (n v : ℕ) → above n v ≤ v
above-le zero v = omega (arith, above_zero v)
above-le (suc n) v = omega (arith, above-suc n v, above-le n v)

pub above-mono : (n v w : ℕ) → v ≤ w → above n v ≤ above n w
above-mono zero v w h = omega (arith, above_zero v, above_zero w)
above-mono (suc n) v w h = omega (arith, above-suc n v, above-suc n w, above-mono n v w h)

-- nothing above n digits: the number is below 10 ^ n
pub above-none : (n v : ℕ) → v < 10 ^ n → above n v ≡ 0
above-none zero v h = omega (arith, above_zero v)
above-none (suc n) v h = above-tail n v ∙ above-none n (v / 10) (let e = pow-suc 10 n in omega arith)

pub below : (n v : ℕ) → above n v ≡ 0 → v < 10 ^ n
below zero v e = omega (arith, above_zero v)
below (suc n) v e = let f = pow-suc 10 n in omega (arith, below n (v / 10) (sym (above-tail n v) ∙ e))

-- one digit more below
pub above-push : (n v d : ℕ) → d < 10 → above (n + 1) (v * 10 + d) ≡ above n v
above-push n v d h =
    let e : (v * 10 + d) / 10 ≡ v = omega arith in
    rw (add-one, above-tail, e)

pub below-within : (m n v : ℕ) → n ≤ m → above n v ≡ 0 → v < 10 ^ m
below-within m n v h e = let k : 10 ^ n ≤ 10 ^ m = pow-le-pow_right (omega arith) h in omega (arith, below n v e)

-- ---- digits and the number that they say

pub record Digit (x : ℕ) : Type 0 where
  pub lo : 48 ≤ x
  pub hi : x ≤ 57

pub digit-is : (x : ℕ) → digit x ≡ true → Digit x
digit-is x e = go (leb 48 x) refl (leb x 57) refl e
  where
    go : (b : Bool) → leb 48 x ≡ b → (d : Bool) → leb x 57 ≡ d → (b && d) ≡ true → Digit x
    go true f true g e = record { lo = leb-true 48 x f; hi = leb-true x 57 g }
    go true f false g e = absurd (true-false (sym e))
    go false f d g e = absurd (true-false (sym e))

pub is_digit : (x : ℕ) → 48 ≤ x → x ≤ 57 → digit x ≡ true
is_digit x lo hi = rw (le-leb 48 x lo, le-leb x 57 hi)

pub length-fixed : (n v : ℕ) → length (fixed n v) ≡ n
unfolding fixed
length-fixed zero v = refl
length-fixed (suc n) v = ap suc (length-fixed n v)

pub digits-fixed : (n v : ℕ) → digits (fixed n v) ≡ true
unfolding fixed digits
digits-fixed zero v = refl
digits-fixed (suc n) v = rw (is_digit (48 + above n v % 10) (omega arith) (omega arith)) (digits-fixed n v)

-- behind the digits above them, v's last n digits say v
pub value-above : (n v : ℕ) → value_from (above n v) (fixed n v) ≡ v
unfolding fixed value_from
value-above zero v = above_zero v
value-above (suc n) v =
    let k : above (suc n) v * 10 + (48 + above n v % 10 - 48) ≡ above n v = omega (arith, above-suc n v) in
    ap (λ (j : ℕ). value_from j (fixed n v)) k ∙ value-above n v

pub value-fixed : (n v : ℕ) → v < 10 ^ n → value_of (fixed n v) ≡ v
value-fixed n v h = ap (λ (k : ℕ). value_from k (fixed n v)) (sym (above-none n v h)) ∙ value-above n v

-- what digits l behind acc say: above them stands acc, and they are its last digits
pub record Said (acc : ℕ) (l : List ℕ) (v : ℕ) : Type 0 where
  pub before : above (length l) v ≡ acc
  pub last : fixed (length l) v ≡ l

pub said : (acc : ℕ) (l : List ℕ) → digits l ≡ true → Said acc l (value_from acc l)
unfolding value_from digits fixed
said acc [] e = record { before = above_zero acc; last = refl }
said acc (x ∷ l) e = go (digit x) refl e (said (acc * 10 + (x - 48)) l)
  where
    go : (b : Bool) → digit x ≡ b → (b && digits l) ≡ true → (digits l ≡ true → Said (acc * 10 + (x - 48)) l (value_from (acc * 10 + (x - 48)) l))
        → Said acc (x ∷ l) (value_from (acc * 10 + (x - 48)) l)
    go false f e r = absurd (true-false (sym e))
    go true f e r =
        let d = digit-is x f in
        let v = value_from (acc * 10 + (x - 48)) l in
        let b = (r e).before in
        let k : 48 + above (length l) v % 10 ≡ x = omega arith in
        record { before = omega (arith, above-suc (length l) v); last = ap (λ (y : ℕ). y ∷ fixed (length l) v) k ∙ ap (λ (m : List ℕ). x ∷ m) (r e).last }

pub fixed-value : (l : List ℕ) → digits l ≡ true → fixed (length l) (value_of l) ≡ l
fixed-value l e = (said 0 l e).last

pub value-lt : (l : List ℕ) → digits l ≡ true → value_of l < 10 ^ length l
value-lt l e = below (length l) (value_of l) (said 0 l e).before

-- ---- without leading zeros

-- w has n digits: nothing stands above them, and the first of them isn't 0
pub record Digits (n w : ℕ) : Type 0 where
  pub top : above n w ≡ 0
  pub lead : (m : ℕ) → n ≡ suc m → 0 < above m w

pub count-is : (f n w : ℕ) → n ≤ f → Digits n w → count f w ≡ n
unfolding count
count-is zero zero w h d = refl
count-is zero (suc n) w h d = absurd (omega arith)
count-is (suc f) zero zero h d = refl
count-is (suc f) zero (suc w) h d = absurd (omega (arith, above_zero (suc w), d.top))
count-is (suc f) (suc n) zero h d = absurd (omega (arith, above-le n 0, d.lead n refl))
count-is (suc f) (suc n) (suc w) h d =
    ap suc (count-is f n (suc w / 10) (omega arith) (record {
      top = sym (above-tail n (suc w)) ∙ d.top;
      lead = λ m e. omega (arith, above-tail m (suc w), d.lead (suc m) (ap suc e));
    }))

-- one digit more
digits_more : (n w : ℕ) → 0 < w → Digits n (w / 10) → Digits (suc n) w
digits_more n w h d = record { top = above-tail n w ∙ d.top; lead = λ m e. go m (let f : n ≡ m = omega arith in f) }
  where
    go : (m : ℕ) → n ≡ m → 0 < above m w
    go zero e = omega (arith, above_zero w)
    go (suc m) e = omega (arith, above-tail m w, d.lead m e)

pub count-digits : (f w : ℕ) → w ≤ f → Digits (count f w) w
unfolding count
count-digits zero w h = record { top = omega (arith, above_zero w); lead = λ m e. absurd (omega arith) }
count-digits (suc f) zero h = record { top = above_zero 0; lead = λ m e. absurd (omega arith) }
count-digits (suc f) (suc w) h = digits_more (count f (suc w / 10)) (suc w) (omega arith) (count-digits f (suc w / 10) (omega arith))

pub length-plain : (v : ℕ) → length (plain v) ≡ suc (count v (v / 10))
unfolding plain
length-plain v = length-fixed (suc (count v (v / 10))) v

-- v has fewer digits behind its first than v
pub fewer : (n v : ℕ) → 0 < above n v → n < v
fewer zero v h = omega (arith, above_zero v)
fewer (suc n) v h = let e = above-tail n v in omega (arith, fewer n (v / 10) (omega arith), above-le n (v / 10))

-- n digits behind a first digit, which isn't 0 if there are any, are v's
pub plain-is : (n v : ℕ) → above n v < 10 → (0 < n → 0 < above n v) → plain v ≡ fixed (suc n) v
unfolding plain
plain-is n v one lead = ap (λ (k : ℕ). fixed (suc k) v) (count-is v n (v / 10) (few n lead) (record { top = omega (arith, above-tail n v, above-suc n v); lead = behind }))
  where
    few : (n : ℕ) → (0 < n → 0 < above n v) → n ≤ v
    few zero l = omega arith
    few (suc n) l = omega (arith, fewer (suc n) v (l (omega arith)))

    behind : (m : ℕ) → n ≡ suc m → 0 < above m (v / 10)
    behind m e = let p : 0 < above (suc m) v = subst (λ (k : ℕ). 0 < above k v) e (lead (omega arith)) in omega (arith, above-tail m v)

-- how many digits stand behind the first, and what the first is
pub record PlainDigits (v n : ℕ) : Type 0 where
  pub bytes : plain v ≡ fixed (suc n) v
  pub one : above n v < 10
  pub lead : 0 < n → 0 < above n v

pub plain-has : (v : ℕ) → PlainDigits v (count v (v / 10))
unfolding plain
plain-has v =
    let n = count v (v / 10) in
    let d = count-digits v (v / 10) (omega arith) in
    record { bytes = refl; one = omega (arith, above-suc n v, above-tail n v, d.top); lead = first n d.lead }
  where
    first : (n : ℕ) → ((m : ℕ) → n ≡ suc m → 0 < above m (v / 10)) → 0 < n → 0 < above n v
    first zero l h = absurd (omega arith)
    first (suc m) l h = omega (arith, above-tail m v, l m refl)

pub plain-fixed : (v : ℕ) → plain v ≡ fixed (length (plain v)) v
plain-fixed v = (plain-has v).bytes ∙ ap (λ (n : ℕ). fixed n v) (sym (length-plain v))

-- a number below a power of ten has no more digits
pub few-digits : (n v : ℕ) → 1 ≤ n → v < 10 ^ n → length (plain v) ≤ n
few-digits n v k h = go (leb (suc (count v (v / 10))) n) refl
  where
    go : (b : Bool) → leb (suc (count v (v / 10))) n ≡ b → length (plain v) ≤ n
    go true e = omega (arith, length-plain v, leb-true (suc (count v (v / 10))) n e)
    go false e =
        let c = count v (v / 10) in
        let m : n ≤ c = omega (arith, leb-false (suc c) n e) in
        absurd (omega (arith, above-none c v (below-within c n v m (above-none n v h)), (plain-has v).lead (omega arith)))

-- ---- as the check cites them

-- n digits of v that are all and whose first isn't 0 are how many v has
pub counted : (n v : ℕ) → 1 ≤ n → above n v ≡ 0 → (1 < n → 0 < above (n - 1) v) → n ≡ length (plain v)
counted zero v h e l = absurd (omega arith)
counted (suc m) v h e l =
    let f : suc m - 1 ≡ m = omega arith in
    sym (ap length (plain-is m v (omega (arith, above-suc m v)) (λ z. rw f at (l (omega arith)))) ∙ length-fixed (suc m) v)

-- one digit more is counted
pub above-more : (n v : ℕ) → above (n + 1) v ≡ above n v / 10
above-more n v = rw add-one (above-suc n v)

pub above-one : (v : ℕ) → above 1 v ≡ v / 10
above-one v = omega (arith, above-suc 0 v, above_zero v)

pub ruleset widths = (above-one, above-more, fewer, counted)

pub ruleset plains = (plain-fixed)
