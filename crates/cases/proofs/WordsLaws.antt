-- The number that a word says, one digit on: what a loop over the word goes by.
use Rattle.std.specs.Prelude.{◌≡◌, refl, Bool, true, false, ◌&&◌, List, [], ◌∷◌, ℕ, ◌+◌, ◌-◌, ◌*◌, ◌^◌, ◌≤◌, ◌<◌, ltb, cond, Some, None, length, drop, get_or}
use Rattle.std.specs.Option.{option_and_then}
use Rattle.std.proofs.Common.{◌∙◌, ap, drop_of_length-le, drop-cons, arith, add-one, lt-ltb, le-ltb}
use Rattle.std.proofs.lemmas.Bool.Decides.{nat_tests}
use Rattle.text.specs.Decimal.{digit, digits, value_from}
use Rattle.cases.specs.WordsInner.{number_from, with_digit_of}

-- more digits say no less
pub value_grows : (acc : ℕ) (l : List ℕ) → acc ≤ value_from acc l
unfolding value_from
value_grows acc [] = omega arith
value_grows acc (x ∷ l) = omega (arith, value_grows (acc * 10 + (x - 48)) l)

and-false : (b : Bool) → (b && false) ≡ false
and-false true = refl
and-false false = refl

step-by : (acc x : ℕ) (l : List ℕ) (is fits : Bool) → digit x ≡ is → ltb (acc * 10 + (x - 48)) (2 ^ 64) ≡ fits
    → number_from acc (x ∷ l) ≡ option_and_then (λ n. number_from n l) (cond (is && fits) (Some (acc * 10 + (x - 48))) None)
unfolding number_from digits value_from
step-by acc x l false fits e f = rw e
step-by acc x l true false e f =
    let k : ltb (value_from (acc * 10 + (x - 48)) l) (2 ^ 64) ≡ false = grind (arith, nat_tests, value_grows (acc * 10 + (x - 48)) l) in
    rw (e, k, and-false (digits l))
step-by acc x l true true e f = rw e

-- what stands from place i on of a word, by its first byte
step : (word : List ℕ) (i acc : ℕ) → i < length word
    → number_from acc (drop i word) ≡ option_and_then (λ n. number_from n (drop (i + 1) word)) (with_digit_of acc (get_or word i 0))
step word i acc within =
    let cut : drop i word ≡ get_or word i 0 ∷ drop (i + 1) word = rw (add-one, drop-cons word i 0) in
    let x = get_or word i 0 in
    ap (number_from acc) cut ∙ step-by acc x (drop (i + 1) word) (digit x) (ltb (acc * 10 + (x - 48)) (2 ^ 64)) refl refl

pub number_stops : (word : List ℕ) (i acc : ℕ) → i < length word → with_digit_of acc (get_or word i 0) ≡ None → number_from acc (drop i word) ≡ None
number_stops word i acc within e = step word i acc within ∙ ap (option_and_then (λ n. number_from n (drop (i + 1) word))) e

pub number_goes_on : (word : List ℕ) (i acc next : ℕ) → i < length word → with_digit_of acc (get_or word i 0) ≡ Some next → number_from acc (drop i word) ≡ number_from next (drop (i + 1) word)
number_goes_on word i acc next within e = step word i acc within ∙ ap (option_and_then (λ n. number_from n (drop (i + 1) word))) e

pub number_end : (word : List ℕ) (i acc : ℕ) → length word ≤ i → acc < 2 ^ 64 → number_from acc (drop i word) ≡ Some acc
unfolding number_from digits value_from
number_end word i acc h k = ap (number_from acc) (drop_of_length-le word {i = i} h) ∙ rw (lt-ltb acc (2 ^ 64) k)

-- what passes 64 bits, a byte that is no digit, and one that is
pub number-large : (acc : ℕ) (l : List ℕ) → 2 ^ 64 ≤ acc → number_from acc l ≡ None
unfolding number_from
number-large acc l h =
    let k : 2 ^ 64 ≤ value_from acc l = omega (arith, value_grows acc l) in
    rw (le-ltb (value_from acc l) (2 ^ 64) k, and-false (digits l))

module _ (word : List ℕ) (i acc : ℕ) where
  cut : i < length word → drop i word ≡ get_or word i 0 ∷ drop (i + 1) word
  cut h = rw (add-one, drop-cons word i 0)

  pub number-stop : i < length word → digit (get_or word i 0) ≡ false → number_from acc (drop i word) ≡ None
  unfolding number_from digits value_from
  number-stop h e = ap (number_from acc) (cut h) ∙ rw e

  pub number_step : i < length word → digit (get_or word i 0) ≡ true
      → number_from acc (drop i word) ≡ number_from (acc * 10 + (get_or word i 0 - 48)) (drop (i + 1) word)
  unfolding number_from digits value_from
  number_step h e = ap (number_from acc) (cut h) ∙ rw e

  pub number-end : length word ≤ i → acc < 2 ^ 64 → number_from acc (drop i word) ≡ Some acc
  number-end h k = number_end word i acc h k
