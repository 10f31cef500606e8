-- What a loop over numbers needs of the first one that a test names, and of whether it names one at all.
use Rattle.std.specs.Prelude.{◌≡◌, refl, Bool, true, false, ◌||◌, List, [], ◌∷◌, ◌++◌}
use Rattle.std.proofs.Common.{sym, ap, ◌∙◌, ⊎_elim, eq-or-lt_of_le}
use Rattle.std.proofs.Math.Bool.{or-true, or_assoc}
use Rattle.std.proofs.Math.Option.{none, some}
use Prim.Native.Nat.{ℕ, zero, suc, ◌+◌, ◌-◌, ◌≤◌, ◌<◌}
use native.Mathlib.Omega.{arith}
use Rattle.integers.proofs.TestsLaws.{neither}
use Rattle.integers.specs.First.{first, any_of, any_below}

module _ (test : ℕ → Bool) (n i : ℕ) where
  pub first-end : n ≤ i → first test i (n - i) ≡ none
  unfolding first
  first-end h = let e : n - i ≡ 0 = omega arith in rw e

  pub first-here : i < n → test i ≡ true → first test i (n - i) ≡ some i
  unfolding first
  first-here h t = let e : n - i ≡ suc (n - (i + 1)) = omega arith in rw (e, t)

  pub first-later : i < n → test i ≡ false → first test i (n - i) ≡ first test (i + 1) (n - (i + 1))
  unfolding first
  first-later h t = let e : n - i ≡ suc (n - (i + 1)) = omega arith in let s : i + 1 ≡ suc i = omega arith in rw (e, t, s)

pub any-more : (test : ℕ → Bool) (i : ℕ) → test i ≡ false → any_below test i ≡ false → any_below test (i + 1) ≡ false
unfolding any_below
any-more test i t e = let s : i + 1 ≡ suc i = omega arith in rw (s, t, e)

pub any-of : (test : ℕ → Bool) (i n : ℕ) → i < n → test i ≡ true → any_below test n ≡ true
unfolding any_below
any-of test i zero h t = absurd (omega arith)
any-of test i (suc n) h t =
    ⊎_elim
    (λ e. let q : n ≡ i = omega arith in rw (q, t) (or-true (any_below test i)))
    (λ l. let s : i < n = omega arith in rw (any-of test i n s t))
    (eq-or-lt_of_le h)

pub any_next : (test : ℕ → Bool) (i : ℕ) → any_below test (i + 1) ≡ (any_below test i || test i)
unfolding any_below
any_next test i = let s : i + 1 ≡ suc i = omega arith in rw s

-- where the test names none of k numbers, the first is sought behind them
pub first-behind : (test : ℕ → Bool) (a k m : ℕ) → any_below (λ i. test (a + i)) k ≡ false → first test a (k + m) ≡ first test (a + k) m
unfolding first any_below
first-behind test a zero m e = let s : 0 + m ≡ m = omega arith in let t : a + 0 ≡ a = omega arith in rw (s, t)
first-behind test a (suc k) m e =
    let n = neither (any_below (λ i. test (a + i)) k) (test (a + k)) e in
    let s : suc k + m ≡ k + suc m = omega arith in
    let t : a + suc k ≡ suc (a + k) = omega arith in
    rw (s, t) (first-behind test a k (suc m) n.0 ∙ rw n.1)

-- one of two lists, one after the other
pub any_append : {A : Type 0} (test : A → Bool) (l m : List A) → any_of test (l ++ m) ≡ (any_of test l || any_of test m)
unfolding any_of
any_append test [] m = refl
any_append test (a ∷ l) m = ap (λ (b : Bool). test a || b) (any_append test l m) ∙ sym (or_assoc (test a) (any_of test l) (any_of test m))
