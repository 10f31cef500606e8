-- A test that antt computes at each number below n, as the fact at each of them; two tests at once.
use Rattle.std.specs.Prelude.{◌≡◌, refl, Bool, true, false, cond, not, ◌&&◌, ◌||◌, ℕ, zero, suc, ◌<◌, ◌≤◌, T, ltb}
use Rattle.std.proofs.Common.{sym, subst, arith, ltb→lt, nltb→le}
use Rattle.std.proofs.Math.Bool.{and-eq-true_iff}
use Rattle.std.proofs.lemmas.Bool.{false≢true}

-- the test passes at each number below n
abbrev pub all_below : (ℕ → Bool) → ℕ → Bool
all_below test zero = true
all_below test (suc n) = cond (test n) (all_below test n) false

split : (a b : Bool) → T (cond a b false) → T a × T b
split true b t = (tt, t)
split false b t = absurd t

pub all-below : (test : ℕ → Bool) (n : ℕ) → T (all_below test n) → (x : ℕ) → x < n → T (test x)
all-below test zero t x h = absurd (omega arith)
all-below test (suc n) t x h = go (ltb x n) (ltb→lt x n) (nltb→le x n) (all-below test n (split (test n) (all_below test n) t).1 x)
  where
    go : (b : Bool) → (T b → x < n) → (T (not b) → n ≤ x) → (x < n → T (test x)) → T (test x)
    go true below above rest = rest (below tt)
    go false below above rest = let e : n ≤ x = above tt in subst (λ (m : ℕ). T (test m)) (omega arith) (split (test n) (all_below test n) t).0

-- two tests that both hold
pub both : (a b : Bool) → (a && b) ≡ true → (a ≡ true) × (b ≡ true)
both a b = (and-eq-true_iff a b).0

pub and_left : (a b : Bool) → (a && b) ≡ true → a ≡ true
and_left a b e = (both a b e).0

pub and_right : (a b : Bool) → (a && b) ≡ true → b ≡ true
and_right a b e = (both a b e).1

pub and_both : {a b : Bool} → a ≡ true → b ≡ true → (a && b) ≡ true
and_both e f = rw (e, f)

-- and two of which neither does
pub neither : (a b : Bool) → (a || b) ≡ false → (a ≡ false) × (b ≡ false)
neither false b e = (refl, e)
neither true b e = absurd (false≢true (sym e))
