-- What stands in a list is counted, and what is counted stands in it.
use Rattle.std.specs.Prelude.{◌≡◌, refl, Bool, true, false, cond, ℕ, ◌+◌, ◌≤◌, eqb}
use Rattle.std.proofs.Common.{sym, ⊎_elim, arith, eqb-true, eq-eqb}
use mathlib.Core.List.Memᴰ
use mathlib.Core.List.{List, [], ◌∷◌, ◌++◌, Memᴰ}
use Rattle.std.proofs.lemmas.Bool.{eqb-false}
use Rattle.integers.specs.Counts.{times}

pub eqb-sym : (x y : ℕ) → eqb x y ≡ eqb y x
eqb-sym x y = go (eqb x y) refl (eqb y x) refl
  where
    go : (b : Bool) → eqb x y ≡ b → (c : Bool) → eqb y x ≡ c → b ≡ c
    go true e true f = refl
    go false e false f = refl
    go true e false f = absurd (eqb-false y x f (sym (eqb-true x y e)))
    go false e true f = absurd (eqb-false x y e (sym (eqb-true y x f)))

pub times-append : (x : ℕ) (l m : List ℕ) → times x (l ++ m) ≡ times x l + times x m
unfolding times
times-append x [] m = omega arith
times-append x (y ∷ l) m = omega (arith, times-append x l m)

-- what stands in a list is counted, and what is counted stands in it
pub mem-times : (x : ℕ) (l : List ℕ) → Memᴰ x l → 1 ≤ times x l
unfolding times
mem-times x [] h = absurd (Memᴰ.not-nil h)
mem-times x (y ∷ l) h =
    ⊎_elim (λ e. rw (eq-eqb x y e) (omega arith)) (λ m. let i : 1 ≤ times x l = mem-times x l m in omega arith) (Memᴰ.cases_cons h)

pub times-mem : (x : ℕ) (l : List ℕ) → 1 ≤ times x l → Memᴰ x l
unfolding times
times-mem x [] h = absurd (omega arith)
times-mem x (y ∷ l) h = go (eqb x y) refl h (times-mem x l)
  where
    go : (b : Bool) → eqb x y ≡ b → 1 ≤ cond b 1 0 + times x l → (1 ≤ times x l → Memᴰ x l) → Memᴰ x (y ∷ l)
    go true e k rest = Memᴰ.head (eqb-true x y e)
    go false e k rest = Memᴰ.tail (rest (omega arith))
