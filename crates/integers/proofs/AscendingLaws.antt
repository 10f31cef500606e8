-- A list's numbers in ascending order rise strictly, and each of them stands there once.
use Rattle.std.specs.Prelude.{◌≡◌, refl, Bool, true, false, cond, ℕ, suc, ◌+◌, ◌≤◌, ◌<◌, eqb, leb, ltb, length}
use Rattle.std.proofs.Common.{⊎_elim, arith, eqb-true, eq-eqb, ne_eqb, ltb-true, ltb-false, leb-true, le-leb}
use mathlib.Core.List.Memᴰ
use mathlib.Core.List.{List, [], ◌∷◌, Memᴰ}
use Rattle.std.proofs.lemmas.Bool.{eqb-false}
use Rattle.integers.specs.Counts.{times}
use Rattle.integers.proofs.OnceLaws.{Once}
use Rattle.integers.proofs.TestsLaws.{both, and_both}
use Rattle.integers.specs.Rises.{rises}
use Rattle.integers.specs.Ascending.{insert, ascending}

-- ---- they rise

insert-rises : (x low : ℕ) (l : List ℕ) → low ≤ x → rises low l ≡ true → rises low (insert x l) ≡ true
unfolding insert rises
insert-rises x low [] h e = and_both (le-leb low x h) refl
insert-rises x low (y ∷ l) h e = go (ltb x y) refl (eqb x y) refl (both (leb low y) (rises (suc y) l) e) (insert-rises x (suc y) l)
  where
    go : (t : Bool) → ltb x y ≡ t → (u : Bool) → eqb x y ≡ u → (leb low y ≡ true) × (rises (suc y) l ≡ true) → (suc y ≤ x → rises (suc y) l ≡ true → rises (suc y) (insert x l) ≡ true) → rises low (cond t (x ∷ y ∷ l) (cond u (y ∷ l) (y ∷ insert x l))) ≡ true
    go true p u q b i = and_both (le-leb low x h) (and_both (le-leb (suc x) y (ltb-true x y p)) b.1)
    go false p true q b i = and_both b.0 b.1
    go false p false q b i =
        let n : x ≡ y → ⊥ = eqb-false x y q in
        and_both b.0 (i (omega (arith, ltb-false x y p, n)) b.1)

pub ascending-rises : (l : List ℕ) → rises 0 (ascending l) ≡ true
unfolding ascending rises
ascending-rises [] = refl
ascending-rises (x ∷ l) = insert-rises x 0 (ascending l) (omega arith) (ascending-rises l)

-- ---- each stands once

below_none : (z low : ℕ) (l : List ℕ) → z < low → rises low l ≡ true → times z l ≡ 0
unfolding times rises
below_none z low [] h e = refl
below_none z low (y ∷ l) h e =
    let b = both (leb low y) (rises (suc y) l) e in
    let k : low ≤ y = leb-true low y b.0 in
    let i : times z l ≡ 0 = below_none z (suc y) l (omega arith) b.1 in
    rw (ne_eqb z y (λ q. omega arith)) (omega arith)

rises-times : (z low : ℕ) (l : List ℕ) → rises low l ≡ true → times z l ≤ 1
unfolding times rises
rises-times z low [] e = omega arith
rises-times z low (y ∷ l) e = go (eqb z y) refl (both (leb low y) (rises (suc y) l) e).1 (rises-times z (suc y) l)
  where
    go : (t : Bool) → eqb z y ≡ t → rises (suc y) l ≡ true → (rises (suc y) l ≡ true → times z l ≤ 1) → cond t 1 0 + times z l ≤ 1
    go true q r k = let i : times z l ≡ 0 = below_none z (suc y) l (omega (arith, eqb-true z y q)) r in omega arith
    go false q r k = let i : times z l ≤ 1 = k r in omega arith

-- what is put in stands there, and what stood there still does
insert-has : (z x : ℕ) (l : List ℕ) → cond (eqb z x) 1 0 ≤ times z (insert x l)
unfolding insert times
insert-has z x [] = omega arith
insert-has z x (y ∷ l) = go (ltb x y) (eqb x y) refl (insert-has z x l)
  where
    go : (t u : Bool) → eqb x y ≡ u → cond (eqb z x) 1 0 ≤ times z (insert x l) → cond (eqb z x) 1 0 ≤ times z (cond t (x ∷ y ∷ l) (cond u (y ∷ l) (y ∷ insert x l)))
    go true u e i = omega arith
    go false true e i = rw (eqb-true x y e) (omega arith)
    go false false e i = omega arith

insert-keeps : (z x : ℕ) (l : List ℕ) → times z l ≤ times z (insert x l)
unfolding insert times
insert-keeps z x [] = omega arith
insert-keeps z x (y ∷ l) = go (ltb x y) (eqb x y) (insert-keeps z x l)
  where
    go : (t u : Bool) → times z l ≤ times z (insert x l) → cond (eqb z y) 1 0 + times z l ≤ times z (cond t (x ∷ y ∷ l) (cond u (y ∷ l) (y ∷ insert x l)))
    go true u i = omega arith
    go false true i = omega arith
    go false false i = omega arith

insert-only : (z x : ℕ) (l : List ℕ) → Memᴰ z (insert x l) → Memᴰ z (x ∷ l)
unfolding insert
insert-only z x [] h = h
insert-only z x (y ∷ l) h = go (ltb x y) (eqb x y) (insert-only z x l) h
  where
    later : Memᴰ z (x ∷ l) → Memᴰ z (x ∷ y ∷ l)
    later k = ⊎_elim (λ e. Memᴰ.head e) (λ m. Memᴰ.tail (Memᴰ.tail m)) (Memᴰ.cases_cons k)

    go : (t u : Bool) → (Memᴰ z (insert x l) → Memᴰ z (x ∷ l)) → Memᴰ z (cond t (x ∷ y ∷ l) (cond u (y ∷ l) (y ∷ insert x l))) → Memᴰ z (x ∷ y ∷ l)
    go true u i k = k
    go false true i k = Memᴰ.tail k
    go false false i k = ⊎_elim (λ e. Memᴰ.tail (Memᴰ.head e)) (λ m. later (i m)) (Memᴰ.cases_cons k)

ascending-has : (z : ℕ) (l : List ℕ) → Memᴰ z l → 1 ≤ times z (ascending l)
unfolding ascending
ascending-has z [] h = absurd (Memᴰ.not-nil h)
ascending-has z (x ∷ l) h =
    ⊎_elim (λ e. let i : cond (eqb z x) 1 0 ≤ times z (insert x (ascending l)) = insert-has z x (ascending l) in omega (arith, rw (eq-eqb z x e) at i))
    (λ m. let i : 1 ≤ times z (ascending l) = ascending-has z l m in omega (arith, insert-keeps z x (ascending l)))
    (Memᴰ.cases_cons h)

ascending-only : (z : ℕ) (l : List ℕ) → Memᴰ z (ascending l) → Memᴰ z l
unfolding ascending
ascending-only z [] h = h
ascending-only z (x ∷ l) h = ⊎_elim (λ e. Memᴰ.head e) (λ m. Memᴰ.tail (ascending-only z l m)) (Memᴰ.cases_cons (insert-only z x (ascending l) h))

pub ascending-once : (l : List ℕ) → Once (ascending l) l
ascending-once l =
    record {
      once = λ x h. omega (arith, ascending-has x l h, rises-times x 0 (ascending l) (ascending-rises l));
      only = λ x h. ascending-only x l h;
    }

-- ---- they are no more

insert-length : (x : ℕ) (l : List ℕ) → length (insert x l) ≤ suc (length l)
unfolding insert
insert-length x [] = omega arith
insert-length x (y ∷ l) = go (ltb x y) (eqb x y) (insert-length x l)
  where
    go : (t u : Bool) → length (insert x l) ≤ suc (length l) → length (cond t (x ∷ y ∷ l) (cond u (y ∷ l) (y ∷ insert x l))) ≤ suc (suc (length l))
    go true u i = omega arith
    go false true i = omega arith
    go false false i = omega arith

pub ascending-length : (l : List ℕ) → length (ascending l) ≤ length l
unfolding ascending
ascending-length [] = omega arith
ascending-length (x ∷ l) = omega (arith, insert-length x (ascending l), ascending-length l)
