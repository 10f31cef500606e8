-- What is kept of a list: its members, its length, its sum and its order are those of the list, less what fails the test.
use Rattle.std.specs.Prelude.{◌≡◌, Bool, leb}
use Rattle.std.proofs.Math.Path.{refl, sym, ap}
use Rattle.std.proofs.Common.{◌∙◌}
use Rattle.std.proofs.Math.Logic.{⊎_elim}
use Rattle.std.proofs.Math.Bool.{true, false, cond}
use Rattle.std.proofs.lemmas.Bool.{false≢true}
use mathlib.Core.List.Memᴰ
use mathlib.Core.List.{List, [], ◌∷◌, ◌++◌, map, Memᴰ}
use Prim.Native.Nat.{ℕ, suc, ◌≤◌}
use native.Mathlib.Omega.{arith}
use Rattle.std.proofs.Math.ListN.{length}
use borrow.Author.Tests.{leb-true}
use Rattle.integers.specs.Sums.{Adding, sum_by}
use Rattle.integers.proofs.TestsLaws.{both, and_both}
use Rattle.integers.specs.Rises.{rises}
use Rattle.integers.specs.Keep.{keep, is_some}
use Rattle.integers.proofs.RisesLaws.{rises-earlier}

module _ {A : Type 0} (test : A → Bool) where
  pub keep-length : (l : List A) → length (keep test l) ≤ length l
  unfolding keep
  keep-length [] = omega arith
  keep-length (a ∷ l) = go (test a) (keep-length l)
    where
      go : (t : Bool) → length (keep test l) ≤ length l → length (cond t (a ∷ keep test l) (keep test l)) ≤ suc (length l)
      go true h = omega arith
      go false h = omega arith

  pub keep_append : (l m : List A) → keep test (l ++ m) ≡ keep test l ++ keep test m
  unfolding keep
  keep_append [] m = refl
  keep_append (a ∷ l) m = go (test a) (keep_append l m)
    where
      go : (t : Bool) → keep test (l ++ m) ≡ keep test l ++ keep test m → cond t (a ∷ keep test (l ++ m)) (keep test (l ++ m)) ≡ cond t (a ∷ keep test l) (keep test l) ++ keep test m
      go true e = ap (λ r. a ∷ r) e
      go false e = e

  -- what fails the test adds nothing
  pub keep-sum : {M : Type 0} (S : Adding M) (f : A → M) → ((a : A) → test a ≡ false → f a ≡ S.none) → (l : List A) → sum_by S f (keep test l) ≡ sum_by S f l
  unfolding keep sum_by
  keep-sum S f h [] = refl
  keep-sum S f h (a ∷ l) = go (test a) refl (keep-sum S f h l)
    where
      go : (t : Bool) → test a ≡ t → sum_by S f (keep test l) ≡ sum_by S f l → sum_by S f (cond t (a ∷ keep test l) (keep test l)) ≡ S.plus (f a) (sum_by S f l)
      go true e i = ap (S.plus (f a)) i
      go false e i = i ∙ sym (S.left (sum_by S f l)) ∙ ap (λ n. S.plus n (sum_by S f l)) (sym (h a e))

  pub mem-keep : (l : List A) (x : A) → Memᴰ x (keep test l) → Memᴰ x l × (test x ≡ true)
  unfolding keep
  mem-keep [] x m = absurd (Memᴰ.not-nil m)
  mem-keep (a ∷ l) x m = go (test a) refl m (mem-keep l x)
    where
      later : Memᴰ x l × (test x ≡ true) → Memᴰ x (a ∷ l) × (test x ≡ true)
      later k = (Memᴰ.tail k.0, k.1)

      go : (t : Bool) → test a ≡ t → Memᴰ x (cond t (a ∷ keep test l) (keep test l)) → (Memᴰ x (keep test l) → Memᴰ x l × (test x ≡ true)) → Memᴰ x (a ∷ l) × (test x ≡ true)
      go true e m i = ⊎_elim (λ q. (Memᴰ.head q, ap test q ∙ e)) (λ k. later (i k)) (Memᴰ.cases_cons m)
      go false e m i = later (i m)

  pub keep-mem : (l : List A) (x : A) → Memᴰ x l → test x ≡ true → Memᴰ x (keep test l)
  unfolding keep
  keep-mem [] x m e = absurd (Memᴰ.not-nil m)
  keep-mem (a ∷ l) x m e = ⊎_elim (λ q. here q) (λ k. there (test a) (keep-mem l x k e)) (Memᴰ.cases_cons m)
    where
      here : x ≡ a → Memᴰ x (cond (test a) (a ∷ keep test l) (keep test l))
      here q = rw (sym (ap test q) ∙ e) (Memᴰ.head q)

      there : (t : Bool) → Memᴰ x (keep test l) → Memᴰ x (cond t (a ∷ keep test l) (keep test l))
      there true k = Memᴰ.tail k
      there false k = k

  -- what rises still does
  pub keep-rises : (key : A → ℕ) (low : ℕ) (l : List A) → rises low (map key l) ≡ true → rises low (map key (keep test l)) ≡ true
  unfolding keep rises
  keep-rises key low [] e = refl
  keep-rises key low (a ∷ l) e = go (test a) (both (leb low (key a)) (rises (suc (key a)) (map key l)) e) (keep-rises key (suc (key a)) l)
    where
      go : (t : Bool) → (leb low (key a) ≡ true) × (rises (suc (key a)) (map key l) ≡ true) → (rises (suc (key a)) (map key l) ≡ true → rises (suc (key a)) (map key (keep test l)) ≡ true) → rises low (map key (cond t (a ∷ keep test l) (keep test l))) ≡ true
      go true b i = and_both b.0 (i b.1)
      go false b i = rises-earlier low (suc (key a)) (map key (keep test l)) (omega (arith, leb-true low (key a) b.0)) (i b.1)

-- a list with a member, and one without
pub some-member : {A : Type 0} (l : List A) → is_some l ≡ true → (a : A) × Memᴰ a l
unfolding is_some
some-member [] e = absurd (false≢true e)
some-member (a ∷ l) e = (a, Memᴰ.head refl)

pub some-length : {A : Type 0} (l : List A) → is_some l ≡ true → 1 ≤ length l
unfolding is_some
some-length [] e = absurd (false≢true e)
some-length (a ∷ l) e = omega arith

pub not_some : {A : Type 0} (l : List A) → is_some l ≡ false → l ≡ []
unfolding is_some
not_some [] e = refl
not_some (a ∷ l) e = absurd (false≢true (sym e))
