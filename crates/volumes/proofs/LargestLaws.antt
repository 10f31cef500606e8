-- The sum of the n largest, by recursion: it grows with the keys, and by no more than all keys together do.
-- No code needs it. It is for bounds on baselines: with readings that are known within bounds, the mean of the X largest is too (`largest-grows`, C-16); and
-- one corrected reading moves an engagement's baselines together by no more than its own mean's share (`largest-within` with `high_sum`, C-22).
use Rattle.std.specs.Prelude.{◌≡◌, Bool, cond, ℤ, pos, ◌+ℤ◌, ◌-ℤ◌, take}
use Rattle.std.proofs.Math.Path.{refl, sym, ap}
use Rattle.std.proofs.Common.{◌∙◌, eq-or-lt_of_le}
use Rattle.std.proofs.Math.Logic.{⊎_elim}
use Rattle.std.proofs.Math.Bool.{true, false}
use mathlib.Core.List.Memᴰ
use mathlib.Core.List.{List, [], ◌∷◌, Memᴰ}
use Prim.Native.Nat.{ℕ, zero, suc, ◌≤◌, ◌<◌}
use native.Mathlib.Omega.{arith}
use Rattle.std.proofs.Math.ListN.{length}
use Rattle.std.proofs.Math.Seq.{take-length}
use Rattle.std.specs.Int.Signed.{le_z}
use Rattle.integers.proofs.ZLaws.{eq_z, sum, dif, le_yes}
use Rattle.integers.specs.Sums.{sum_by, sum_z}
use Rattle.volumes.proofs.OrderLaws.{Le, le_refl, le_trans, le-of-no, add-le, max_z, max-left, max-right, over-left, over-right, max-under, max-add}
use Rattle.volumes.specs.Ranking.{insert, ranked}
use Rattle.volumes.proofs.RankingLaws.{AtMost, Falling, next, falling-ranked, length-ranked}
use Rattle.volumes.specs.RankingInner.{sum_of_largest}

module _ {ℓ} {A : Type ℓ} (key : A → ℤ) where
  -- one more of elements that are at most m
  one_more : (n : ℕ) (l : List A) (m : ℤ) → AtMost key m l → n < length l → Le (sum_z key (take (suc n) l)) (m +ℤ sum_z key (take n l))
  unfolding sum_by
  one_more n [] m h k = absurd (omega arith)
  one_more zero (a ∷ l) m h k = let q : Le (key a) m = h a (Memᴰ.head refl) in record { law = omega (arith, sum (key a) (pos 0), sum m (pos 0)) }
  one_more (suc n) (a ∷ l) m h k =
      let ih : Le (sum_z key (take (suc n) l)) (m +ℤ sum_z key (take n l)) = one_more n l m (λ b i. h b (Memᴰ.tail i)) (omega arith) in
      record { law = omega (arith, sum (key a) (sum_z key (take (suc n) l)), sum m (sum_z key (take n l)), sum (key a) (sum_z key (take n l)), sum m (key a +ℤ sum_z key (take n l))) }

  inserted : (n : ℕ) (x : A) (s : List A) → Falling key s → n < length s → sum_z key (take (suc n) (insert key x s)) ≡ max_z (key x +ℤ sum_z key (take n s)) (sum_z key (take (suc n) s))
  unfolding sum_by insert
  inserted n x [] r k = absurd (omega arith)
  inserted n x (y ∷ l) (next h r) k = go (le_z (key y) (key x)) refl (λ m i. inserted m x l r i)
    where
      under : (n : ℕ) → n < suc (length l) → ((m : ℕ) → m < length l → sum_z key (take (suc m) (insert key x l)) ≡ max_z (key x +ℤ sum_z key (take m l)) (sum_z key (take (suc m) l))) → Le (key x) (key y) → key y +ℤ sum_z key (take n (insert key x l)) ≡ max_z (key x +ℤ sum_z key (take n (y ∷ l))) (key y +ℤ sum_z key (take n l))
      under zero k ih q = sym (max-right _ _ (record { law = omega (arith, sum (key x) (pos 0), sum (key y) (pos 0)) }))
      under (suc m) k ih q = ap (λ z. key y +ℤ z) (ih m (omega arith)) ∙ max-add (key x) (key y) (sum_z key (take m l)) (sum_z key (take (suc m) l))

      over : Le (key y) (key x) → (a : A) → Memᴰ a (y ∷ l) → Le (key a) (key x)
      over q a m = ⊎_elim (λ e. rw e q) (λ i. le_trans (h a i) q) (Memᴰ.cases_cons m)

      go : (t : Bool) → le_z (key y) (key x) ≡ t → ((m : ℕ) → m < length l → sum_z key (take (suc m) (insert key x l)) ≡ max_z (key x +ℤ sum_z key (take m l)) (sum_z key (take (suc m) l))) → sum_z key (take (suc n) (cond t (x ∷ y ∷ l) (y ∷ insert key x l))) ≡ max_z (key x +ℤ sum_z key (take n (y ∷ l))) (key y +ℤ sum_z key (take n l))
      go true e ih = sym (max-left _ _ (one_more n (y ∷ l) (key x) (over (record { law = le_yes (key y) (key x) e })) k))
      go false e ih = under n k ih (le-of-no (key y) (key x) e)

  -- the n + 1 largest of x ∷ l: x with the n largest of l, or the n + 1 largest of l, whichever sum is greater
  pub sum-of-largest : (n : ℕ) (x : A) (l : List A) → n < length l → sum_of_largest key (suc n) (x ∷ l) ≡ max_z (key x +ℤ sum_of_largest key n l) (sum_of_largest key (suc n) l)
  unfolding sum_of_largest ranked
  sum-of-largest n x l h = inserted n x (ranked key l) (falling-ranked key l) (rw length-ranked h)

module _ {A : Type 0} (key : A → ℤ) where
  sum-insert : (x : A) (l : List A) → sum_z key (insert key x l) ≡ key x +ℤ sum_z key l
  unfolding insert sum_by
  sum-insert x [] = refl
  sum-insert x (y ∷ l) = go (le_z (key y) (key x)) (sum-insert x l)
    where
      go : (t : Bool) → sum_z key (insert key x l) ≡ key x +ℤ sum_z key l → sum_z key (cond t (x ∷ y ∷ l) (y ∷ insert key x l)) ≡ key x +ℤ (key y +ℤ sum_z key l)
      go true ih = refl
      go false ih = ap (λ z. key y +ℤ z) ih ∙ eq_z _ _ (omega (arith, (sum (key x) (sum_z key l)).law, (sum (key y) (key x +ℤ sum_z key l)).law, (sum (key y) (sum_z key l)).law, (sum (key x) (key y +ℤ sum_z key l)).law))

  sum-ranked : (l : List A) → sum_z key (ranked key l) ≡ sum_z key l
  unfolding ranked sum_by
  sum-ranked [] = refl
  sum-ranked (x ∷ l) = sum-insert x (ranked key l) ∙ ap (λ z. key x +ℤ z) (sum-ranked l)

  pub all-largest : (n : ℕ) (l : List A) → n ≡ length l → sum_of_largest key n l ≡ sum_z key l
  unfolding sum_of_largest
  all-largest n l e = ap (λ n. sum_z key (take n (ranked key l))) (e ∙ sym (length-ranked key l)) ∙ ap (sum_z key) (take-length (ranked key l)) ∙ sum-ranked l

none-largest : {A : Type 0} (key : A → ℤ) (l : List A) → sum_of_largest key 0 l ≡ pos 0
unfolding sum_of_largest sum_by
none-largest key l = refl

-- steps of the second law below, in numbers: s and t grow within b - a, and then within (y + b) - (x + a)
nothing : (a b : ℤ) → Le a b → Le (pos 0) (pos 0 +ℤ (b -ℤ a))
nothing a b p = record { law = omega (arith, (dif b a).law, (sum (pos 0) (b -ℤ a)).law) }

whole : (a b : ℤ) → Le b (a +ℤ (b -ℤ a))
whole a b = record { law = omega (arith, (dif b a).law, (sum a (b -ℤ a)).law) }

with-one : (x y s t a b : ℤ) → Le t (s +ℤ (b -ℤ a)) → Le (y +ℤ t) ((x +ℤ s) +ℤ ((y +ℤ b) -ℤ (x +ℤ a)))
with-one x y s t a b p = record { law = omega (arith, (sum s (b -ℤ a)).law, (dif b a).law, (sum y t).law, (sum x s).law, (sum y b).law, (sum x a).law, (dif (y +ℤ b) (x +ℤ a)).law, (sum (x +ℤ s) ((y +ℤ b) -ℤ (x +ℤ a))).law) }

without : (x y s t a b : ℤ) → Le x y → Le t (s +ℤ (b -ℤ a)) → Le t (s +ℤ ((y +ℤ b) -ℤ (x +ℤ a)))
without x y s t a b p q = record { law = omega (arith, (sum s (b -ℤ a)).law, (dif b a).law, (sum y b).law, (sum x a).law, (dif (y +ℤ b) (x +ℤ a)).law, (sum s ((y +ℤ b) -ℤ (x +ℤ a))).law) }

add_right : {a b : ℤ} (c : ℤ) → Le a b → Le (a +ℤ c) (b +ℤ c)
add_right {a} {b} c p = add-le a b c c p (le_refl c)

module _ {A : Type 0} (f g : A → ℤ) (h : (a : A) → Le (f a) (g a)) where
  sum-grows : (l : List A) → Le (sum_z f l) (sum_z g l)
  unfolding sum_by
  sum-grows [] = record { law = omega arith }
  sum-grows (a ∷ l) = add-le (f a) (g a) (sum_z f l) (sum_z g l) (h a) (sum-grows l)

  -- no smaller keys, no smaller sum
  pub largest-grows : (n : ℕ) (l : List A) → n ≤ length l → Le (sum_of_largest f n l) (sum_of_largest g n l)
  largest-grows zero l k = rw (none-largest f l, none-largest g l) (record { law = omega arith })
  largest-grows (suc n) [] k = absurd (omega arith)
  largest-grows (suc n) (x ∷ l) k =
      ⊎_elim
      (λ e. rw (all-largest f (suc n) (x ∷ l) (ap suc e), all-largest g (suc n) (x ∷ l) (ap suc e)) (sum-grows (x ∷ l)))
      (λ i. rw (sum-of-largest f n x l i, sum-of-largest g n x l i) (max-under (f x +ℤ sum_of_largest f n l) (sum_of_largest f (suc n) l) _ (le_trans (add-le (f x) (g x) (sum_of_largest f n l) (sum_of_largest g n l) (h x) (largest-grows n l (omega arith))) (over-left (g x +ℤ sum_of_largest g n l) (sum_of_largest g (suc n) l))) (le_trans (largest-grows (suc n) l i) (over-right (g x +ℤ sum_of_largest g n l) (sum_of_largest g (suc n) l)))))
      (eq-or-lt_of_le {n = n} {m = length l} (omega arith))

  -- and no greater than by the keys' whole growth
  pub largest-within : (n : ℕ) (l : List A) → n ≤ length l → Le (sum_of_largest g n l) (sum_of_largest f n l +ℤ (sum_z g l -ℤ sum_z f l))
  unfolding sum_by
  largest-within zero l k = rw (none-largest f l, none-largest g l) (nothing (sum_z f l) (sum_z g l) (sum-grows l))
  largest-within (suc n) [] k = absurd (omega arith)
  largest-within (suc n) (x ∷ l) k =
      ⊎_elim
      (λ e. rw (all-largest f (suc n) (x ∷ l) (ap suc e), all-largest g (suc n) (x ∷ l) (ap suc e)) (whole (f x +ℤ sum_z f l) (g x +ℤ sum_z g l)))
      (λ i. rw (sum-of-largest f n x l i, sum-of-largest g n x l i)
      (max-under (g x +ℤ sum_of_largest g n l) (sum_of_largest g (suc n) l) _
      (le_trans (with-one (f x) (g x) (sum_of_largest f n l) (sum_of_largest g n l) (sum_z f l) (sum_z g l) (largest-within n l (omega arith))) (add_right (g x +ℤ sum_z g l -ℤ (f x +ℤ sum_z f l)) (over-left (f x +ℤ sum_of_largest f n l) (sum_of_largest f (suc n) l))))
      (le_trans (without (f x) (g x) (sum_of_largest f (suc n) l) (sum_of_largest g (suc n) l) (sum_z f l) (sum_z g l) (h x) (largest-within (suc n) l i)) (add_right (g x +ℤ sum_z g l -ℤ (f x +ℤ sum_z f l)) (over-right (f x +ℤ sum_of_largest f n l) (sum_of_largest f (suc n) l))))))
      (eq-or-lt_of_le {n = n} {m = length l} (omega arith))
