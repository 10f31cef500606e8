-- A ranking has the same elements, falling, and its first n are no smaller than the rest.
-- One more element at the end of the list goes behind its equals: what a loop over days from A - 1 down does.
use Rattle.std.specs.Prelude.{◌≡◌, ◌⊎◌, Bool, ℤ, take, drop, get_or}
use Rattle.std.proofs.Math.Path.{refl, ap}
use Rattle.std.proofs.Common.{◌∙◌, arith, take-append-drop}
use Rattle.std.proofs.Math.Logic.{inl, inr, ⊎_elim}
use Rattle.std.proofs.Math.Bool.{true, false, cond}
use mathlib.Core.List.Memᴰ
use mathlib.Core.List.{List, [], ◌∷◌, ◌++◌, Memᴰ}
use Prim.Native.Nat.{ℕ, zero, suc, ◌≤◌, ◌<◌}
use Rattle.std.proofs.Math.ListN.{length}
use Rattle.std.specs.Int.Signed.{le_z}
use Rattle.integers.proofs.ZLaws.{le_yes, le-no}
use Rattle.volumes.proofs.OrderLaws.{Le, le_refl, le_trans, le-of-no}
use Rattle.volumes.specs.Ranking.{insert, ranked}
use Rattle.integers.proofs.RangesLaws.{get_d-mem}

module _ {ℓ} {A : Type ℓ} (key : A → ℤ) where
  pub length-insert : (a : A) (l : List A) → length (insert key a l) ≡ suc (length l)
  unfolding insert
  length-insert a [] = refl
  length-insert a (b ∷ l) = go (le_z (key b) (key a)) (length-insert a l)
    where
      go : (t : Bool) → length (insert key a l) ≡ suc (length l) → length (cond t (a ∷ b ∷ l) (b ∷ insert key a l)) ≡ suc (suc (length l))
      go true ih = refl
      go false ih = ap suc ih

  pub length-ranked : (l : List A) → length (ranked key l) ≡ length l
  unfolding ranked
  length-ranked [] = refl
  length-ranked (a ∷ l) = length-insert a (ranked key l) ∙ ap suc (length-ranked l)

  -- the same elements
  pub from-insert : (z a : A) (l : List A) → Memᴰ z (insert key a l) → (z ≡ a) ⊎ Memᴰ z l
  unfolding insert
  from-insert z a [] m = Memᴰ.cases_cons m
  from-insert z a (b ∷ l) m = go (le_z (key b) (key a)) (from-insert z a l) m
    where
      go : (t : Bool) → (Memᴰ z (insert key a l) → (z ≡ a) ⊎ Memᴰ z l) → Memᴰ z (cond t (a ∷ b ∷ l) (b ∷ insert key a l)) → (z ≡ a) ⊎ Memᴰ z (b ∷ l)
      go true ih m = Memᴰ.cases_cons m
      go false ih m = ⊎_elim (λ e. inr (Memᴰ.head e)) (λ n. ⊎_elim inl (λ k. inr (Memᴰ.tail k)) (ih n)) (Memᴰ.cases_cons m)

  pub into-insert : (z a : A) (l : List A) → Memᴰ z (a ∷ l) → Memᴰ z (insert key a l)
  unfolding insert
  into-insert z a [] m = m
  into-insert z a (b ∷ l) m = go (le_z (key b) (key a)) (into-insert z a l) m
    where
      go : (t : Bool) → (Memᴰ z (a ∷ l) → Memᴰ z (insert key a l)) → Memᴰ z (a ∷ b ∷ l) → Memᴰ z (cond t (a ∷ b ∷ l) (b ∷ insert key a l))
      go true ih m = m
      go false ih m = ⊎_elim (λ e. Memᴰ.tail (ih (Memᴰ.head e))) (λ n. ⊎_elim (λ e. Memᴰ.head e) (λ k. Memᴰ.tail (ih (Memᴰ.tail k))) (Memᴰ.cases_cons n)) (Memᴰ.cases_cons m)

  pub into-ranked : (z : A) (l : List A) → Memᴰ z l → Memᴰ z (ranked key l)
  unfolding ranked
  into-ranked z [] m = m
  into-ranked z (a ∷ l) m = into-insert z a (ranked key l) (⊎_elim (λ e. Memᴰ.head e) (λ k. Memᴰ.tail (into-ranked z l k)) (Memᴰ.cases_cons m))

  pub from-ranked : (z : A) (l : List A) → Memᴰ z (ranked key l) → Memᴰ z l
  unfolding ranked
  from-ranked z [] m = m
  from-ranked z (a ∷ l) m = ⊎_elim (λ e. Memᴰ.head e) (λ k. Memᴰ.tail (from-ranked z l k)) (from-insert z a (ranked key l) m)

  -- falling
  abbrev pub AtMost : ℤ → List A → Type ℓ
  AtMost m l = (a : A) → Memᴰ a l → Le (key a) m

  pub data Falling : List A → Type ℓ where
    none : Falling []
    next : {a : A} {l : List A} → AtMost (key a) l → Falling l → Falling (a ∷ l)

  le-key : {a b : A} {m : ℤ} → a ≡ b → Le (key b) m → Le (key a) m
  le-key e h = rw e h

  pub falling-insert : (a : A) (l : List A) → Falling l → Falling (insert key a l)
  unfolding insert
  falling-insert a [] none = next (λ z m. absurd (Memᴰ.not-nil m)) none
  falling-insert a (b ∷ l) (next h r) = go (le_z (key b) (key a)) refl (falling-insert a l r)
    where
      go : (t : Bool) → le_z (key b) (key a) ≡ t → Falling (insert key a l) → Falling (cond t (a ∷ b ∷ l) (b ∷ insert key a l))
      go true e ih =
          let q : Le (key b) (key a) = record { law = le_yes (key b) (key a) e } in
          next (λ z m. ⊎_elim (λ p. le-key p q) (λ k. le_trans (h z k) q) (Memᴰ.cases_cons m)) (next h r)
      go false e ih = next (λ z m. ⊎_elim (λ p. le-key p (le-of-no (key b) (key a) e)) (h z) (from-insert z a l m)) ih

  pub falling-ranked : (l : List A) → Falling (ranked key l)
  unfolding ranked
  falling-ranked [] = none
  falling-ranked (a ∷ l) = falling-insert a (ranked key l) (falling-ranked l)

  -- the first n of a falling list are no smaller than the rest
  in-drop : (n : ℕ) (z : A) (l : List A) → Memᴰ z (drop n l) → Memᴰ z l
  in-drop zero z l m = m
  in-drop (suc n) z [] m = m
  in-drop (suc n) z (b ∷ l) m = Memᴰ.tail (in-drop n z l m)

  first-over-rest : (n : ℕ) (l : List A) → Falling l → (a z : A) → Memᴰ a (take n l) → Memᴰ z (drop n l) → Le (key z) (key a)
  first-over-rest zero l r a z m k = absurd (Memᴰ.not-nil m)
  first-over-rest (suc n) [] r a z m k = absurd (Memᴰ.not-nil m)
  first-over-rest (suc n) (b ∷ l) (next h r) a z m k = ⊎_elim (λ e. rw e (h z (in-drop n z l k))) (λ i. first-over-rest n l r a z i k) (Memᴰ.cases_cons m)

  pub largest : (n : ℕ) (l : List A) (a z : A) → Memᴰ a (take n (ranked key l)) → Memᴰ z l → Memᴰ z (take n (ranked key l)) ⊎ Le (key z) (key a)
  largest n l a z m k =
      ⊎_elim inl (λ i. inr (first-over-rest n (ranked key l) (falling-ranked l) a z m i)) (Memᴰ.append_cases (take n (ranked key l)) (rw take-append-drop (into-ranked z l k)))

-- a goes behind the last that is no smaller
unfoldable pub insert_last {ℓ} : {A : Type ℓ} → (A → ℤ) → A → List A → List A
insert_last key a [] = a ∷ []
insert_last key a (b ∷ l) = cond (le_z (key a) (key b)) (b ∷ insert_last key a l) (a ∷ b ∷ l)

-- what three tests of order cannot answer
le-all : (a b c : ℤ) → le_z a b ≡ true → le_z b c ≡ true → le_z a c ≡ false → ⊥
le-all a b c p q r = omega (arith, le_yes a b p, le_yes b c q, le-no a c r)

le-none : (a b c : ℤ) → le_z a b ≡ false → le_z b c ≡ false → le_z a c ≡ true → ⊥
le-none a b c p q r = omega (arith, le-no a b p, le-no b c q, le_yes a c r)

module _ {ℓ} {A : Type ℓ} (key : A → ℤ) where
  -- c comes in front of its equals, a behind its own: in either order
  insert-swap : (c a : A) (l : List A) → insert key c (insert_last key a l) ≡ insert_last key a (insert key c l)
  unfolding insert insert_last
  insert-swap c a [] = go (le_z (key a) (key c))
    where
      go : (t : Bool) → cond t (c ∷ a ∷ []) (a ∷ c ∷ []) ≡ cond t (c ∷ a ∷ []) (a ∷ c ∷ [])
      go true = refl
      go false = refl
  insert-swap c a (b ∷ l) = go (le_z (key a) (key b)) refl (le_z (key b) (key c)) refl (le_z (key a) (key c)) refl (insert-swap c a l)
    where
      go : (t : Bool) → le_z (key a) (key b) ≡ t → (u : Bool) → le_z (key b) (key c) ≡ u → (v : Bool) → le_z (key a) (key c) ≡ v → insert key c (insert_last key a l) ≡ insert_last key a (insert key c l) → insert key c (cond t (b ∷ insert_last key a l) (a ∷ b ∷ l)) ≡ insert_last key a (cond u (c ∷ b ∷ l) (b ∷ insert key c l))
      go true p true q true r ih = rw (q, r, p)
      go true p true q false r ih = absurd (le-all (key a) (key b) (key c) p q r)
      go true p false q v r ih = rw (q, p) (ap (λ z. b ∷ z) ih)
      go false p true q true r ih = rw (r, p)
      go false p true q false r ih = rw (r, q)
      go false p false q true r ih = absurd (le-none (key a) (key b) (key c) p q r)
      go false p false q false r ih = rw (r, q, p)

  pub ranked-next : (l : List A) (a : A) → ranked key (l ++ (a ∷ [])) ≡ insert_last key a (ranked key l)
  unfolding ranked insert insert_last
  ranked-next [] a = refl
  ranked-next (c ∷ l) a = ap (insert key c) (ranked-next l a) ∙ insert-swap c a (ranked key l)

  -- the place where a goes: behind j that are no smaller, before one that is
  pub insert-last-at : (a z : A) (l : List A) (j : ℕ) → j ≤ length l → ((i : ℕ) → i < j → le_z (key a) (key (get_or l i z)) ≡ true) → (j < length l → le_z (key a) (key (get_or l j z)) ≡ false) → insert_last key a l ≡ take j l ++ (a ∷ drop j l)
  unfolding insert_last
  insert-last-at a z [] zero h front back = refl
  insert-last-at a z [] (suc j) h front back = absurd (omega arith)
  insert-last-at a z (b ∷ l) zero h front back = rw (back (omega arith))
  insert-last-at a z (b ∷ l) (suc j) h front back = rw (front 0 (omega arith)) (ap (λ t. b ∷ t) (insert-last-at a z l j (omega arith) (λ i k. front (suc i) (omega arith)) (λ k. back (omega arith))))

  -- in a falling list the earlier is no smaller
  pub falling-at : (z : A) (l : List A) → Falling key l → (i j : ℕ) → i ≤ j → j < length l → Le (key (get_or l j z)) (key (get_or l i z))
  falling-at z [] r i j h k = absurd (omega arith)
  falling-at z (b ∷ l) r zero zero h k = le_refl (key b)
  falling-at z (b ∷ l) (next f r) zero (suc j) h k = f (get_or l j z) (get_d-mem l j z (omega arith))
  falling-at z (b ∷ l) r (suc i) zero h k = absurd (omega arith)
  falling-at z (b ∷ l) (next f r) (suc i) (suc j) h k = falling-at z l r i j (omega arith) (omega arith)
