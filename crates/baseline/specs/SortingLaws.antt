-- Days ranked by their sums are their keys, sorted: a key is a raised sum times 64, and the day, so that of two days with equal sums the later has the
-- greater key.
use Rattle.std.specs.Prelude.{◌≡◌, ◌⊎◌, Bool, cond, leb, ℤ, pos, ◌+ℤ◌}
use Rattle.std.proofs.Math.Path.{refl, ap}
use Rattle.std.proofs.Common.{sym, ap₂, ◌∙◌, inl, inr, ⊎_elim, leb-true, leb-false}
use Rattle.std.proofs.Math.Bool.{true, false}
use mathlib.Core.List.{List, [], ◌∷◌, ◌++◌, map, map-append}
use Prim.Native.Nat.{ℕ, ◌+◌, ◌*◌, ◌%◌, ◌≤◌, ◌<◌, max, min}
use native.Mathlib.Omega.{arith}
use Rattle.std.specs.Int.Signed.{le_z}
use Rattle.integers.proofs.ZLaws.{up, Over, over-is, le_yes, le-no}
use Rattle.volumes.specs.Ranking.{insert, ranked}
use Rattle.baseline.specs.RankingInner.{inserted}

-- numbers in their places, one by one
unfoldable pub sorted : List ℕ → List ℕ
sorted [] = []
sorted (x ∷ l) = inserted x (sorted l)

-- two numbers are inserted in either order
tails : (k x y : ℕ) → ((min (max k y) x ≡ min (max k x) y) × (min k y ≡ min k x)) ⊎ ((min (max k y) x ≡ min k x) × (min k y ≡ min (max k x) y))
tails k x y = go (leb k x) refl (leb k y) refl (leb x y) refl
  where
    go : (a : Bool) → leb k x ≡ a → (b : Bool) → leb k y ≡ b → (c : Bool) → leb x y ≡ c → ((min (max k y) x ≡ min (max k x) y) × (min k y ≡ min k x)) ⊎ ((min (max k y) x ≡ min k x) × (min k y ≡ min (max k x) y))
    go true e true f c g = let p = leb-true k x e in let q = leb-true k y f in inl (omega arith, omega arith)
    go true e false f c g = let p = leb-true k x e in let q = leb-false k y f in inr (omega arith, omega arith)
    go false e true f c g = let p = leb-false k x e in let q = leb-true k y f in inr (omega arith, omega arith)
    go false e false f c g = let p = leb-false k x e in let q = leb-false k y f in inr (omega arith, omega arith)

pub insert-swap : (x y : ℕ) (l : List ℕ) → inserted x (inserted y l) ≡ inserted y (inserted x l)
insert-swap x y [] = let a : max y x ≡ max x y = omega arith in let b : min y x ≡ min x y = omega arith in rw (a, b)
insert-swap x y (k ∷ l) =
    let head : max (max k y) x ≡ max (max k x) y = omega arith in
    ap₂ (λ (h : ℕ) (t : List ℕ). h ∷ t) head
    (⊎_elim (λ w. ap₂ (λ (a b : ℕ). inserted a (inserted b l)) w.0 w.1)
    (λ w. ap₂ (λ (a b : ℕ). inserted a (inserted b l)) w.0 w.1 ∙ insert-swap (min k x) (min (max k x) y) l)
    (tails k x y))

pub sorted_more : (l : List ℕ) (x : ℕ) → sorted (l ++ (x ∷ [])) ≡ inserted x (sorted l)
unfolding sorted
sorted_more [] x = refl
sorted_more (y ∷ l) x = ap (inserted y) (sorted_more l x) ∙ insert-swap y x (sorted l)

-- a list that falls from k on
abbrev pub Falls : ℕ → List ℕ → Type 0
Falls k [] = Unit {0}
Falls k (j ∷ l) = (j ≤ k) × Falls j l

falls-from : (j k : ℕ) (l : List ℕ) → j ≤ k → Falls j l → Falls k l
falls-from j k [] h f = tt
falls-from j k (i ∷ l) h f = (omega arith, f.1)

pub falls-insert : (k x : ℕ) (l : List ℕ) → Falls k l → x ≤ k → Falls k (inserted x l)
falls-insert k x [] f h = (h, tt)
falls-insert k x (j ∷ l) f h = (omega arith, falls-insert (max j x) (min j x) l (falls-from j (max j x) l (omega arith) f.1) (omega arith))

pub insert-first : (k : ℕ) (l : List ℕ) → Falls k l → inserted k l ≡ k ∷ l
insert-first k [] f = refl
insert-first k (j ∷ l) f =
    let a : max j k ≡ k = omega arith in
    let b : min j k ≡ j = omega arith in
    rw (a, b) (ap (λ (t : List ℕ). k ∷ t) (insert-first j l f.1))

-- ---- days

module _ (bias : ℕ) (sum : ℕ → ℤ) where
  -- a day's sum, raised
  abbrev pub raised_sum : ℕ → ℕ
  raised_sum d = up (sum d +ℤ pos bias)

  abbrev pub key_of : ℕ → ℕ
  key_of d = raised_sum d * 64 + d

  -- a day below a whose sum is raised to no less than 0
  pub record Ranks (a d : ℕ) : Type 0 where
    pub earlier : d < a
    pub small : d < 64
    pub over : Over bias (sum d) (raised_sum d)

  -- days, each earlier than the one before it
  abbrev pub Days : ℕ → List ℕ → Type 0
  Days a [] = Unit {0}
  Days a (d ∷ l) = Ranks a d × Days d l

  -- days, each earlier than a
  abbrev Below : ℕ → List ℕ → Type 0
  Below a [] = Unit {0}
  Below a (d ∷ l) = Ranks a d × Below a l

  below-later : (a b : ℕ) (l : List ℕ) → a ≤ b → Below a l → Below b l
  below-later a b [] h f = tt
  below-later a b (d ∷ l) h f = (record { earlier = omega (arith, f.0.earlier); small = f.0.small; over = f.0.over }, below-later a b l h f.1)

  days-below : (a : ℕ) (l : List ℕ) → Days a l → Below a l
  days-below a [] f = tt
  days-below a (d ∷ l) f = (f.0, below-later d a l (omega (arith, f.0.earlier)) (days-below d l f.1))

  below-insert : (a d : ℕ) (l : List ℕ) → Ranks a d → Below a l → Below a (insert sum d l)
  unfolding insert
  below-insert a d [] r f = (r, tt)
  below-insert a d (e ∷ l) r f = go (le_z (sum e) (sum d)) (below-insert a d l r f.1)
    where
      go : (b : Bool) → Below a (insert sum d l) → Below a (cond b (d ∷ e ∷ l) (e ∷ insert sum d l))
      go true rest = (r, f)
      go false rest = (f.0, rest)

  below-ranked : (a : ℕ) (l : List ℕ) → Below a l → Below a (ranked sum l)
  unfolding ranked
  below-ranked a [] f = tt
  below-ranked a (d ∷ l) f = below-insert a d (ranked sum l) f.0 (below-ranked a l f.1)

  -- the later day's key is greater where its sum is no less, and lesser where it is less
  key-greater : (a b d : ℕ) → Ranks a d → Ranks b a → le_z (sum d) (sum a) ≡ true → key_of d < key_of a
  key-greater a b d r s e = omega (arith, r.over.law, s.over.law, r.earlier, le_yes (sum d) (sum a) e)

  key-lesser : (a b d : ℕ) → Ranks a d → Ranks b a → le_z (sum d) (sum a) ≡ false → key_of a ≤ key_of d
  key-lesser a b d r s e = omega (arith, r.over.law, s.over.law, s.small, le-no (sum d) (sum a) e)

  key-insert : (a b k : ℕ) (l : List ℕ) → Ranks b a → Below a l → Falls k (map key_of l) → map key_of (insert sum a l) ≡ inserted (key_of a) (map key_of l)
  unfolding insert
  key-insert a b k [] r f g = refl
  key-insert a b k (d ∷ l) r f g = go (le_z (sum d) (sum a)) refl (key-insert a b (key_of d) l r f.1 g.1)
    where
      go : (t : Bool) → le_z (sum d) (sum a) ≡ t → map key_of (insert sum a l) ≡ inserted (key_of a) (map key_of l) → map key_of (cond t (a ∷ d ∷ l) (d ∷ insert sum a l)) ≡ inserted (key_of a) (map key_of (d ∷ l))
      go true e rest =
          let o = key-greater a b d f.0 r e in
          let x : max (key_of d) (key_of a) ≡ key_of a = omega arith in
          let y : min (key_of d) (key_of a) ≡ key_of d = omega arith in
          rw (x, y, insert-first (key_of d) (map key_of l) g.1)
      go false e rest =
          let o = key-lesser a b d f.0 r e in
          let x : max (key_of d) (key_of a) ≡ key_of d = omega arith in
          let y : min (key_of d) (key_of a) ≡ key_of a = omega arith in
          rw (x, y, ← rest)

  falls-sorted : (l : List ℕ) → (k : ℕ) × Falls k (sorted l)
  unfolding sorted
  falls-sorted [] = (0, tt)
  falls-sorted (x ∷ l) =
      let f = falls-sorted l in
      (max f.0 x, falls-insert (max f.0 x) x (sorted l) (falls-from f.0 (max f.0 x) (sorted l) (omega arith) f.1) (omega arith))

  -- ranked days, by their keys
  pub ranked-keys : (a : ℕ) (l : List ℕ) → Days a l → map key_of (ranked sum l) ≡ sorted (map key_of l)
  unfolding ranked sorted
  ranked-keys a [] f = refl
  ranked-keys a (d ∷ l) f =
      let rest = ranked-keys d l f.1 in
      let g = falls-sorted (map key_of l) in
      key-insert d a g.0 (ranked sum l) f.0 (below-ranked d l (days-below d l f.1)) (rw rest g.1) ∙ ap (inserted (key_of d)) rest

  -- one more, earlier day
  pub ranked-more : (a : ℕ) (l : List ℕ) (d : ℕ) → Days a l → Days a (l ++ (d ∷ [])) → inserted (key_of d) (map key_of (ranked sum l)) ≡ map key_of (ranked sum (l ++ (d ∷ [])))
  ranked-more a l d f g =
      ap (inserted (key_of d)) (ranked-keys a l f)
      ∙ sym (sorted_more (map key_of l) (key_of d))
      ∙ ap sorted (sym (map-append key_of l (d ∷ [])))
      ∙ sym (ranked-keys a (l ++ (d ∷ [])) g)

  -- a key tells its day
  pub key-day : (d : ℕ) → d < 64 → key_of d % 64 ≡ d
  key-day d h = omega arith

  -- one more, earlier day behind days that are all at least f
  abbrev pub Above : ℕ → List ℕ → Type 0
  Above f [] = Unit {0}
  Above f (d ∷ l) = (f ≤ d) × Above f l

  pub days-more : (a f d : ℕ) (l : List ℕ) → f ≡ d + 1 → Days a l → Above f l → d < a → d < 64 → Over bias (sum d) (raised_sum d) → Days a (l ++ (d ∷ []))
  days-more a f d [] e p q h k o = (record { earlier = h; small = k; over = o }, tt)
  days-more a f d (g ∷ l) e p q h k o = (p.0, days-more g f d l e p.1 q.1 (omega (arith, q.0)) k o)

  pub above_more : (f d : ℕ) (l : List ℕ) → f ≡ d + 1 → Above f l → Above d (l ++ (d ∷ []))
  above_more f d [] e q = (omega arith, tt)
  above_more f d (g ∷ l) e q = (omega (arith, q.0), above_more f d l e q.1)

  pub above-less : (f d : ℕ) (l : List ℕ) → f ≡ d + 1 → Above f l → Above d l
  above-less f d [] e q = tt
  above-less f d (g ∷ l) e q = (omega (arith, q.0), above-less f d l e q.1)

-- a number that is z plus the bias is the raised z
pub raised_is : (bias : ℕ) (z : ℤ) (u : ℕ) → Over bias z u → u ≡ up (z +ℤ pos bias)
raised_is bias z u o = ap up (over-is o)
