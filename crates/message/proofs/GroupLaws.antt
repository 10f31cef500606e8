-- The first group: leading rows of one key, where another key or nothing follows, are one group, and the rest is grouped by itself.
use Rattle.std.specs.Prelude.{◌≡◌, Bool, ◌&&◌, ℕ, suc, ◌<◌, ◌≤◌, leb}
use Rattle.std.proofs.Math.Path.{refl, ap}
use Rattle.std.proofs.Common.{sym, ◌∙◌, arith}
use Rattle.std.proofs.Math.Bool.{false, cond, true}
use mathlib.Core.List.{List, [], ◌∷◌, ◌++◌, map, flat_map}
use Rattle.integers.specs.All.{All}
use Rattle.message.specs.Group.{Keys, push, group, spread}
use Rattle.std.proofs.Math.ListN.{length}
use borrow.Author.Tests.{leb-true}
use Rattle.integers.proofs.TestsLaws.{and_left, and_right}
use Rattle.integers.specs.Rises.{rises}

module _ {K A : Type 0} (E : Keys K) where
  spread-push : (k : K) (a : A) (gs : List (K × List A)) → spread (push E k a gs) ≡ (k, a) ∷ spread gs
  unfolding push spread flat_map
  spread-push k a [] = refl
  spread-push k a (g ∷ gs) = go (E.same k g.0) refl
    where
      go : (b : Bool) → E.same k g.0 ≡ b → spread (cond b ((k, a ∷ g.1) ∷ gs) ((k, a ∷ []) ∷ g ∷ gs)) ≡ (k, a) ∷ spread (g ∷ gs)
      go false e = refl
      go true e = ap (λ (j : K). (k, a) ∷ (map (λ x. (j, x)) g.1 ++ spread gs)) (E.alike k g.0 e)

  pub spread-group : (l : List (K × A)) → spread (group E l) ≡ l
  unfolding group spread flat_map
  spread-group [] = refl
  spread-group (x ∷ l) = spread-push x.0 x.1 (group E l) ∙ ap (λ (r : List (K × A)). x ∷ r) (spread-group l)

  -- groups that aren't empty, each of another key than the next
  unfoldable pub Apart : K → List (K × List A) → Type 0
  Apart k [] = Unit {0}
  Apart k (g ∷ gs) = E.same k g.0 ≡ false

  unfoldable pub Groups : List (K × List A) → Type 0
  Groups [] = Unit {0}
  Groups (g ∷ gs) = (1 ≤ length g.1) × Apart g.0 gs × Groups gs

  group-rows : (k : K) (a : A) (l : List A) (r : List (K × A)) (gs : List (K × List A)) → group E r ≡ gs → Apart k gs → group E (map (λ x. (k, x)) (a ∷ l) ++ r) ≡ (k, a ∷ l) ∷ gs
  unfolding group push Apart
  group-rows k a [] r [] e h = ap (push E k a) e
  group-rows k a [] r (g ∷ gs) e h = ap (push E k a) e ∙ rw h
  group-rows k a (b ∷ l) r gs e h = ap (push E k a) (group-rows k b l r gs e h) ∙ rw (E.itself k)

  pub group-spread : (gs : List (K × List A)) → Groups gs → group E (spread gs) ≡ gs
  unfolding group spread flat_map Groups
  group-spread [] h = refl
  group-spread (g ∷ gs) h = go g.1 refl (group-spread gs h.2)
    where
      go : (l : List A) → g.1 ≡ l → group E (spread gs) ≡ gs → group E (map (λ a. (g.0, a)) g.1 ++ spread gs) ≡ g ∷ gs
      go [] e rec = absurd (omega (arith, ap length e, h.0))
      go (a ∷ l) e rec =
          ap (λ (k : List A). group E (map (λ x. (g.0, x)) k ++ spread gs)) e
          ∙ group-rows g.0 a l (spread gs) gs rec h.1
          ∙ ap (λ (k : List A). (g.0, k) ∷ gs) (sym e)

-- the first group has the first row's key and begins with it
pub record First {K A : Type 0} (x : K × A) (gs : List (K × List A)) : Type 0 where
  pub more : List A
  pub rest : List (K × List A)
  pub is : gs ≡ (x.0, x.1 ∷ more) ∷ rest

first-push : {K A : Type 0} (E : Keys K) (x : K × A) (gs : List (K × List A)) → First x (push E x.0 x.1 gs)
unfolding push
first-push E x [] = record { more = []; rest = []; is = refl }
first-push E x (g ∷ gs) = go (E.same x.0 g.0)
  where
    go : (b : Bool) → First x (cond b ((x.0, x.1 ∷ g.1) ∷ gs) ((x.0, x.1 ∷ []) ∷ g ∷ gs))
    go true = record { more = g.1; rest = gs; is = refl }
    go false = record { more = []; rest = g ∷ gs; is = refl }

pub first_group : {K A : Type 0} (E : Keys K) (x : K × A) (l : List (K × A)) → First x (group E (x ∷ l))
unfolding group
first_group E x l = first-push E x (group E l)

-- groups made of elements whose numbers rise, where elements of one key have one number
module _ {B K A : Type 0} (E : Keys K) (f : B → K × List A) (number : B → ℕ) (one : (a b : B) → E.same (f a).0 (f b).0 ≡ true → number a ≡ number b) where
  different : (a b : B) → number a < number b → E.same (f a).0 (f b).0 ≡ false
  different a b h = go (E.same (f a).0 (f b).0) refl
    where
      go : (t : Bool) → E.same (f a).0 (f b).0 ≡ t → t ≡ false
      go false e = refl
      go true e = absurd (omega (arith, one a b e))

  pub rising-groups : (low : ℕ) (l : List B) → rises low (map number l) ≡ true → All (λ b. 1 ≤ length (f b).1) l → Groups E (map f l)
  unfolding Groups Apart rises All
  rising-groups low [] r a = tt
  rising-groups low (b ∷ []) r a = (a.0, tt, tt)
  rising-groups low (b ∷ c ∷ l) r a =
      let q = and_right (leb low (number b)) (leb (suc (number b)) (number c) && rises (suc (number c)) (map number l)) r in
      let h = leb-true (suc (number b)) (number c) (and_left (leb (suc (number b)) (number c)) (rises (suc (number c)) (map number l)) q) in
      (a.0, different b c h, rising-groups (suc (number b)) (c ∷ l) q a.1)

module _ {K A : Type 0} (E : Keys K) where
  -- rows that don't begin with a key
  unfoldable pub Ends : K → List (K × A) → Type 0
  Ends k [] = Unit {0}
  Ends k (x ∷ l) = E.same k x.0 ≡ false

  alone : (k : K) (a : A) (r : List (K × A)) → Ends k r → push E k a (group E r) ≡ (k, a ∷ []) ∷ group E r
  unfolding group push Ends
  alone k a [] h = refl
  alone k a (y ∷ r) h =
      let f = first_group E y r in
      let g : K × List A = (y.0, y.1 ∷ f.more) in
      ap (push E k a) f.is ∙ ap (λ (b : Bool). cond b ((k, a ∷ g.1) ∷ f.rest) ((k, a ∷ []) ∷ g ∷ f.rest)) h ∙ ap (λ (gs : List (K × List A)). (k, a ∷ []) ∷ gs) (sym f.is)

  joined : (k : K) (a : A) (l : List A) (gs : List (K × List A)) → push E k a ((k, l) ∷ gs) ≡ (k, a ∷ l) ∷ gs
  unfolding push
  joined k a l gs = ap (λ (b : Bool). cond b ((k, a ∷ l) ∷ gs) ((k, a ∷ []) ∷ (k, l) ∷ gs)) (E.itself k)

  pub leading : (k : K) (x : K × A) (l r : List (K × A)) → All (λ y. y.0 ≡ k) (x ∷ l) → Ends k r → group E ((x ∷ l) ++ r) ≡ (k, map (λ y. y.1) (x ∷ l)) ∷ group E r
  unfolding group All
  leading k x [] r v h = ap (λ (j : K). push E j x.1 (group E r)) v.0 ∙ alone k x.1 r h
  leading k x (y ∷ l) r v h =
      ap (λ (j : K). push E j x.1 (group E ((y ∷ l) ++ r))) v.0
      ∙ ap (push E k x.1) (leading k y l r v.1 h)
      ∙ joined k x.1 (map (λ z. z.1) (y ∷ l)) (group E r)
