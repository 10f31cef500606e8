-- Rows in order are those of groups in order, and within each group of its rows; judged in one go they are judged each by itself and by the one before it.
use Rattle.std.specs.Prelude.{◌≡◌, Bool, cond, ◌&&◌, ℕ, zero, suc, ◌+◌, ◌≤◌, ◌<◌, leb, ltb, length, get_or}
use Rattle.std.specs.List.{list_all, IsAllAdjacentAnswer}
use Rattle.std.proofs.Math.Path.{refl, ap}
use Rattle.std.proofs.Common.{◌∙◌, sym, ap₂, arith}
use Rattle.std.proofs.Math.Bool.{true, false, and_assoc, and-true, and-false}
use mathlib.Core.List.{List, [], ◌∷◌, map}
use Rattle.integers.proofs.TestsLaws.{and_left, and_right, and_both}
use Rattle.integers.specs.Rises.{rises}
use Rattle.integers.specs.All.{All}
use Rattle.message.specs.Group.{Keys, push, group}
use Rattle.writer.specs.Order.{every, follow, ordered, both, by}
use Rattle.message.proofs.GroupLaws.{first_group}

abbrev pub keys_of : {K A : Type 0} → List (K × A) → List K
keys_of l = map (λ x. x.0) l

swap : (a b c d : Bool) → (a && ((b && c) && d)) ≡ (b && (a && (c && d)))
swap true b c d = and_assoc b c d
swap false true c d = refl
swap false false c d = refl

module _ {K A : Type 0} (E : Keys K) (keys : K → K → Bool) (before : A → A → Bool) where
  -- the groups are in order, and the rows of each
  unfoldable pub in_order : List (K × List A) → Bool
  in_order gs = ordered keys (keys_of gs) && every (λ g. ordered before g.1) gs

  push-order : (x y : K × A) (more : List A) (rest : List (K × List A))
      → in_order (push E x.0 x.1 ((y.0, y.1 ∷ more) ∷ rest)) ≡ (by E keys before x y && in_order ((y.0, y.1 ∷ more) ∷ rest))
  unfolding push in_order ordered every follow
  push-order x y more rest = go (E.same x.0 y.0) refl
    where
      go : (b : Bool) → E.same x.0 y.0 ≡ b
          → in_order (cond b ((x.0, x.1 ∷ y.1 ∷ more) ∷ rest) ((x.0, x.1 ∷ []) ∷ (y.0, y.1 ∷ more) ∷ rest))
          ≡ (cond b (before x.1 y.1) (keys x.0 y.0) && in_order ((y.0, y.1 ∷ more) ∷ rest))
      go false e = and_assoc (keys x.0 y.0) (follow keys y.0 (keys_of rest)) (follow before y.1 more && every (λ g. ordered before g.1) rest)
      go true e =
          ap (λ (k : K). follow keys k (keys_of rest) && ((before x.1 y.1 && follow before y.1 more) && every (λ g. ordered before g.1) rest)) (E.alike x.0 y.0 e)
          ∙ swap (follow keys y.0 (keys_of rest)) (before x.1 y.1) (follow before y.1 more) (every (λ g. ordered before g.1) rest)

  follow-groups : (x : K × A) (l : List (K × A)) → in_order (group E (x ∷ l)) ≡ follow (by E keys before) x l
  unfolding group follow in_order ordered every push
  follow-groups x [] = refl
  follow-groups x (y ∷ l) =
      let f = first_group E y l in
      ap (λ (gs : List (K × List A)). in_order (push E x.0 x.1 gs)) f.is
      ∙ push-order x y f.more f.rest
      ∙ ap (λ (gs : List (K × List A)). by E keys before x y && in_order gs) (sym f.is)
      ∙ ap (λ (b : Bool). by E keys before x y && b) (follow-groups y l)

  pub order-groups : (l : List (K × A)) → in_order (group E l) ≡ ordered (by E keys before) l
  unfolding group in_order ordered every
  order-groups [] = refl
  order-groups (x ∷ l) = follow-groups x l

merge : (k a e r : Bool) → ((k && (a && e)) && r) ≡ ((k && a) && ((k && e) && r))
merge true a e r = and_assoc a e r
merge false a e r = refl

-- what each row has, each group has
module _ {K A : Type 0} (E : Keys K) (key : K → Bool) (good : A → Bool) where
  push-every : (x : K × A) (gs : List (K × List A))
      → every (both key (every good)) (push E x.0 x.1 gs) ≡ (both key good x && every (both key (every good)) gs)
  unfolding push every
  push-every x [] = rw (and-true (good x.1))
  push-every x (g ∷ gs) = go (E.same x.0 g.0) refl
    where
      go : (b : Bool) → E.same x.0 g.0 ≡ b
          → every (both key (every good)) (cond b ((x.0, x.1 ∷ g.1) ∷ gs) ((x.0, x.1 ∷ []) ∷ g ∷ gs)) ≡ (both key good x && every (both key (every good)) (g ∷ gs))
      go false e = rw (and-true (good x.1))
      go true e =
          merge (key x.0) (good x.1) (every good g.1) (every (both key (every good)) gs)
          ∙ ap (λ (k : K). (key x.0 && good x.1) && ((key k && every good g.1) && every (both key (every good)) gs)) (E.alike x.0 g.0 e)

  pub every-group : (l : List (K × A)) → every (both key (every good)) (group E l) ≡ every (both key good) l
  unfolding group every
  every-group [] = refl
  every-group (x ∷ l) = push-every x (group E l) ∙ ap (λ (b : Bool). both key good x && b) (every-group l)

full-push : {K A : Type 0} (E : Keys K) (k : K) (a : A) (gs : List (K × List A)) → All (λ g. 1 ≤ length g.1) gs → All (λ g. 1 ≤ length g.1) (push E k a gs)
unfolding push All
full-push E k a [] h = (omega arith, tt)
full-push {K} {A} E k a (g ∷ gs) h = go (E.same k g.0)
  where
    go : (b : Bool) → All (λ g. 1 ≤ length g.1) (cond b ((k, a ∷ g.1) ∷ gs) ((k, a ∷ []) ∷ g ∷ gs))
    go true = (omega arith, h.1)
    go false = (omega arith, h)

-- no group is empty
pub full-groups : {K A : Type 0} (E : Keys K) (l : List (K × A)) → All (λ g. 1 ≤ length g.1) (group E l)
unfolding group All
full-groups E [] = tt
full-groups E (x ∷ l) = full-push E x.0 x.1 (group E l) (full-groups E l)

-- ---- tests as facts

pub every-all : {A : Type 0} {P : A → Type 0} (good : A → Bool) → ((a : A) → good a ≡ true → P a) → (l : List A) → every good l ≡ true → All P l
unfolding every All
every-all good h [] e = tt
every-all good h (a ∷ l) e = (h a (and_left (good a) (every good l) e), every-all good h l (and_right (good a) (every good l) e))

pub all-every : {A : Type 0} {P : A → Type 0} (good : A → Bool) → ((a : A) → P a → good a ≡ true) → (l : List A) → All P l → every good l ≡ true
unfolding every All
all-every good h [] v = refl
all-every good h (a ∷ l) v = and_both (h a v.0) (all-every good h l v.1)

-- ---- order by numbers

follow-map : {A B : Type 0} (f : A → B) (before : B → B → Bool) (a : A) (l : List A) → follow before (f a) (map f l) ≡ follow (λ x y. before (f x) (f y)) a l
unfolding follow
follow-map f before a [] = refl
follow-map f before a (b ∷ l) = ap (λ (t : Bool). before (f a) (f b) && t) (follow-map f before b l)

pub ordered-map : {A B : Type 0} (f : A → B) (before : B → B → Bool) (l : List A) → ordered before (map f l) ≡ ordered (λ x y. before (f x) (f y)) l
unfolding ordered
ordered-map f before [] = refl
ordered-map f before (a ∷ l) = follow-map f before a l

mix : (a b c d : Bool) → ((a && b) && (c && d)) ≡ ((a && c) && (b && d))
mix true true c d = refl
mix true false true d = refl
mix true false false d = refl
mix false b c d = refl

follow-both : {A : Type 0} (r s : A → A → Bool) (a : A) (l : List A) → follow (λ x y. r x y && s x y) a l ≡ (follow r a l && follow s a l)
unfolding follow
follow-both r s a [] = refl
follow-both r s a (b ∷ l) = ap (λ (t : Bool). (r a b && s a b) && t) (follow-both r s b l) ∙ mix (r a b) (s a b) (follow r b l) (follow s b l)

pub ordered-both : {A : Type 0} (r s : A → A → Bool) (l : List A) → ordered (λ x y. r x y && s x y) l ≡ (ordered r l && ordered s l)
unfolding ordered
ordered-both r s [] = refl
ordered-both r s (a ∷ l) = follow-both r s a l

pub rises-follow : (low a : ℕ) (l : List ℕ) → rises low (a ∷ l) ≡ (leb low a && follow ltb a l)
unfolding rises follow
rises-follow low a [] = refl
rises-follow low a (b ∷ l) = ap (λ (t : Bool). leb low a && t) (rises-follow (suc a) b l)

-- ---- neighbours, as std's `is_sorted_by` judges them

module _ {A : Type 0} (e : A → A → Bool) where
  next : (a b : A) (l : List A) (k : ℕ) (d : A) → e (get_or (b ∷ l) k d) (get_or (a ∷ b ∷ l) (suc k + 1) d) ≡ e (get_or (b ∷ l) k d) (get_or (b ∷ l) (k + 1) d)
  next a b l k d = let f : suc k + 1 ≡ suc (k + 1) = omega arith in ap (λ (i : ℕ). e (get_or (b ∷ l) k d) (get_or (a ∷ b ∷ l) i d)) f

  follow-all : (a : A) (l : List A) → ((k : ℕ) (d : A) → k + 1 < length (a ∷ l) → true ≡ e (get_or (a ∷ l) k d) (get_or (a ∷ l) (k + 1) d)) → true ≡ follow e a l
  unfolding follow
  follow-all a [] h = refl
  follow-all a (b ∷ l) h =
      let first : true ≡ e a b = h 0 a (omega arith) in
      let rest : true ≡ follow e b l =
      follow-all b l (λ k d g. h (suc k) d (omega (arith, g)) ∙ next a b l k d) in
      ap₂ (λ (x y : Bool). x && y) first rest

  follow-fails : (a : A) (l : List A) (k : ℕ) → k + 1 < length (a ∷ l) → ((d : A) → false ≡ e (get_or (a ∷ l) k d) (get_or (a ∷ l) (k + 1) d)) → false ≡ follow e a l
  unfolding follow
  follow-fails a [] k h f = absurd (omega (arith, h))
  follow-fails a (b ∷ l) zero h f = ap (λ (x : Bool). x && follow e b l) (f a)
  follow-fails a (b ∷ l) (suc k) h f =
      let rest : false ≡ follow e b l =
      follow-fails b l k (omega (arith, h)) (λ d. f d ∙ next a b l k d) in
      sym (and-false (e a b)) ∙ ap (λ (y : Bool). e a b && y) rest

  pub adjacent-ordered : (l : List A) (r : Bool) → IsAllAdjacentAnswer (λ x y b. b ≡ e x y) l r → r ≡ ordered e l
  unfolding ordered
  adjacent-ordered [] true h = refl
  adjacent-ordered [] false h = absurd (omega (arith, h.1))
  adjacent-ordered (a ∷ l) true h = follow-all a l h
  adjacent-ordered (a ∷ l) false h = follow-fails a l h.0 h.1 h.2

-- ---- in one go: the first by itself, then each behind it by itself and by the one before it

one_more : (g h x f L F : Bool) → (h && f) ≡ ((h && L) && F) → (g && ((h && x) && f)) ≡ ((g && (h && L)) && (x && F))
one_more false h x f L F i = refl
one_more true false x f L F i = refl
one_more true true true f L F i = i
one_more true true false f L F i = sym (and-false L)

module _ {A : Type 0} (good : A → Bool) (e : A → A → Bool) where
  -- good, and behind the one before it
  abbrev behind : A → A → Bool
  behind a b = good b && e a b

  follow-good : (a : A) (l : List A) → (good a && follow behind a l) ≡ ((good a && list_all good l) && follow e a l)
  unfolding follow
  follow-good a [] = sym (and-true (good a && true))
  follow-good a (b ∷ l) = one_more (good a) (good b) (e a b) (follow behind b l) (list_all good l) (follow e b l) (follow-good b l)

  ordered-good : (d : A) (l : List A) → 1 ≤ length l → (good (get_or l 0 d) && ordered behind l) ≡ (list_all good l && ordered e l)
  unfolding ordered
  ordered-good d [] h = absurd (omega arith)
  ordered-good d (a ∷ l) h = follow-good a l

  pub first-bad : (d : A) (l : List A) → 1 ≤ length l → false ≡ good (get_or l 0 d) → false ≡ (list_all good l && ordered e l)
  first-bad d l h f = ap (λ (b : Bool). b && ordered behind l) f ∙ ordered-good d l h

  pub first-good : (d : A) (l : List A) (r : Bool) → 1 ≤ length l → true ≡ good (get_or l 0 d) → r ≡ ordered behind l → r ≡ (list_all good l && ordered e l)
  first-good d l r h f g = g ∙ ap (λ (b : Bool). b && ordered behind l) f ∙ ordered-good d l h
