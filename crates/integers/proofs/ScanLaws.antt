-- Ascending numbers one after another, as a scan of a list finds them: the least from a place on, then the least above it.
use Rattle.std.specs.Prelude.{◌≡◌, refl, Bool, true, false, cond, ℕ, suc, ◌≤◌, ◌<◌, leb}
use Rattle.std.proofs.Common.{ap, ⊎_elim, arith, leb-true, leb-false, le-leb}
use mathlib.Core.List.Memᴰ
use mathlib.Core.List.{List, [], ◌∷◌, Memᴰ}
use Rattle.std.proofs.lemmas.Bool.{lt-leb}
use Rattle.integers.proofs.TestsLaws.{both}
use Rattle.integers.specs.Rises.{rises}
use Rattle.integers.specs.Keep.{keep}
use Rattle.integers.specs.Ascending.{ascending}
use Rattle.integers.proofs.AscendingLaws.{ascending-rises, ascending-once}
use Rattle.integers.proofs.CountsLaws.{times-mem}

-- the least number of a list from a place on
pub record Least (low m : ℕ) (l : List ℕ) : Type 0 where
  pub member : Memᴰ m l
  pub from : low ≤ m
  pub least : (x : ℕ) → Memᴰ x l → low ≤ x → m ≤ x

-- the members of rising numbers, and those from an earlier place on: all
rises-from : (n x : ℕ) (l : List ℕ) → rises n l ≡ true → Memᴰ x l → n ≤ x
unfolding rises
rises-from n x [] e m = absurd (Memᴰ.not-nil m)
rises-from n x (h ∷ t) e m =
    let b = both (leb n h) (rises (suc h) t) e in
    let low : n ≤ h = leb-true n h b.0 in
    ⊎_elim (λ q. omega arith) (λ k. let i : suc h ≤ x = rises-from (suc h) x t b.1 k in omega arith) (Memᴰ.cases_cons m)

keep_all : (low n : ℕ) (l : List ℕ) → low ≤ n → rises n l ≡ true → keep (leb low) l ≡ l
unfolding keep rises
keep_all low n [] h e = refl
keep_all low n (a ∷ l) h e =
    let b = both (leb n a) (rises (suc a) l) e in
    let k : n ≤ a = leb-true n a b.0 in
    rw (le-leb low a (omega arith)) (ap (λ r. a ∷ r) (keep_all low (suc a) l (omega arith) b.1))

rising-least : (low m n : ℕ) (l : List ℕ) → rises n l ≡ true → Least low m l → keep (leb low) l ≡ m ∷ keep (leb (suc m)) l
unfolding keep rises
rising-least low m n [] e s = absurd (Memᴰ.not-nil s.member)
rising-least low m n (h ∷ t) e s = go (leb low h) refl (both (leb n h) (rises (suc h) t) e).1 (rising-least low m (suc h) t)
  where
    later : h < low → Memᴰ m t
    later k = ⊎_elim (λ q. absurd (omega (arith, s.from))) (λ r. r) (Memᴰ.cases_cons s.member)

    here : low ≤ h → rises (suc h) t ≡ true → h ≡ m
    here k r = let i : m ≤ h = s.least h (Memᴰ.head refl) k in ⊎_elim (λ q. omega arith) (λ j. omega (arith, rises-from (suc h) m t r j)) (Memᴰ.cases_cons s.member)

    go : (b : Bool) → leb low h ≡ b → rises (suc h) t ≡ true → (rises (suc h) t ≡ true → Least low m t → keep (leb low) t ≡ m ∷ keep (leb (suc m)) t) → cond b (h ∷ keep (leb low) t) (keep (leb low) t) ≡ m ∷ cond (leb (suc m) h) (h ∷ keep (leb (suc m)) t) (keep (leb (suc m)) t)
    go true b r i =
        let k : low ≤ h = leb-true low h b in
        let q : h ≡ m = here k r in
        rw (lt-leb (suc m) h (omega arith), keep_all low (suc h) t (omega arith) r, keep_all (suc m) (suc h) t (omega arith) r, q)
    go false b r i =
        let k : h < low = leb-false low h b in
        rw (lt-leb (suc m) h (omega (arith, s.from))) (i r (record { member = later k; from = s.from; least = λ x j. s.least x (Memᴰ.tail j) }))

-- the least number from a place on comes first, and then the others
pub next-least : (low m : ℕ) (l : List ℕ) → Least low m l → keep (leb low) (ascending l) ≡ m ∷ keep (leb (suc m)) (ascending l)
next-least low m l s =
    rising-least low m 0 (ascending l) (ascending-rises l)
    (record {
      member = times-mem m (ascending l) (omega (arith, (ascending-once l).once m s.member));
      from = s.from;
      least = λ x k. s.least x ((ascending-once l).only x k);
    })

-- the scan starts with all, and ends where no number is left
pub all_from : (l : List ℕ) → keep (leb 0) (ascending l) ≡ ascending l
all_from l = keep_all 0 0 (ascending l) (omega arith) (ascending-rises l)

none_from : (low : ℕ) (l : List ℕ) → ((x : ℕ) → Memᴰ x l → x < low) → keep (leb low) l ≡ []
unfolding keep
none_from low [] h = refl
none_from low (a ∷ l) h = rw (lt-leb low a (h a (Memᴰ.head refl))) (none_from low l (λ x m. h x (Memᴰ.tail m)))

pub no-next : (low : ℕ) (l : List ℕ) → ((x : ℕ) → Memᴰ x l → x < low) → keep (leb low) (ascending l) ≡ []
no-next low l h = none_from low (ascending l) (λ x m. h x ((ascending-once l).only x m))
