-- What a refusal that did not come says of its test, and of what came later; and what holds of each that may come.
use Rattle.std.specs.Prelude.{◌≡◌, refl, Bool, true, false, cond, ℕ, ◌≤◌, leb}
use Rattle.std.proofs.Math.Option.{Option, none, some}
use Rattle.std.proofs.Common.{arith, leb-true}
use Rattle.refusals.specs.Refusals.{Refusal, refused, unless, unless_found, or_else, short}

-- a refusal is one
pub never : {item : ℕ} (number : ℕ) → refused number item ≡ none → ⊥
never number e = let z : ◌≡◌ {A = ℕ} 0 1 = cc in omega arith

-- ---- a refusal that did not come

pub not-refused : (test : Bool) (number : ℕ) (later : Option Refusal) → unless test number later ≡ none → (test ≡ true) × (later ≡ none)
not-refused true number later e = (refl, e)
not-refused false number later e = absurd (never number e)

pub not_found : (found : Option ℕ) (number : ℕ) (later : Option Refusal) → unless_found found number later ≡ none → (found ≡ none) × (later ≡ none)
not_found none number later e = (refl, e)
not_found (some i) number later e = absurd (never number e)

pub not_first : (first later : Option Refusal) → or_else first later ≡ none → first ≡ none
unfolding or_else
not_first none later e = refl
not_first (some r) later e = absurd (never r.number e)

pub not-later : (first later : Option Refusal) → or_else first later ≡ none → later ≡ none
unfolding or_else
not-later none later e = e
not-later (some r) later e = absurd (never r.number e)

pub not_short : (item answer lent : ℕ) → short item answer lent ≡ none → answer ≤ lent
not_short item answer lent e = go (leb answer lent) refl e
  where
    go : (b : Bool) → leb answer lent ≡ b → cond b none (refused 10 item) ≡ none → answer ≤ lent
    go true f e = leb-true answer lent f
    go false f e = absurd (never 10 e)

-- ---- what holds of the number and item of a refusal, if there is one

abbrev pub Each : (ℕ → ℕ → Type 0) → Option Refusal → Type 0
Each P none = Unit {0}
Each P (some r) = P r.number r.item

pub each-under : {P Q : ℕ → ℕ → Type 0} (o : Option Refusal) → ((number item : ℕ) → P number item → Q number item) → Each P o → Each Q o
each-under none f h = tt
each-under (some r) f h = f r.number r.item h

pub each-unless : (P : ℕ → ℕ → Type 0) (test : Bool) (number : ℕ) (later : Option Refusal) → P number 0 → (test ≡ true → Each P later) → Each P (unless test number later)
each-unless P true number later h k = k refl
each-unless P false number later h k = h

pub each-found : (P : ℕ → ℕ → Type 0) (found : Option ℕ) (number : ℕ) (later : Option Refusal) → ((i : ℕ) → found ≡ some i → P number i) → Each P later → Each P (unless_found found number later)
each-found P none number later h k = k
each-found P (some i) number later h k = h i refl

pub each-else : (P : ℕ → ℕ → Type 0) (first later : Option Refusal) → Each P first → (first ≡ none → Each P later) → Each P (or_else first later)
unfolding or_else
each-else P none later h k = k refl
each-else P (some r) later h k = h

pub each-short : (P : ℕ → ℕ → Type 0) (item answer lent : ℕ) → P 10 item → Each P (short item answer lent)
each-short P item answer lent h = go (leb answer lent)
  where
    go : (b : Bool) → Each P (cond b none (refused 10 item))
    go true = tt
    go false = h

-- ---- one after the other

pub else-none : (r : Option Refusal) → or_else r none ≡ r
unfolding or_else
else-none none = refl
else-none (some r) = refl

pub unless-else : (test : Bool) (number : ℕ) (first later : Option Refusal) → unless test number (or_else first later) ≡ or_else (unless test number first) later
unfolding or_else
unless-else true number first later = refl
unless-else false number first later = refl
