-- A scan of the days from A - 1 down meets the eligible ones latest first, and may stop at the Y-th.
use Rattle.std.specs.Prelude.{◌≡◌, refl, Bool, true, false, List, [], ◌∷◌, ◌++◌, ltb, ℤ, length, drop}
use Rattle.std.proofs.Common.{sym, ◌∙◌, append-nil, length-take, take-append-drop, take_all, take_at, take-suc, lt-ltb, le-ltb, ltb-true, ltb-false}
use Rattle.std.proofs.Math.Path.{ap}
use Prim.Native.Nat.{ℕ, zero, suc, ◌+◌, ◌-◌, ◌≤◌, ◌<◌, min}
use native.Mathlib.Omega.{arith}
use Rattle.std.proofs.Math.ListN.{take, get_or}
use Rattle.integers.specs.Keep.{keep}
use Rattle.integers.proofs.KeepLaws.{keep_append}
use Rattle.book.specs.declared.Engagement.{Engagement}
use Rattle.book.specs.Book.{Book}
use Rattle.volumes.specs.Ranking.{ranked}
use Rattle.volumes.proofs.RankingLaws.{insert_last, ranked-next}
use Rattle.volumes.specs.Baseline.{before, eligible_days, y_of, latest}

-- the days that pass a test among a - 1 down to d
unfoldable pub scanned : (ℕ → Bool) → ℕ → ℕ → List ℕ
scanned test a d = keep test (take (a - d) (before a))

pub length_before : (a : ℕ) → length (before a) ≡ a
unfolding before
length_before zero = refl
length_before (suc a) = ap suc (length_before a)

get_d-before : (a j z : ℕ) → j < a → get_or (before a) j z ≡ a - suc j
unfolding before
get_d-before zero j z h = absurd (omega arith)
get_d-before (suc a) zero z h = omega arith
get_d-before (suc a) (suc j) z h = let e = get_d-before a j z (omega arith) in omega (arith, e)

module _ (test : ℕ → Bool) (a : ℕ) where
  -- nothing is scanned yet
  pub scanned-none : scanned test a a ≡ []
  unfolding scanned keep
  scanned-none = let e : a - a ≡ 0 = omega arith in rw e

  -- the next day, d, after those from a - 1 down to f = d + 1
  scanned-next : (d f : ℕ) → f ≡ d + 1 → d < a → scanned test a d ≡ scanned test a f ++ keep test (d ∷ [])
  unfolding scanned
  scanned-next d f e h =
      let n : a - d ≡ suc (a - f) = omega arith in
      let k : get_or (before a) (a - f) 0 ≡ d = get_d-before a (a - f) 0 (omega arith) ∙ omega arith in
      rw n (ap (keep test) (take-suc (before a) (a - f) 0 (rw length_before (omega arith)) ∙ ap (λ m. take (a - f) (before a) ++ (m ∷ [])) k) ∙ keep_append test (take (a - f) (before a)) (d ∷ []))

  pub scanned-yes : (d f : ℕ) → f ≡ d + 1 → d < a → test d ≡ true → scanned test a d ≡ scanned test a f ++ (d ∷ [])
  unfolding keep
  scanned-yes d f e h t = scanned-next d f e h ∙ rw t

  pub scanned-no : (d f : ℕ) → f ≡ d + 1 → d < a → test d ≡ false → scanned test a d ≡ scanned test a f
  unfolding keep
  scanned-no d f e h t = scanned-next d f e h ∙ rw t (append-nil (scanned test a f))

  -- all are scanned
  pub scanned-all : scanned test a 0 ≡ keep test (before a)
  unfolding scanned
  scanned-all = ap (keep test) (take_all (a - 0) (before a) (rw length_before (omega arith)))

  -- what is scanned comes first
  scanned-first : (d : ℕ) → keep test (before a) ≡ scanned test a d ++ keep test (drop (a - d) (before a))
  unfolding scanned
  scanned-first d = ap (keep test) (sym (take-append-drop (a - d) (before a))) ∙ keep_append test (take (a - d) (before a)) (drop (a - d) (before a))

  -- so a scan that has found y days has the y latest, and one that ends with no more has all there are
  pub scanned-full : (d y : ℕ) → length (scanned test a d) ≡ y → take y (keep test (before a)) ≡ scanned test a d
  scanned-full d y e = ap (take y) (scanned-first d) ∙ take_at (scanned test a d) (keep test (drop (a - d) (before a))) y e

  pub scanned-few : (y : ℕ) → length (scanned test a 0) ≤ y → take y (keep test (before a)) ≡ scanned test a 0
  scanned-few y h = ap (take y) (sym scanned-all) ∙ take_all y (scanned test a 0) h

-- the ranking of what is scanned: one more day goes behind its equals
pub ranked-yes : (test : ℕ → Bool) (key : ℕ → ℤ) (a d f : ℕ) → f ≡ d + 1 → d < a → test d ≡ true → ranked key (scanned test a d) ≡ insert_last key d (ranked key (scanned test a f))
ranked-yes test key a d f e h t = ap (ranked key) (scanned-yes test a d f e h t) ∙ ranked-next key (scanned test a f) d

-- "fewer than Y eligible days" are fewer than Y latest ones
pub few-latest : (book : Book) (e : Engagement) → ltb (length (eligible_days book e)) (y_of book e) ≡ ltb (length (latest book e)) (y_of book e)
unfolding latest
few-latest book e = rw length-take (few-min (length (eligible_days book e)) (y_of book e))
  where
    few-min : (n y : ℕ) → ltb n y ≡ ltb (min y n) y
    few-min n y = go (ltb n y) refl
      where
        go : (t : Bool) → ltb n y ≡ t → t ≡ ltb (min y n) y
        go true h = sym (lt-ltb (min y n) y (omega (arith, ltb-true n y h)))
        go false h = sym (le-ltb (min y n) y (omega (arith, ltb-false n y h)))
