-- What `find`, `any` and `all` of a range or a slice answer, as the definitions say it: `search (rules, ranges)` gives what these laws take, with
-- `ranges` of `Rattle.std.proofs.iter.runs.Sources`.
use Rattle.std.specs.Prelude.{◌≡◌, refl, ℕ, zero, suc, ◌+◌, ◌<◌, ◌≤◌, List, [], Bool, true, false, not, Option, Some, None, MatchOption, MatchBool, slice_index}
use Rattle.std.proofs.Common.{sym, ap, ◌∙◌, ⊎_elim, arith, eq-or-lt_of_le}
use Rattle.std.proofs.Math.Option as maybe
use Rattle.integers.specs.First.{first, any_below}
use Rattle.integers.specs.FoundInner.{found_at}
use Rattle.integers.proofs.FirstLaws.{any-of}

module _ (test : ℕ → Bool) where
  -- the test of i is b. It is said where some list is read at i, since `ranges` is applied where a list is.
  abbrev pub Tests : Bool → ℕ → Type 0
  Tests b i = (xs : List ℕ) (x : ℕ) → slice_index xs i ≡ x → test i ≡ b

  -- the test names none of the numbers from a on, up to e
  abbrev pub NoneFrom : ℕ → ℕ → Type 0
  NoneFrom a e = (i : ℕ) → a ≤ i → i < e → Tests false i

  -- it names i, and none before it
  abbrev pub FirstFrom : ℕ → ℕ → ℕ → Type 0
  FirstFrom a e i = (a ≤ i) × (i < e) × Tests true i × NoneFrom a i

  -- it names some number below n, and none
  abbrev pub SomeBelow : ℕ → Type 0
  SomeBelow n = (i : ℕ) × (i < n) × Tests true i

  abbrev pub NoneBelow : ℕ → Type 0
  NoneBelow n = (i : ℕ) → i < n → Tests false i

  pub told : (b : Bool) (i : ℕ) → Tests b i → test i ≡ b
  told b i h = h [] (slice_index [] i) refl

  none_first : (a n : ℕ) → NoneFrom a (a + n) → first test a n ≡ maybe.none
  unfolding first
  none_first a zero h = refl
  none_first a (suc n) h = rw (told false a (h a (omega arith) (omega arith))) (none_first (suc a) n (λ i k l. h i (omega arith) (omega arith)))

  some_first : (a n i : ℕ) → FirstFrom a (a + n) i → first test a n ≡ maybe.some i
  unfolding first
  some_first a zero i h = absurd (omega (arith, h.0, h.1))
  some_first a (suc n) i h =
      ⊎_elim
      (λ e. let t : test a ≡ true = ap test e ∙ told true i h.2 in rw t (ap maybe.some e))
      (λ l. rw (told false a (h.3 a (omega arith) l)) (some_first (suc a) n i (l, omega (arith, h.1), h.2, λ j k m. h.3 j (omega arith) m)))
      (eq-or-lt_of_le h.0)

  pub first-is : (a n : ℕ) (found : Option ℕ) → MatchOption found (NoneFrom a (a + n)) (FirstFrom a (a + n)) → found_at found ≡ first test a n
  first-is a n None h = sym (none_first a n h)
  first-is a n (Some i) h = sym (some_first a n i h)

  none_below : (n : ℕ) → NoneBelow n → any_below test n ≡ false
  unfolding any_below
  none_below zero h = refl
  none_below (suc n) h = rw (none_below n (λ i k. h i (omega arith)), told false n (h n (omega arith)))

  pub any-is : (n : ℕ) (any : Bool) → MatchBool any (SomeBelow n) (NoneBelow n) → any ≡ any_below test n
  any-is n true h = sym (any-of test h.0 n h.1 (told true h.0 h.2))
  any-is n false h = sym (none_below n h)

  pub all-is : (n : ℕ) (all : Bool) → MatchBool all (NoneBelow n) (SomeBelow n) → all ≡ not (any_below test n)
  all-is n true h = ap not (sym (none_below n h))
  all-is n false h = ap not (sym (any-of test h.0 n h.1 (told true h.0 h.2)))
