-- Exactly n bytes at a place: they are there and pass the test, or fail it, or are too few.
use Rattle.std.specs.Prelude.{◌≡◌, refl, Bool, true, false, List, ℕ, ◌+◌, ◌≤◌, ◌<◌, length, leb, take, drop, Some, None}
use Rattle.std.proofs.Common.{ap, drop-drop, length-drop, arith, le-leb}
use Rattle.std.proofs.lemmas.Bool.{lt-leb}
use Rattle.formats.specs.Format.{Res, got, bad, pick}
use Rattle.formats.specs.Exactly.{exactly_parse}
use Rattle.formats.specs.PlaceInner.{Parsed}

module _ (n : ℕ) (test : List ℕ → Bool) (s : List ℕ) (p : ℕ) where
  pub exactly-there : p + n ≤ length s → test (take n (drop p s)) ≡ true → Parsed (exactly_parse n test) s p (take n (drop p s)) (Some (p + n))
  unfolding exactly_parse
  exactly-there h e =
      let l : n ≤ length (drop p s) = omega (arith, length-drop p s) in
      (rw (le-leb n (length (drop p s)) l, e) (ap (got (take n (drop p s))) (drop-drop n p s)), h)

  pub exactly-none : test (take n (drop p s)) ≡ false → Parsed (exactly_parse n test) s p (take n (drop p s)) None
  unfolding exactly_parse
  exactly-none e = rw e (go (leb n (length (drop p s))))
    where
      go : (b : Bool) → ◌≡◌ {A = Res (List ℕ)} (pick b bad) bad
      go true = refl
      go false = refl

  pub exactly-short : p ≤ length s → length s < p + n → Parsed (exactly_parse n test) s p (take n (drop p s)) None
  unfolding exactly_parse
  exactly-short w h =
      let l : length (drop p s) < n = omega (arith, length-drop p s) in
      rw (lt-leb n (length (drop p s)) l)
