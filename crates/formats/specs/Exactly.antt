-- Exactly n bytes that pass a test, and the numbers of n digits.
use Rattle.std.specs.Prelude.{◌≡◌, Bool, List, ◌++◌, ℕ, ◌^◌, ◌≤◌, ◌<◌, take, drop}
use Rattle.std.proofs.Math.Path.{refl}
use Rattle.std.proofs.Common.{sym, subst, take-append-drop, length-take-le, arith, le-leb, leb-true}
use Rattle.std.proofs.Math.Bool.{true, false}
use Rattle.std.proofs.Math.ListN.{length, length-append}
use Rattle.std.proofs.Math.Seq.{take_at, drop_at}
use Rattle.std.proofs.Math.Dec.{leb}
use Rattle.text.specs.Decimal.{digits, value_of, fixed}
use Rattle.text.proofs.DecimalLaws.{length-fixed, digits-fixed, value-fixed, fixed-value, value-lt}
use Rattle.formats.specs.Format.{Res, got, Sound, Format, pick}
use Rattle.formats.specs.Combine.{map_parse, Recast, recast}

unfoldable pub exactly_parse : ℕ → (List ℕ → Bool) → List ℕ → Res (List ℕ)
exactly_parse n test s = pick (leb n (length s)) (pick (test (take n s)) (got (take n s) (drop n s)))

module _ (n : ℕ) (test : List ℕ → Bool) where
  abbrev ExactlyOk : List ℕ → Type 0
  ExactlyOk l = (length l ≡ n) × (test l ≡ true)

  pub exactly-sound : (s : List ℕ) → Sound ExactlyOk (λ l. l) s (exactly_parse n test s)
  unfolding exactly_parse
  exactly-sound s = go (leb n (length s)) refl (test (take n s)) refl
    where
      go : (b : Bool) → leb n (length s) ≡ b → (t : Bool) → test (take n s) ≡ t → Sound ExactlyOk (λ l. l) s (pick b (pick t (got (take n s) (drop n s))))
      go false e t f = tt
      go true e false f = tt
      go true e true f = (sym (take-append-drop n s), (length-take-le n s (leb-true n (length s) e), f))

  pub exactly-complete : (l rest : List ℕ) → ExactlyOk l → exactly_parse n test (l ++ rest) ≡ got l rest
  unfolding exactly_parse
  exactly-complete l rest ok =
      let h : n ≤ length (l ++ rest) = omega (arith, length-append l rest, ok.0) in
      rw (le-leb n (length (l ++ rest)) h, take_at l rest n ok.0, drop_at l rest n ok.0, ok.1)

  abbrev pub exactly : Format (List ℕ)
  exactly = record { Ok = λ l. (length l ≡ n) × (test l ≡ true); render = λ l. l; parse = exactly_parse n test; sound = exactly-sound; complete = exactly-complete }

-- ---- a number of n digits

pub fixed-recast : (n : ℕ) → Recast (exactly n digits) (λ v. v < 10 ^ n) (fixed n) value_of (fixed n)
fixed-recast n =
    record {
      to_ok = λ l ok. subst (λ (k : ℕ). value_of l < 10 ^ k) ok.0 (value-lt l ok.1);
      from_ok = λ v h. (length-fixed n v, digits-fixed n v);
      back = λ l ok. subst (λ (k : ℕ). fixed k (value_of l) ≡ l) ok.0 (fixed-value l ok.1);
      forth = λ v h. value-fixed n v h;
      same = λ v h. refl;
    }

unfoldable pub fixed_parse : ℕ → List ℕ → Res ℕ
fixed_parse n = map_parse value_of (exactly_parse n digits)

abbrev pub fixed_digits : ℕ → Format ℕ
fixed_digits n = recast (exactly n digits) (λ v. v < 10 ^ n) (fixed n) value_of (fixed n) (fixed-recast n)
