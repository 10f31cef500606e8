-- What holds of every format: writing and reading undo each other, bytes that are refused are of no contents, and bytes are of one contents only.
use Rattle.std.specs.Prelude.{◌≡◌, refl, ℕ}
use Rattle.std.proofs.Common.{sym, ap, ◌∙◌, arith}
use Rattle.std.proofs.Math.Path.{subst}
use mathlib.Core.List.{List, [], ◌∷◌, ◌++◌, append-nil}
use Rattle.formats.specs.Format.{Res, got, bad, Sound, Format, whole, read_all, ends}

-- a reading found nothing, or something else
pub got-bad : {A : Type 0} {a : A} {r : List ℕ} → got a r ≡ bad → ⊥
got-bad e = let z : ◌≡◌ {A = ℕ} 0 1 = cc in omega arith

module _ {A : Type 0} (F : Format A) where
  pub sound-of : (s : List ℕ) (a : A) (rest : List ℕ) → F.parse s ≡ got a rest → (s ≡ F.render a ++ rest) × F.Ok a
  sound-of s a rest e = subst (λ (r : Res A). Sound F.Ok F.render s r) e (F.sound s)

  -- what is written is read
  pub there_and_back : (a : A) → F.Ok a → read_all F (F.render a) ≡ got a []
  unfolding read_all
  there_and_back a ok = rw (← append-nil (F.render a)) (rw (F.complete a [] ok))

  -- what is read, written, gives the same bytes
  pub back-and-there : (s : List ℕ) (a : A) (r : List ℕ) → read_all F s ≡ got a r → (s ≡ F.render a) × F.Ok a
  unfolding read_all
  back-and-there s a r e = go (F.parse s) (F.sound s) e
    where
      go : (x : Res A) → Sound F.Ok F.render s x → whole x ≡ got a r → (s ≡ F.render a) × F.Ok a
      go bad h e = absurd (got-bad (sym e))
      go (got b (y ∷ q)) h e = absurd (got-bad (sym e))
      go (got b []) h e = let z : b ≡ a = cc in subst (λ (k : A). (s ≡ F.render k) × F.Ok k) z (h.0 ∙ append-nil (F.render b), h.1)

  -- what is refused is the rendering of no contents
  pub refused : (s : List ℕ) → read_all F s ≡ bad → (a : A) → F.Ok a → s ≡ F.render a → ⊥
  refused s e a ok f = got-bad (sym (there_and_back a ok) ∙ sym (ap (read_all F) f) ∙ e)

  -- two different contents never have the same bytes
  pub one-contents : (a b : A) → F.Ok a → F.Ok b → F.render a ≡ F.render b → a ≡ b
  one-contents a b p q e =
      let f : got a [] ≡ got b [] = sym (there_and_back a p) ∙ ap (read_all F) e ∙ there_and_back b q in
      cc

-- ---- readings one after the other

pub ends-got : {A : Type 0} (x : Res A) (r : List ℕ) → ends x ≡ got tt r → (a : A) × (x ≡ got a r)
ends-got bad r e = absurd (got-bad (sym e))
ends-got (got a q) r e = (a, (let z : q ≡ r = cc in ap (got a) z))

pub ends-bad : {A : Type 0} (x : Res A) → ends x ≡ bad → x ≡ bad
ends-bad bad e = refl
ends-bad (got a q) e = absurd (got-bad e)
