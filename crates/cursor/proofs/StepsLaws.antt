-- A form of several parts that was read: each part was read, from where the one before it ended, since what a sound reading leaves is the end of the text.
-- By these what is said of a passage's form (`Reads`) is said of its parts, from mark to mark.
use Rattle.std.specs.Prelude.{◌≡◌, Bool, true, false, ℕ, ◌+◌, ◌≤◌, ◌<◌, length, drop, Some}
use Rattle.std.proofs.Math.Path.{refl}
use Rattle.std.proofs.Common.{sym, ap, ◌∙◌, subst, length-drop, length-append, drop-drop, arith}
use mathlib.Core.List.{List, ◌++◌}
use Rattle.std.proofs.Math.Seq.{drop-append_seam}
use Rattle.formats.specs.Format.{Res, got, bad, Sound, Format, bind, pick}
use Rattle.formats.specs.FormatLaws.{got-bad}
use Rattle.formats.specs.Combine.{strip, strip-sound, seq_parse, pre_parse, post_parse, only_parse}
use Rattle.formats.specs.Words.{word_at, words_parse, words-sound}
use Rattle.formats.proofs.MarksLaws.{Parsed, parsed}

-- ---- by the shape of the form

module _ {A B : Type 0} (f : List ℕ → Res A) (g : A → List ℕ → Res B) (s : List ℕ) {p : A × B} {r : List ℕ} where
  second : (a : A) (q : List ℕ) → f s ≡ got a q → (y : Res B) → g a q ≡ y → bind y (λ b t. got (a, b) t) ≡ got p r → (q : List ℕ) × ((f s ≡ got p.0 q) × (g p.0 q ≡ got p.1 r))
  second a q i bad j e = absurd (got-bad (sym e))
  second a q i (got b t) j e =
      let z : ◌≡◌ {A = A × B} (a, b) p = cc in
      let w : t ≡ r = cc in
      (q, (i ∙ ap (λ (x : A × B). got x.0 q) z, subst (λ (x : A × B). g x.0 q ≡ got x.1 r) z (j ∙ ap (got b) w)))

  pub seq-got : seq_parse f g s ≡ got p r → (q : List ℕ) × ((f s ≡ got p.0 q) × (g p.0 q ≡ got p.1 r))
  unfolding seq_parse
  seq-got e = first (f s) refl e
    where
      first : (x : Res A) → f s ≡ x → bind x (λ a q. bind (g a q) (λ b t. got (a, b) t)) ≡ got p r → (q : List ℕ) × ((f s ≡ got p.0 q) × (g p.0 q ≡ got p.1 r))
      first bad i e = absurd (got-bad (sym e))
      first (got a q) i e = second a q i (g a q) refl e

module _ {A : Type 0} (t : List ℕ) (f : List ℕ → Res A) (s : List ℕ) {a : A} {r : List ℕ} where
  pub pre-got : pre_parse t f s ≡ got a r → (q : List ℕ) × ((strip t s ≡ got tt q) × (f q ≡ got a r))
  unfolding pre_parse
  pre-got e = go (strip t s) refl e
    where
      go : (x : Res (Unit {0})) → strip t s ≡ x → bind x (λ u q. f q) ≡ got a r → (q : List ℕ) × ((strip t s ≡ got tt q) × (f q ≡ got a r))
      go bad i e = absurd (got-bad (sym e))
      go (got u q) i e = (q, (i, e))

module _ {A : Type 0} (f : List ℕ → Res A) (t : A → List ℕ) (s : List ℕ) {a : A} {r : List ℕ} where
  behind : (b : A) (q : List ℕ) → f s ≡ got b q → (y : Res (Unit {0})) → strip (t b) q ≡ y → bind y (λ u q. got b q) ≡ got a r → (q : List ℕ) × ((f s ≡ got a q) × (strip (t a) q ≡ got tt r))
  behind b q i bad j e = absurd (got-bad (sym e))
  behind b q i (got u k) j e =
      let z : b ≡ a = cc in
      let w : k ≡ r = cc in
      (q, (i ∙ ap (λ (x : A). got x q) z, subst (λ (x : A). strip (t x) q ≡ got tt r) z (j ∙ ap (got tt) w)))

  pub post-got : post_parse f t s ≡ got a r → (q : List ℕ) × ((f s ≡ got a q) × (strip (t a) q ≡ got tt r))
  unfolding post_parse
  post-got e = go (f s) refl e
    where
      go : (x : Res A) → f s ≡ x → bind x (λ b q. bind (strip (t b) q) (λ u q. got b q)) ≡ got a r → (q : List ℕ) × ((f s ≡ got a q) × (strip (t a) q ≡ got tt r))
      go bad i e = absurd (got-bad (sym e))
      go (got b q) i e = behind b q i (strip (t b) q) refl e

module _ {A : Type 0} (test : A → Bool) (f : List ℕ → Res A) (s : List ℕ) {a : A} {r : List ℕ} where
  tested : (b : A) (q : List ℕ) → f s ≡ got b q → (k : Bool) → test b ≡ k → pick k (got b q) ≡ got a r → (f s ≡ got a r) × (test a ≡ true)
  tested b q i false j e = absurd (got-bad (sym e))
  tested b q i true j e =
      let z : b ≡ a = cc in
      (i ∙ e, ap test (sym z) ∙ j)

  pub only-got : only_parse test f s ≡ got a r → (f s ≡ got a r) × (test a ≡ true)
  unfolding only_parse
  only-got e = go (f s) refl e
    where
      go : (x : Res A) → f s ≡ x → bind x (λ b q. pick (test b) (got b q)) ≡ got a r → (f s ≡ got a r) × (test a ≡ true)
      go bad i e = absurd (got-bad (sym e))
      go (got b q) i e = tested b q i (test b) refl e

-- ---- a part, from its place to where what is left begins

pub record Step {A : Type 0} (f : List ℕ → Res A) (s : List ℕ) (p : ℕ) (a : A) (r : List ℕ) : Type 0 where
  pub at : ℕ
  pub within : at ≤ length s
  pub rest : r ≡ drop at s
  pub parsed : Parsed f s (Some p) (Some at) a

module _ {A : Type 0} (Ok : A → Type 0) (render : A → List ℕ) (f : List ℕ → Res A) (s : List ℕ) {p : ℕ} {q r : List ℕ} {a : A} where
  sound-step : Sound Ok render q (f q) → p ≤ length s → q ≡ drop p s → f q ≡ got a r → Step f s p a r
  sound-step o h i e =
      let n = length (render a) in
      let k : (q ≡ render a ++ r) × Ok a = subst (Sound Ok render q) e o in
      let fits : p + n ≤ length s = omega (arith, length-drop p s, ap length i, ap length k.0, length-append (render a) r) in
      let end : r ≡ drop (p + n) s = sym (drop-append_seam (render a) r) ∙ ap (drop n) (sym k.0 ∙ i) ∙ drop-drop n p s in
      record { at = p + n; within = fits; rest = end; parsed = parsed f s p a (p + n) (ap f (sym i) ∙ e ∙ ap (got a) end) fits }

pub tag-step : (t s : List ℕ) {p : ℕ} {q r : List ℕ} → p ≤ length s → q ≡ drop p s → strip t q ≡ got tt r → Step (strip t) s p tt r
tag-step t s {q = q} h i e = sound-step (λ u. Unit {0}) (λ u. t) (strip t) s (strip-sound t q) h i e

pub word-step : (ws : List (List ℕ)) (s : List ℕ) {p : ℕ} {q r : List ℕ} {n : ℕ} → p ≤ length s → q ≡ drop p s → words_parse ws q ≡ got n r → Step (words_parse ws) s p n r
word-step ws s {q = q} h i e = sound-step (λ n. n < length ws) (word_at ws) (words_parse ws) s (words-sound ws q) h i e

-- of so many words
pub word-few : (ws : List (List ℕ)) (s : List ℕ) {n : ℕ} {r : List ℕ} → words_parse ws s ≡ got n r → n < length ws
word-few ws s e = (subst (Sound (λ n. n < length ws) (word_at ws) s) e (words-sound ws s)).1

pub form-step : {A : Type 0} (F : Format A) (s : List ℕ) {p : ℕ} {q r : List ℕ} {a : A} → p ≤ length s → q ≡ drop p s → F.parse q ≡ got a r → Step F.parse s p a r
form-step F s {q = q} h i e = sound-step F.Ok F.render F.parse s (F.sound q) h i e

-- the last part ends where the whole does
pub last-step : {A : Type 0} (f : List ℕ → Res A) (s : List ℕ) {p o : ℕ} {q : List ℕ} {a : A} → o ≤ length s → q ≡ drop p s → f q ≡ got a (drop o s) → Parsed f s (Some p) (Some o) a
last-step f s {p} {o} {a = a} h i e = parsed f s p a o (ap f (sym i) ∙ e) h
