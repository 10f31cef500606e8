-- Formats made of formats: a tag before, a tag after, one after the other, other contents for the same bytes, a test.
use Rattle.std.specs.Prelude.{◌≡◌, refl, Bool, true, false, ◌&&◌, List, ◌++◌, ℕ, ◌+◌, length, drop}
use Rattle.std.proofs.Common.{sym, ap, ◌∙◌, append_assoc, length-append, drop-drop}
use Rattle.std.proofs.Math.Seq.{drop-append_seam}
use Rattle.text.specs.Tag.{begins}
use Rattle.text.proofs.TagLaws.{begins-append, begins-split, begins-both}
use Rattle.formats.specs.Format.{Res, got, bad, Sound, Format, bind, pick}

-- ---- a tag

unfoldable pub strip : List ℕ → List ℕ → Res (Unit {0})
strip t s = pick (begins t s) (got tt (drop (length t) s))

pub strip-sound : (t s : List ℕ) → Sound (λ u. Unit {0}) (λ u. t) s (strip t s)
unfolding strip
strip-sound t s = go (begins t s) refl
  where
    go : (b : Bool) → begins t s ≡ b → Sound (λ u. Unit {0}) (λ u. t) s (pick {A = Unit {0}} b (got tt (drop (length t) s)))
    go false e = tt
    go true e = (begins-split t s e, tt)

pub strip-complete : (t rest : List ℕ) → strip t (t ++ rest) ≡ got tt rest
unfolding strip
strip-complete t rest = rw (begins-append t rest) (ap (got tt) (drop-append_seam t rest))

-- a tag of two parts is one after the other
pub strip-both : (a b s : List ℕ) → strip (a ++ b) s ≡ bind (strip a s) (λ u r. strip b r)
unfolding strip
strip-both a b s = rw (begins-both a b s, length-append a b) (go (begins a s))
  where
    go : (t : Bool) → pick {A = Unit {0}} (t && begins b (drop (length a) s)) (got tt (drop (length a + length b) s))
        ≡ bind (pick {A = Unit {0}} t (got tt (drop (length a) s))) (λ u r. pick (begins b r) (got tt (drop (length b) r)))
    go true = ap (λ (r : List ℕ). pick {A = Unit {0}} (begins b (drop (length a) s)) (got tt r)) (sym (drop-drop (length b) (length a) s))
    go false = refl

-- ---- a tag before

unfoldable pub pre_parse : {A : Type 0} → List ℕ → (List ℕ → Res A) → List ℕ → Res A
pre_parse t f s = bind (strip t s) (λ u r. f r)

module _ {A : Type 0} (t : List ℕ) (F : Format A) where
  abbrev pre_render : A → List ℕ
  pre_render a = t ++ F.render a

  pre-sound₂ : (s r : List ℕ) → s ≡ t ++ r → (x : Res A) → Sound F.Ok F.render r x → Sound F.Ok pre_render s x
  pre-sound₂ s r e bad h = tt
  pre-sound₂ s r e (got a q) h = (e ∙ ap (λ (l : List ℕ). t ++ l) h.0 ∙ sym (append_assoc t (F.render a) q), h.1)

  pre-sound₁ : (s : List ℕ) (x : Res (Unit {0})) → Sound (λ u. Unit {0}) (λ u. t) s x → Sound F.Ok pre_render s (bind x (λ u r. F.parse r))
  pre-sound₁ s bad h = tt
  pre-sound₁ s (got u r) h = pre-sound₂ s r h.0 (F.parse r) (F.sound r)

  pub pre-sound : (s : List ℕ) → Sound F.Ok pre_render s (pre_parse t F.parse s)
  unfolding pre_parse
  pre-sound s = pre-sound₁ s (strip t s) (strip-sound t s)

  pub pre-complete : (a : A) (rest : List ℕ) → F.Ok a → pre_parse t F.parse (pre_render a ++ rest) ≡ got a rest
  unfolding pre_parse
  pre-complete a rest ok = simp (append_assoc, strip-complete t (F.render a ++ rest), F.complete a rest ok)

  abbrev pub pre : Format A
  pre = record { Ok = F.Ok; render = λ a. t ++ F.render a; parse = pre_parse t F.parse; sound = pre-sound; complete = pre-complete }

-- ---- a tag after, which may hang on what stands before it

unfoldable pub post_parse : {A : Type 0} → (List ℕ → Res A) → (A → List ℕ) → List ℕ → Res A
post_parse f t s = bind (f s) (λ a r. bind (strip (t a) r) (λ u q. got a q))

module _ {A : Type 0} (F : Format A) (t : A → List ℕ) where
  abbrev post_render : A → List ℕ
  post_render a = F.render a ++ t a

  post-sound₂ : (s : List ℕ) (a : A) (r : List ℕ) → s ≡ F.render a ++ r → F.Ok a → (x : Res (Unit {0})) → Sound (λ u. Unit {0}) (λ u. t a) r x
      → Sound F.Ok post_render s (bind x (λ u q. got a q))
  post-sound₂ s a r e ok bad h = tt
  post-sound₂ s a r e ok (got u q) h = (e ∙ ap (λ (l : List ℕ). F.render a ++ l) h.0 ∙ sym (append_assoc (F.render a) (t a) q), ok)

  post-sound₁ : (s : List ℕ) (x : Res A) → Sound F.Ok F.render s x → Sound F.Ok post_render s (bind x (λ a r. bind (strip (t a) r) (λ u q. got a q)))
  post-sound₁ s bad h = tt
  post-sound₁ s (got a r) h = post-sound₂ s a r h.0 h.1 (strip (t a) r) (strip-sound (t a) r)

  pub post-sound : (s : List ℕ) → Sound F.Ok post_render s (post_parse F.parse t s)
  unfolding post_parse
  post-sound s = post-sound₁ s (F.parse s) (F.sound s)

  pub post-complete : (a : A) (rest : List ℕ) → F.Ok a → post_parse F.parse t (post_render a ++ rest) ≡ got a rest
  unfolding post_parse
  post-complete a rest ok = simp (append_assoc, F.complete a (t a ++ rest) ok, strip-complete (t a) rest)

  abbrev pub post_by : Format A
  post_by = record { Ok = F.Ok; render = λ a. F.render a ++ t a; parse = post_parse F.parse t; sound = post-sound; complete = post-complete }

abbrev pub post : {A : Type 0} → Format A → List ℕ → Format A
post F t = post_by F (λ a. t)

-- ---- one after the other; the second may hang on what the first says (a counter, a kind)

unfoldable pub seq_parse : {A B : Type 0} → (List ℕ → Res A) → (A → List ℕ → Res B) → List ℕ → Res (A × B)
seq_parse f g s = bind (f s) (λ a r. bind (g a r) (λ b q. got (a, b) q))

module _ {A B : Type 0} (F : Format A) (G : A → Format B) where
  abbrev seq_render : A × B → List ℕ
  seq_render p = F.render p.0 ++ (G p.0).render p.1

  abbrev SeqOk : A × B → Type 0
  SeqOk p = F.Ok p.0 × (G p.0).Ok p.1

  seq-sound₂ : (s : List ℕ) (a : A) (r : List ℕ) → s ≡ F.render a ++ r → F.Ok a → (x : Res B) → Sound (G a).Ok (G a).render r x
      → Sound SeqOk seq_render s (bind x (λ b q. got (a, b) q))
  seq-sound₂ s a r e ok bad h = tt
  seq-sound₂ s a r e ok (got b q) h =
      (e ∙ ap (λ (l : List ℕ). F.render a ++ l) h.0 ∙ sym (append_assoc (F.render a) ((G a).render b) q), (ok, h.1))

  seq-sound₁ : (s : List ℕ) (x : Res A) → Sound F.Ok F.render s x → Sound SeqOk seq_render s (bind x (λ a r. bind ((G a).parse r) (λ b q. got (a, b) q)))
  seq-sound₁ s bad h = tt
  seq-sound₁ s (got a r) h = seq-sound₂ s a r h.0 h.1 ((G a).parse r) ((G a).sound r)

  pub seq-sound : (s : List ℕ) → Sound SeqOk seq_render s (seq_parse F.parse (λ a. (G a).parse) s)
  unfolding seq_parse
  seq-sound s = seq-sound₁ s (F.parse s) (F.sound s)

  pub seq-complete : (p : A × B) (rest : List ℕ) → SeqOk p → seq_parse F.parse (λ a. (G a).parse) (seq_render p ++ rest) ≡ got p rest
  unfolding seq_parse
  seq-complete p rest ok = simp (append_assoc, F.complete p.0 ((G p.0).render p.1 ++ rest) ok.0, (G p.0).complete p.1 rest ok.1)

  abbrev pub seq_by : Format (A × B)
  seq_by = record { Ok = λ p. F.Ok p.0 × (G p.0).Ok p.1; render = λ p. F.render p.0 ++ (G p.0).render p.1; parse = seq_parse F.parse (λ a. (G a).parse); sound = seq-sound; complete = seq-complete }

abbrev pub seq : {A B : Type 0} → Format A → Format B → Format (A × B)
seq F G = seq_by F (λ a. G)

-- ---- the same bytes for other contents

-- f and g take valid contents to valid contents and undo each other there, and the bytes are the same
pub record Recast {A B : Type 0} (F : Format A) (Ok : B → Type 0) (render : B → List ℕ) (f : A → B) (g : B → A) : Type 0 where
  pub to_ok : (a : A) → F.Ok a → Ok (f a)
  pub from_ok : (b : B) → Ok b → F.Ok (g b)
  pub back : (a : A) → F.Ok a → g (f a) ≡ a
  pub forth : (b : B) → Ok b → f (g b) ≡ b
  pub same : (b : B) → Ok b → F.render (g b) ≡ render b

unfoldable pub map_parse : {A B : Type 0} → (A → B) → (List ℕ → Res A) → List ℕ → Res B
map_parse f p s = bind (p s) (λ a r. got (f a) r)

module _ {A B : Type 0} (F : Format A) (Ok : B → Type 0) (render : B → List ℕ) (f : A → B) (g : B → A) (fits : Recast F Ok render f g) where
  recast-sound₁ : (s : List ℕ) (x : Res A) → Sound F.Ok F.render s x → Sound Ok render s (bind x (λ a r. got (f a) r))
  recast-sound₁ s bad h = tt
  recast-sound₁ s (got a r) h =
      (h.0 ∙ ap (λ (x : A). F.render x ++ r) (sym (fits.back a h.1)) ∙ ap (λ (l : List ℕ). l ++ r) (fits.same (f a) (fits.to_ok a h.1)), fits.to_ok a h.1)

  pub recast-sound : (s : List ℕ) → Sound Ok render s (map_parse f F.parse s)
  unfolding map_parse
  recast-sound s = recast-sound₁ s (F.parse s) (F.sound s)

  pub recast-complete : (b : B) (rest : List ℕ) → Ok b → map_parse f F.parse (render b ++ rest) ≡ got b rest
  unfolding map_parse
  recast-complete b rest ok = rw (← fits.same b ok) (simp (F.complete (g b) rest (fits.from_ok b ok), fits.forth b ok))

  abbrev pub recast : Format B
  recast = record { Ok = Ok; render = render; parse = map_parse f F.parse; sound = recast-sound; complete = recast-complete }

-- ---- a test

unfoldable pub only_parse : {A : Type 0} → (A → Bool) → (List ℕ → Res A) → List ℕ → Res A
only_parse test f s = bind (f s) (λ a r. pick (test a) (got a r))

module _ {A : Type 0} (test : A → Bool) (F : Format A) where
  abbrev OnlyOk : A → Type 0
  OnlyOk a = F.Ok a × (test a ≡ true)

  only-sound₁ : (s : List ℕ) (x : Res A) → Sound F.Ok F.render s x → Sound OnlyOk F.render s (bind x (λ a r. pick (test a) (got a r)))
  only-sound₁ s bad h = tt
  only-sound₁ s (got a r) h = go (test a) refl
    where
      go : (b : Bool) → test a ≡ b → Sound OnlyOk F.render s (pick b (got a r))
      go false e = tt
      go true e = (h.0, (h.1, e))

  pub only-sound : (s : List ℕ) → Sound OnlyOk F.render s (only_parse test F.parse s)
  unfolding only_parse
  only-sound s = only-sound₁ s (F.parse s) (F.sound s)

  pub only-complete : (a : A) (rest : List ℕ) → OnlyOk a → only_parse test F.parse (F.render a ++ rest) ≡ got a rest
  unfolding only_parse
  only-complete a rest ok = simp (F.complete a rest ok.0, ok.1)

  abbrev pub only : Format A
  only = record { Ok = λ a. F.Ok a × (test a ≡ true); render = F.render; parse = only_parse test F.parse; sound = only-sound; complete = only-complete }
