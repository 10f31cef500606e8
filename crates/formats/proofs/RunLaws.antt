-- Laws about a reading from a place that may be missing to another, by the rules of the formats: what straight-line code does that keeps a mark.
-- They stand for whoever reads so, under MarksLaws; the reader itself goes by `Reads` of `cursor`, and none of what the code does needs them.
use Rattle.std.proofs.Math.Path.{◌≡◌, refl, ap}
use Rattle.std.proofs.Common.{sym, ◌∙◌}
use Rattle.std.specs.Prelude.{Bool, true, false, List, ◌++◌, ℕ}
use Rattle.formats.specs.Format.{Res, got, bad, bind, pick, ends}
use Rattle.formats.specs.FormatLaws.{ends-got, ends-bad}
use Rattle.formats.proofs.BindLaws.{bind_assoc}
use Rattle.formats.specs.Combine.{strip, strip-both, seq_parse, pre_parse, post_parse, map_parse, only_parse}

-- f, read at x, ends at y with the value a; where nothing stands at x, or f isn't there, y is missing
pub record Run {A : Type 0} (f : List ℕ → Res A) (x y : Res (Unit {0})) (a : A) : Type 0 where
  pub run : bind x (λ u q. f q) ≡ bind y (λ u q. got a q)

-- a run whose value the code doesn't hold
pub record Ran {A : Type 0} (f : List ℕ → Res A) (x y : Res (Unit {0})) : Type 0 where
  pub value : A
  pub ran : Run f x y value

-- what goes on from a run
pub onward : {A B : Type 0} {f : List ℕ → Res A} {x y : Res (Unit {0})} {a : A} (k : A → List ℕ → Res B) → Run f x y a
    → bind x (λ u q. bind (f q) k) ≡ bind y (λ u q. k a q)
onward {f = f} {x} {y} {a} k r = sym (bind_assoc x (λ u q. f q) k) ∙ ap (λ z. bind z k) r.run ∙ bind_assoc y (λ u q. got a q) k

-- ---- by the shape of the format

module _ {A B : Type 0} {f : List ℕ → Res A} (g : A → List ℕ → Res B) {x y z : Res (Unit {0})} {a : A} {b : B} where
  pub run-seq : Run f x y a → Run (g a) y z b → Run (seq_parse f g) x z (a, b)
  unfolding seq_parse
  run-seq r t = record { run = onward (λ a q. bind (g a q) (λ b q. got (a, b) q)) r ∙ onward (λ b q. got (a, b) q) t }

module _ {A B : Type 0} (h : A → B) {f : List ℕ → Res A} {x y : Res (Unit {0})} {a : A} where
  pub run-map : Run f x y a → Run (map_parse h f) x y (h a)
  unfolding map_parse
  run-map r = record { run = onward (λ a q. got (h a) q) r }

module _ {A : Type 0} {f : List ℕ → Res A} (t : List ℕ) {x y z : Res (Unit {0})} {a : A} where
  pub run-pre : Run (strip t) x y tt → Run f y z a → Run (pre_parse t f) x z a
  unfolding pre_parse
  run-pre r k = record { run = onward (λ u q. f q) r ∙ k.run }

-- a tag of two parts
pub run-tags : (a b : List ℕ) {x y z : Res (Unit {0})} → Run (strip a) x y tt → Run (strip b) y z tt → Run (strip (a ++ b)) x z tt
run-tags a b {x} r t = record { run = both x ∙ onward (λ u q. strip b q) r ∙ t.run }
  where
    both : (x : Res (Unit {0})) → bind x (λ u q. strip (a ++ b) q) ≡ bind x (λ u q. bind (strip a q) (λ u r. strip b r))
    both bad = refl
    both (got u q) = strip-both a b q

module _ {A : Type 0} {f : List ℕ → Res A} (t : A → List ℕ) {x y z : Res (Unit {0})} {a : A} where
  pub run-post : Run f x y a → Run (strip (t a)) y z tt → Run (post_parse f t) x z a
  unfolding post_parse
  run-post r k = record { run = onward (λ a q. bind (strip (t a) q) (λ u q. got a q)) r ∙ onward (λ u q. got a q) k }

module _ {A : Type 0} {f : List ℕ → Res A} (test : A → Bool) {x y : Res (Unit {0})} {a : A} where
  -- a test that holds, and one that doesn't
  pub run_only : Run f x y a → test a ≡ true → Run (only_parse test f) x y a
  unfolding only_parse
  run_only r e = record { run = onward (λ a q. pick (test a) (got a q)) r ∙ ap (λ (t : Bool). bind y (λ u q. pick t (got a q))) e }

  pub run-fail : Run f x y a → test a ≡ false → Run (only_parse test f) x bad a
  unfolding only_parse
  run-fail r e = record { run = onward (λ a q. pick (test a) (got a q)) r ∙ ap (λ (t : Bool). bind y (λ u q. pick t (got a q))) e ∙ none y }
    where
      none : (y : Res (Unit {0})) → ◌≡◌ {A = Res A} (bind y (λ u q. bad)) bad
      none bad = refl
      none (got u q) = refl

module _ {A : Type 0} {f : List ℕ → Res A} (test : A → Bool) {x : Res (Unit {0})} {a : A} where
  -- a test that isn't reached
  pub run_none : Run f x bad a → Run (only_parse test f) x bad a
  unfolding only_parse
  run_none r = record { run = onward (λ a q. pick (test a) (got a q)) r }

-- a run of which only the end is known
pub ran-of : {A : Type 0} (f : List ℕ → Res A) (none : A) (s : List ℕ) (y : Res (Unit {0})) → ends (f s) ≡ y → Ran f (got tt s) y
ran-of f none s bad e = record { value = none; ran = record { run = ends-bad (f s) e } }
ran-of f none s (got u q) e = let g = ends-got (f s) q e in record { value = g.0; ran = record { run = g.1 } }
