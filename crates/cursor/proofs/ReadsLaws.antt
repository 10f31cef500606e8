-- Readings one after the other, by the shape of the form: what is read first goes on, and a form that isn't there ends it.
use Rattle.std.specs.Prelude.{◌≡◌, Bool, true, false, List, ℕ, ◌++◌, drop, Option, Some, None}
use Rattle.std.proofs.Common.{sym, ap, ◌∙◌, subst}
use Rattle.formats.specs.Format.{Res, got, bind, pick}
use Rattle.formats.specs.Combine.{strip, strip-both, seq_parse, pre_parse, post_parse, map_parse, only_parse}
use Rattle.cursor.specs.declared.Cursor.{Cursor}
use Rattle.cursor.specs.ReadsInner.{Found, Reads}

-- what is left to read
abbrev pub left : Cursor → List ℕ
left c = drop c.at c.text.now

-- the same reading by another name
pub reads-same : {A : Type 0} {f g : List ℕ → Res A} {old new : Cursor} {r : Option A} → ((s : List ℕ) → f s ≡ g s) → Reads f old new r → Reads g old new r
reads-same {A} {f} {g} {old} {new} {r} e h = record { text = h.text; found = subst (λ (x : Res A). Found x new r) (e (left old)) h.found }

-- ---- one after the other

module _ {A B : Type 0} {f : List ℕ → Res A} (g : A → List ℕ → Res B) {old new : Cursor} where
  pub reads-seq : {mid : Cursor} {a : A} {b : B} → Reads f old mid (Some a) → Reads (g a) mid new (Some b) → Reads (seq_parse f g) old new (Some (a, b))
  unfolding seq_parse
  reads-seq {mid} {a} {b} h t =
      record { text = t.text ∙ h.text; found = ap (λ (x : Res A). bind x (λ a r. bind (g a r) (λ b q. got (a, b) q))) h.found ∙ ap (λ (x : Res B). bind x (λ b q. got (a, b) q)) t.found }

  pub reads-seq-stop : Reads f old new None → Reads (seq_parse f g) old new None
  unfolding seq_parse
  reads-seq-stop h = record { text = h.text; found = ap (λ (x : Res A). bind x (λ a r. bind (g a r) (λ b q. got (a, b) q))) h.found }

  pub reads-seq-stop₂ : {mid : Cursor} {a : A} → Reads f old mid (Some a) → Reads (g a) mid new None → Reads (seq_parse f g) old new None
  unfolding seq_parse
  reads-seq-stop₂ {mid} {a} h t =
      record { text = t.text ∙ h.text; found = ap (λ (x : Res A). bind x (λ a r. bind (g a r) (λ b q. got (a, b) q))) h.found ∙ ap (λ (x : Res B). bind x (λ b q. got (a, b) q)) t.found }

-- a tag before
module _ {A : Type 0} (t : List ℕ) {old new : Cursor} where
  pub reads-pre : {f : List ℕ → Res A} {mid : Cursor} {r : Option A} → Reads (strip t) old mid (Some tt) → Reads f mid new r → Reads (pre_parse t f) old new r
  unfolding pre_parse
  reads-pre {f} {mid} {r} h k = record { text = k.text ∙ h.text; found = subst (λ (x : Res (Unit {0})). Found (bind x (λ u r. f r)) new r) (sym h.found) k.found }

-- a tag after
module _ {A : Type 0} {f : List ℕ → Res A} (t : A → List ℕ) {old new : Cursor} where
  pub reads-post : {mid : Cursor} {a : A} → Reads f old mid (Some a) → Reads (strip (t a)) mid new (Some tt) → Reads (post_parse f t) old new (Some a)
  unfolding post_parse
  reads-post {mid} {a} h k =
      record {
        text = k.text ∙ h.text;
        found = ap (λ (x : Res A). bind x (λ a r. bind (strip (t a) r) (λ u q. got a q))) h.found ∙ ap (λ (x : Res (Unit {0})). bind x (λ u q. got a q)) k.found;
      }

  pub reads-post-stop : Reads f old new None → Reads (post_parse f t) old new None
  unfolding post_parse
  reads-post-stop h = record { text = h.text; found = ap (λ (x : Res A). bind x (λ a r. bind (strip (t a) r) (λ u q. got a q))) h.found }

  pub reads-post-stop₂ : {mid : Cursor} {a : A} → Reads f old mid (Some a) → Reads (strip (t a)) mid new None → Reads (post_parse f t) old new None
  unfolding post_parse
  reads-post-stop₂ {mid} {a} h k =
      record {
        text = k.text ∙ h.text;
        found = ap (λ (x : Res A). bind x (λ a r. bind (strip (t a) r) (λ u q. got a q))) h.found ∙ ap (λ (x : Res (Unit {0})). bind x (λ u q. got a q)) k.found;
      }

-- a tag of two parts
pub reads-tags : (a b : List ℕ) {old mid new : Cursor} {r : Option (Unit {0})} → Reads (strip a) old mid (Some tt) → Reads (strip b) mid new r → Reads (strip (a ++ b)) old new r
reads-tags a b {old} {mid} {new} {r} h t =
    record {
      text = t.text ∙ h.text;
      found = subst (λ (x : Res (Unit {0})). Found x new r) (sym (strip-both a b (left old) ∙ ap (λ (x : Res (Unit {0})). bind x (λ u r. strip b r)) h.found)) t.found;
    }

-- ---- other contents, a test

module _ {A B : Type 0} (h : A → B) {f : List ℕ → Res A} {old new : Cursor} where
  pub reads-map : {a : A} → Reads f old new (Some a) → Reads (map_parse h f) old new (Some (h a))
  unfolding map_parse
  reads-map r = record { text = r.text; found = ap (λ (x : Res A). bind x (λ a q. got (h a) q)) r.found }

  pub reads-map-stop : Reads f old new None → Reads (map_parse h f) old new None
  unfolding map_parse
  reads-map-stop r = record { text = r.text; found = ap (λ (x : Res A). bind x (λ a q. got (h a) q)) r.found }

module _ {A : Type 0} (test : A → Bool) {f : List ℕ → Res A} {old new : Cursor} where
  -- a test that holds, one that doesn't, and one that isn't reached
  pub reads-only : {a : A} → Reads f old new (Some a) → test a ≡ true → Reads (only_parse test f) old new (Some a)
  unfolding only_parse
  reads-only {a} r e = record { text = r.text; found = ap (λ (x : Res A). bind x (λ a q. pick (test a) (got a q))) r.found ∙ ap (λ (b : Bool). pick b (got a (left new))) e }

  pub reads-fail : {a : A} → Reads f old new (Some a) → test a ≡ false → Reads (only_parse test f) old new None
  unfolding only_parse
  reads-fail {a} r e = record { text = r.text; found = ap (λ (x : Res A). bind x (λ a q. pick (test a) (got a q))) r.found ∙ ap (λ (b : Bool). pick b (got a (left new))) e }

  pub reads-only-stop : Reads f old new None → Reads (only_parse test f) old new None
  unfolding only_parse
  reads-only-stop r = record { text = r.text; found = ap (λ (x : Res A). bind x (λ a q. pick (test a) (got a q))) r.found }
