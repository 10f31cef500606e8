-- So many items, one after the other, each under a state that those before it leave (the last position, so that they rise).
use Rattle.std.specs.Prelude.{◌≡◌, length}
use Rattle.std.proofs.Math.Path.{refl, sym, ap}
use Rattle.std.proofs.Common.{◌∙◌}
use mathlib.Core.List.{List, [], ◌∷◌, ◌++◌, append_assoc, flat_map}
use Prim.Native.Nat.{ℕ, zero, suc}
use native.Mathlib.Omega.{arith}
use Rattle.formats.specs.Format.{Res, got, bad, Sound, Format, bind}

-- n readings of f, each under the state that those before it leave
module _ {A S : Type 0} (f : S → List ℕ → Res A) (next : S → A → S) where
  unfoldable pub repeat_parse : ℕ → S → List ℕ → Res (List A)
  repeat_parse zero st s = got [] s
  repeat_parse (suc n) st s = bind (f st s) (λ a r. bind (repeat_parse n (next st a) r) (λ xs q. got (a ∷ xs) q))

module _ {A S : Type 0} (F : S → Format A) (next : S → A → S) where
  abbrev pub items_parse : ℕ → S → List ℕ → Res (List A)
  items_parse n st s = repeat_parse (λ st. (F st).parse) next n st s

  unfoldable pub items_render : S → List A → List ℕ
  items_render st [] = []
  items_render st (a ∷ xs) = (F st).render a ++ items_render (next st a) xs

  unfoldable pub ItemsOk : S → List A → Type 0
  ItemsOk st [] = Unit {0}
  ItemsOk st (a ∷ xs) = (F st).Ok a × ItemsOk (next st a) xs

  abbrev CountOk : ℕ → S → List A → Type 0
  CountOk n st xs = (length xs ≡ n) × ItemsOk st xs

  items-sound₂ : (n : ℕ) (st : S) (s : List ℕ) (a : A) (r : List ℕ) → s ≡ (F st).render a ++ r → (F st).Ok a → (x : Res (List A))
      → Sound (CountOk n (next st a)) (items_render (next st a)) r x → Sound (CountOk (suc n) st) (items_render st) s (bind x (λ xs q. got (a ∷ xs) q))
  unfolding items_render ItemsOk
  items-sound₂ n st s a r e ok bad h = tt
  items-sound₂ n st s a r e ok (got xs q) h = (
    e ∙ ap (λ (l : List ℕ). (F st).render a ++ l) h.0 ∙ sym (append_assoc ((F st).render a) (items_render (next st a) xs) q),
    (ap suc h.1.0, (ok, h.1.1)),
  )

  items-sound₁ : (n : ℕ) (st : S) (s : List ℕ) (rec : (t : S) (r : List ℕ) → Sound (CountOk n t) (items_render t) r (items_parse n t r)) (x : Res A)
      → Sound (F st).Ok (F st).render s x
      → Sound (CountOk (suc n) st) (items_render st) s (bind x (λ a r. bind (items_parse n (next st a) r) (λ xs q. got (a ∷ xs) q)))
  items-sound₁ n st s rec bad h = tt
  items-sound₁ n st s rec (got a r) h = items-sound₂ n st s a r h.0 h.1 (items_parse n (next st a) r) (rec (next st a) r)

  pub items-sound : (n : ℕ) (st : S) (s : List ℕ) → Sound (CountOk n st) (items_render st) s (items_parse n st s)
  unfolding repeat_parse items_render ItemsOk
  items-sound zero st s = (refl, (refl, tt))
  items-sound (suc n) st s = items-sound₁ n st s (λ t r. items-sound n t r) ((F st).parse s) ((F st).sound s)

  pub items-complete : (xs : List A) (n : ℕ) (st : S) (rest : List ℕ) → CountOk n st xs → items_parse n st (items_render st xs ++ rest) ≡ got xs rest
  unfolding repeat_parse items_render ItemsOk
  items-complete [] zero st rest ok = refl
  items-complete [] (suc n) st rest ok = absurd (omega arith)
  items-complete (a ∷ xs) zero st rest ok = absurd (omega arith)
  items-complete (a ∷ xs) (suc n) st rest ok =
      simp (append_assoc, (F st).complete a (items_render (next st a) xs ++ rest) ok.1.0, items-complete xs n (next st a) rest (omega arith, ok.1.1))

  abbrev pub items : ℕ → S → Format (List A)
  items n st = record { Ok = CountOk n st; render = items_render st; parse = items_parse n st; sound = items-sound n st; complete = λ xs rest ok. items-complete xs n st rest ok }

-- items whose bytes don't hang on the state
pub items-bytes : {A S : Type 0} (F : S → Format A) (next : S → A → S) (bytes : A → List ℕ) → ((st : S) (a : A) → (F st).render a ≡ bytes a)
    → (st : S) (l : List A) → items_render F next st l ≡ flat_map bytes l
unfolding items_render flat_map
items-bytes F next bytes h st [] = refl
items-bytes F next bytes h st (a ∷ l) = rw (h st a) (ap (λ (r : List ℕ). bytes a ++ r) (items-bytes F next bytes h (next st a) l))

-- ---- items before those that are still to be read

abbrev pub onto : {A : Type 0} → List A → Res (List A) → Res (List A)
onto done bad = bad
onto done (got l r) = got (done ++ l) r

pub onto-more : {A : Type 0} (done : List A) (a : A) (x : Res (List A)) → onto done (bind x (λ xs q. got (a ∷ xs) q)) ≡ onto (done ++ (a ∷ [])) x
onto-more done a bad = refl
onto-more done a (got l r) = ap (λ (k : List _). got k r) (sym (append_assoc done (a ∷ []) l))

pub onto-none : {A : Type 0} (x : Res (List A)) → x ≡ onto [] x
onto-none bad = refl
onto-none (got l r) = refl
