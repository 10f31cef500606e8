-- A word of bytes that pass a test, of `least` to `most` bytes, and the byte that ends it.
use Rattle.std.specs.Prelude.{◌≡◌, Bool, cond, ◌&&◌, ◌||◌, ℕ, ◌≤◌, length, eqb}
use Rattle.std.proofs.Math.Path.{refl, sym, ap}
use Rattle.std.proofs.Common.{◌∙◌}
use Rattle.std.proofs.Math.Bool.{true, false}
use mathlib.Core.List.{List, [], ◌∷◌, ◌++◌, append_assoc}
use Rattle.std.proofs.Math.ListN.{drop}
use Rattle.std.proofs.Math.Seq.{drop-append_seam}
use Rattle.std.proofs.Math.Dec.{leb}
use borrow.Author.Tests.{le-leb, leb-true}
use Rattle.text.specs.Decimal.{digit}
use Rattle.text.proofs.DecimalLaws.{true-false}
use Rattle.formats.specs.Format.{Res, got, bad, Sound, Format, bind, pick}
use Rattle.formats.specs.Combine.{strip, strip-sound, strip-complete}

-- the hyphen, 0-9, A-Z, a-z
abbrev pub name_byte : ℕ → Bool
name_byte x = eqb x 45 || (digit x || ((leb 65 x && leb x 90) || (leb 97 x && leb x 122)))

-- all bytes pass
unfoldable pub each : (ℕ → Bool) → List ℕ → Bool
each test [] = true
each test (x ∷ l) = test x && each test l

-- the bytes before the first that doesn't pass
unfoldable pub span : (ℕ → Bool) → List ℕ → List ℕ
span test [] = []
span test (x ∷ s) = cond (test x) (x ∷ span test s) []

span-each : (test : ℕ → Bool) (s : List ℕ) → each test (span test s) ≡ true
unfolding each span
span-each test [] = refl
span-each test (x ∷ s) = go (test x) refl (span-each test s)
  where
    go : (b : Bool) → test x ≡ b → each test (span test s) ≡ true → each test (cond b (x ∷ span test s) []) ≡ true
    go true e r = rw e r
    go false e r = refl

pub span-split : (test : ℕ → Bool) (s : List ℕ) → s ≡ span test s ++ drop (length (span test s)) s
unfolding span
span-split test [] = refl
span-split test (x ∷ s) = go (test x) (span-split test s)
  where
    go : (b : Bool) → s ≡ span test s ++ drop (length (span test s)) s → x ∷ s ≡ cond b (x ∷ span test s) [] ++ drop (length (cond b (x ∷ span test s) [])) (x ∷ s)
    go true r = ap (λ (l : List ℕ). x ∷ l) r
    go false r = refl

span-is : (test : ℕ → Bool) (l : List ℕ) (y : ℕ) (rest : List ℕ) → each test l ≡ true → test y ≡ false → span test (l ++ y ∷ rest) ≡ l
unfolding each span
span-is test [] y rest e f = rw f
span-is test (x ∷ l) y rest e f = go (test x) e (span-is test l y rest)
  where
    go : (b : Bool) → (b && each test l) ≡ true → (each test l ≡ true → test y ≡ false → span test (l ++ y ∷ rest) ≡ l) → cond b (x ∷ span test (l ++ y ∷ rest)) [] ≡ x ∷ l
    go true e r = ap (λ (k : List ℕ). x ∷ k) (r e f)
    go false e r = absurd (true-false (sym e))

module _ (test : ℕ → Bool) (least most stop : ℕ) where
  -- of a length in range, and ended by the stop byte
  abbrev name_of : List ℕ → List ℕ → Res (List ℕ)
  name_of l r = pick (leb least (length l)) (pick (leb (length l) most) (bind (strip (stop ∷ []) r) (λ u q. got l q)))

  unfoldable pub name_parse : List ℕ → Res (List ℕ)
  name_parse s = name_of (span test s) (drop (length (span test s)) s)

  -- what a name is
  pub record Name (l : List ℕ) : Type 0 where
    pub passes : each test l ≡ true
    pub long : least ≤ length l
    pub short : length l ≤ most

  abbrev name_render : List ℕ → List ℕ
  name_render l = l ++ (stop ∷ [])

  pub name-sound : (s : List ℕ) → Sound Name name_render s (name_parse s)
  unfolding name_parse
  name-sound s =
      let l = span test s in
      let r = drop (length l) s in
      go (leb least (length l)) refl (leb (length l) most) refl (strip (stop ∷ []) r) (strip-sound (stop ∷ []) r)
    where
      go : (a : Bool) → leb least (length (span test s)) ≡ a → (b : Bool) → leb (length (span test s)) most ≡ b → (x : Res (Unit {0}))
          → Sound (λ u. Unit {0}) (λ u. stop ∷ []) (drop (length (span test s)) s) x → Sound Name name_render s (pick a (pick b (bind x (λ u q. got (span test s) q))))
      go false e b f x h = tt
      go true e false f x h = tt
      go true e true f bad h = tt
      go true e true f (got u q) h = (
        span-split test s ∙ ap (λ (r : List ℕ). span test s ++ r) h.0 ∙ sym (append_assoc (span test s) (stop ∷ []) q),
        record { passes = span-each test s; long = leb-true least (length (span test s)) e; short = leb-true (length (span test s)) most f },
      )

  module _ (off : test stop ≡ false) where
    pub name-complete : (l rest : List ℕ) → Name l → name_parse (name_render l ++ rest) ≡ got l rest
    unfolding name_parse
    name-complete l rest ok =
        let e : span test (name_render l ++ rest) ≡ l = ap (span test) (append_assoc l (stop ∷ []) rest) ∙ span-is test l stop rest ok.passes off in
        let f : drop (length l) (name_render l ++ rest) ≡ (stop ∷ []) ++ rest = ap (drop (length l)) (append_assoc l (stop ∷ []) rest) ∙ drop-append_seam l ((stop ∷ []) ++ rest) in
        rw (e, f, le-leb least (length l) ok.long, le-leb (length l) most ok.short, strip-complete (stop ∷ []) rest)

    abbrev pub name : Format (List ℕ)
    name = record { Ok = Name; render = λ l. l ++ (stop ∷ []); parse = name_parse; sound = name-sound; complete = name-complete }
