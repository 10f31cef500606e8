-- Laws about a reading that keeps a mark and of what it reads a part, one item after the other: the turns of a list give what its form gives.
-- They stand for whoever reads so; the reader itself goes by `Reads`, `Filled` and `Turned`; MarkedFilledLaws leads from what its contracts say to these.
use Rattle.std.specs.Prelude.{◌≡◌, Bool, ℕ, ◌+◌, ◌-◌, ◌≤◌, ◌<◌, length, drop, Option, Some, None}
use Rattle.std.proofs.Math.Path.{refl, ap}
use Rattle.std.proofs.Common.{sym, ◌∙◌, length-append, length-drop, arith}
use Rattle.std.proofs.Math.Bool.{true, false}
use mathlib.Core.List.{List, [], ◌∷◌, ◌++◌, flat_map}
use Rattle.formats.specs.Format.{Res, got, bad, Format, bind, pick}
use Rattle.formats.specs.FormatLaws.{got-bad, sound-of}
use Rattle.formats.specs.Combine.{map_parse, only_parse}
use Rattle.formats.specs.Items.{items_parse}
use Rattle.formats.proofs.ItemsLaws.{items-end, items-bad, items-step}
use Rattle.formats.proofs.RunLaws.{Run}
use Rattle.formats.proofs.MarksLaws.{Parsed}
use Rattle.formats.proofs.MarksLaws.{no-at, parsed, not_there}
use Rattle.series_reader.proofs.MarkedReadingLaws.{parsed-no}
use Rattle.series_reader.proofs.MarkedReadingInner.{folded}

-- ---- readings that find the same

pub run-same : {A : Type 0} {f g : List ℕ → Res A} {x y : Res (Unit {0})} {a : A} → ((s : List ℕ) → f s ≡ g s) → Run f x y a → Run g x y a
run-same {f = f} {g} {x} h r = record { run = same x ∙ r.run }
  where
    same : (x : Res (Unit {0})) → bind x (λ u q. g q) ≡ bind x (λ u q. f q)
    same bad = refl
    same (got u q) = sym (h q)

-- what is read from nowhere ends nowhere
pub from-none : {A : Type 0} {f : List ℕ → Res A} {s : List ℕ} (m : Option ℕ) {v : A} → Parsed f s None m v → m ≡ None
from-none None p = refl
from-none (Some q) p = absurd (got-bad (sym p.run.run))

pub only_same : {A : Type 0} (test : A → Bool) (f g : List ℕ → Res A) → ((s : List ℕ) → f s ≡ g s) → (s : List ℕ) → only_parse test f s ≡ only_parse test g s
unfolding only_parse
only_same test f g h s = ap (λ x. bind x (λ a r. pick (test a) (got a r))) (h s)

-- ---- what is kept of a reading

module _ {A B : Type 0} (view : A → B) (f : List ℕ → Res A) (s : List ℕ) where
  pub viewed : (v : B) (r : List ℕ) → map_parse view f s ≡ got v r → (a : A) × ((f s ≡ got a r) × (view a ≡ v))
  unfolding map_parse
  viewed v r e = go (f s) e
    where
      go : (x : Res A) → bind x (λ a q. got (view a) q) ≡ got v r → (a : A) × ((x ≡ got a r) × (view a ≡ v))
      go bad e = absurd (got-bad (sym e))
      go (got a q) e = let z : q ≡ r = cc in let w : view a ≡ v = cc in (a, (ap (got a) z, w))

  pub view-bad : map_parse view f s ≡ bad → f s ≡ bad
  unfolding map_parse
  view-bad e = go (f s) e
    where
      go : (x : Res A) → bind x (λ a q. got (view a) q) ≡ bad → x ≡ bad
      go bad e = refl
      go (got a q) e = absurd (got-bad e)

  -- a test on what is kept
  pub view-only : (test : B → Bool) → only_parse test (map_parse view f) s ≡ map_parse view (only_parse (λ a. test (view a)) f) s
  unfolding map_parse only_parse
  view-only test = go (f s)
    where
      two : (t : Bool) (a : A) (r : List ℕ) → pick t (got (view a) r) ≡ bind (pick t (got a r)) (λ a q. got (view a) q)
      two true a r = refl
      two false a r = refl

      go : (x : Res A) → bind (bind x (λ a q. got (view a) q)) (λ b q. pick (test b) (got b q)) ≡ bind (bind x (λ a q. pick (test (view a)) (got a q))) (λ a q. got (view a) q)
      go bad = refl
      go (got a r) = two (test (view a)) a r

-- the contents behind what is kept of a reading; where it isn't there, any
pub record Unviewed {A B : Type 0} (view : A → B) (f : List ℕ → Res A) (s : List ℕ) (m r : Option ℕ) (b : B) : Type 0 where
  pub value : A
  pub parsed : Parsed f s m r value
  pub is : (q : ℕ) → r ≡ Some q → view value ≡ b

pub unview : {A B : Type 0} (view : A → B) (none : A) (f : List ℕ → Res A) (s : List ℕ) (m r : Option ℕ) (b : B) → Parsed (map_parse view f) s m r b → Unviewed view f s m r b
unview view none f s None None b p = record { value = none; parsed = parsed-no f s none; is = λ q e. absurd (no-at q e) }
unview view none f s None (Some q) b p = absurd (got-bad (sym p.run.run))
unview view none f s (Some n) None b p = record { value = none; parsed = not_there f s n none (view-bad view f (drop n s) p.run.run); is = λ q e. absurd (no-at q e) }
unview view none f s (Some n) (Some q) b p =
    let a = viewed view f (drop n s) b (drop q s) p.run.run in
    record { value = a.0; parsed = parsed f s n a.0 q a.1.0 p.within; is = λ k e. a.1.1 }

-- ---- what is kept of a list, one item after the other

module _ {A S T : Type 0} (F : S → Format A) (next : S → A → S) (step : T → A → T) where
  unfoldable pub fold_parse : ℕ → S → T → List ℕ → Res T
  fold_parse n st t = map_parse (folded step t) (items_parse F next n st)

  module _ (n i : ℕ) (st : S) (t : T) (s : List ℕ) where
    pub fold_end : n ≤ i → fold_parse (n - i) st t s ≡ got t s
    unfolding fold_parse map_parse folded
    fold_end h = ap (λ x. bind x (λ l q. got (folded step t l) q)) (items-end F next n i st s h)

    pub fold-bad : i < n → (F st).parse s ≡ bad → fold_parse (n - i) st t s ≡ bad
    unfolding fold_parse map_parse
    fold-bad h e = ap (λ x. bind x (λ l q. got (folded step t l) q)) (items-bad F next n i st s h e)

    fold_on : (a : A) (x : Res (List A)) → bind (bind x (λ xs q. got (a ∷ xs) q)) (λ l q. got (folded step t l) q) ≡ bind x (λ l q. got (folded step (step t a) l) q)
    unfolding folded
    fold_on a bad = refl
    fold_on a (got l q) = refl

    pub fold_step : (a : A) (r : List ℕ) → i < n → (F st).parse s ≡ got a r → fold_parse (n - i) st t s ≡ fold_parse (n - (i + 1)) (next st a) (step t a) r
    unfolding fold_parse map_parse
    fold_step a r h e =
        ap (λ x. bind x (λ l q. got (folded step t l) q)) (items-step F next n i st s a r h e) ∙ fold_on a (items_parse F next (n - (i + 1)) (next st a) r)

-- ---- how long bytes are

pub longer : (n : ℕ) (a b : List ℕ) → n ≤ length b → n ≤ length (a ++ b)
longer n a b h = omega (arith, length-append a b)

pub longer-both : (n : ℕ) (a b c : List ℕ) → n ≤ length b → n ≤ length (a ++ b ++ c)
longer-both n a b c h = omega (arith, length-append (a ++ b) c, length-append a b)

pub flat-long : {A : Type 0} (f : A → List ℕ) → ((a : A) → 1 ≤ length (f a)) → (l : List A) → length l ≤ length (flat_map f l)
unfolding flat_map
flat-long f h [] = omega arith
flat-long f h (a ∷ l) = omega (arith, h a, flat-long f h l, length-append (f a) (flat_map f l))

-- what was read from p to q has q - p bytes
pub read-long : {A : Type 0} (F : Format A) (s : List ℕ) (p q : ℕ) (a : A) → p ≤ length s → q ≤ length s → F.parse (drop p s) ≡ got a (drop q s) → p + length (F.render a) ≡ q
read-long F s p q a h k e =
    let l = (sound-of F (drop p s) a (drop q s) e).0 in
    omega (arith, ap length l, length-append (F.render a) (drop q s), length-drop p s, length-drop q s)
