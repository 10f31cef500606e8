-- Laws about a reading that keeps a mark and fills rows: the parts of a file fill them one behind the other, and a part within another.
-- They stand for whoever reads so; the reader itself goes by `Filled`; MarkedFilledLaws leads from what its contracts say to these.
use Rattle.std.specs.Prelude.{◌≡◌, Bool, true, false, ℕ, suc, ◌+◌, ◌-◌, ◌*◌, ◌/◌, ◌≤◌, ◌<◌, drop, set, Option, Some, None}
use Rattle.std.proofs.Math.Path.{refl, sym, ap, subst}
use Rattle.std.proofs.Common.{◌∙◌, length-set, add-one}
use mathlib.Core.List.{List, [], ◌∷◌, ◌++◌, append_assoc, flat_map}
use Rattle.std.proofs.Math.ListN.{length, length-append}
use Rattle.std.proofs.lemmas.List.Edits.{sets, sets-eq}
use Rattle.std.proofs.Math.Numerals.{add-two}
use native.Mathlib.Omega.{arith}
use Rattle.text.specs.WrittenInner.{written}
use Rattle.text.proofs.WrittenLaws.{written-nil, written_both}
use Rattle.formats.specs.Format.{Res, got, bad, Format, bind, pick}
use Rattle.formats.specs.FormatLaws.{got-bad}
use Rattle.formats.specs.Combine.{strip, map_parse, only_parse}
use Rattle.formats.specs.Items.{items_parse}
use Rattle.formats.proofs.ItemsLaws.{items-end, items-step}
use Rattle.formats.proofs.MarksLaws.{Parsed}
use Rattle.formats.proofs.MarksLaws.{no-at, same_at}
use Rattle.message.specs.Rows.{Row, row_numbers, numbers}
use Rattle.message.specs.Reading.{observed}
use Rattle.message.proofs.SixesLaws.{length-numbers}
use Rattle.series_reader.proofs.MarkedFillingInner.{Fills, Stored}

-- ---- places

-- what was read where something is there
ended : {A : Type 0} (f : List ℕ → Res A) (s : List ℕ) (m r : Option ℕ) (v w : A) (p : ℕ) (rest : List ℕ) → Parsed f s m r v → m ≡ Some p → f (drop p s) ≡ got w rest
    → (q : ℕ) × ((r ≡ Some q) × (v ≡ w))
ended f s None r v w p rest h e g = absurd (no-at p e)
ended f s (Some n) None v w p rest h e g = absurd (got-bad (sym g ∙ ap (λ (k : ℕ). f (drop k s)) (sym (same_at e)) ∙ h.run.run))
ended f s (Some n) (Some q) v w p rest h e g =
    let j : got v (drop q s) ≡ got w rest = sym h.run.run ∙ ap (λ (k : ℕ). f (drop k s)) (same_at e) ∙ g in
    let z : v ≡ w = cc in (q, (refl, z))

-- what ends at a place began at one
pub began : {A : Type 0} (f : List ℕ → Res A) (s : List ℕ) (m r : Option ℕ) (v : A) (q : ℕ) → Parsed f s m r v → r ≡ Some q → (p : ℕ) × ((m ≡ Some p) × (f (drop p s) ≡ got v (drop q s)))
began f s m None v q h e = absurd (no-at q e)
began f s None (Some n) v q h e = absurd (got-bad (sym h.run.run))
began f s (Some p) (Some n) v q h e = (p, (refl, h.run.run ∙ ap (λ (k : ℕ). got v (drop k s)) (same_at e)))

-- ---- nothing is read

pub fills-no : {A : Type 0} {f : List ℕ → Res A} {R : A → List Row} {s : List ℕ} {k : ℕ} {d o : List ℕ} → length o ≡ length d → Fills f R s None k d o
fills-no e = record { keeps = e; wrote = λ p v r i. absurd (no-at p i) }

pub fills-bad : {A : Type 0} (f : List ℕ → Res A) (R : A → List Row) (s : List ℕ) (p k : ℕ) (d o : List ℕ) → length o ≡ length d → f (drop p s) ≡ bad → Fills f R s (Some p) k d o
fills-bad f R s p k d o l e =
    record { keeps = l; wrote = λ q v r m g. absurd (got-bad (sym g ∙ ap (λ (j : ℕ). f (drop j s)) (sym (same_at m)) ∙ e)) }

-- ---- another reading of the same

only-got : {A : Type 0} (test : A → Bool) (x : Res A) (v : A) (r : List ℕ) → bind x (λ a q. pick (test a) (got a q)) ≡ got v r → x ≡ got v r
only-got test bad v r e = absurd (got-bad (sym e))
only-got test (got a q) v r e = go (test a) e
  where
    go : (b : Bool) → pick b (got a q) ≡ got v r → got a q ≡ got v r
    go true e = e
    go false e = absurd (got-bad (sym e))

module _ {A : Type 0} {f : List ℕ → Res A} {R : A → List Row} {s : List ℕ} {m : Option ℕ} {k : ℕ} {d o : List ℕ} where
  pub fills_same : (g : List ℕ → Res A) → ((q : List ℕ) → g q ≡ f q) → Fills f R s m k d o → Fills g R s m k d o
  fills_same g h i = record { keeps = i.keeps; wrote = λ p v r e j. i.wrote p v r e (sym (h (drop p s)) ∙ j) }

  -- under a test
  pub fills-only : (test : A → Bool) → Fills f R s m k d o → Fills (only_parse test f) R s m k d o
  unfolding only_parse
  fills-only test i = record { keeps = i.keeps; wrote = λ p v r e j. i.wrote p v r e (only-got test (f (drop p s)) v r j) }

-- contents in another form
pub fills-view : {A B : Type 0} {f : List ℕ → Res A} {s : List ℕ} {m : Option ℕ} {k : ℕ} {d o : List ℕ} (view : A → B) (R : B → List Row) → Fills (map_parse view f) R s m k d o
    → Fills f (λ a. R (view a)) s m k d o
unfolding map_parse
fills-view view R i = record { keeps = i.keeps; wrote = λ p v r e j. i.wrote p (view v) r e (ap (λ x. bind x (λ a q. got (view a) q)) j) }

-- a part with a tag behind it, within a whole that has its rows
pub fills-within : {A B : Type 0} (g : List ℕ → Res A) (f : List ℕ → Res B) {R : A → List Row} (Q : B → List Row) {s : List ℕ} {m a b r : Option ℕ} {k : ℕ} {d o : List ℕ} (t : List ℕ) (v : A) (w : B)
    → Fills g R s a k d o → Parsed f s m r w → Parsed g s a b v → Parsed (strip t) s b r tt → ((q : ℕ) → r ≡ Some q → Q w ≡ R v) → Fills f Q s m k d o
fills-within g f {R} Q {s} {m} {a} {b} {r} {k} {d} {o} t v w i whole part tag same =
    record {
      keeps = i.keeps;
      wrote = λ p x rest e j room.
          let z = ended f s m r w x p rest whole e j in
          let y = began (strip t) s b r tt z.0 tag z.1.0 in
          let u = began g s a b v y.0 part y.1.0 in
          let h : Q x ≡ R v = ap Q (sym z.1.1) ∙ same z.0 z.1.0 in
          i.wrote u.0 v (drop y.0 s) u.1.0 u.1.1 (subst (λ (l : List Row). 6 * (k + length l) ≤ length d) h room)
          ∙ ap (λ (l : List Row). written d (6 * k) (numbers l)) (sym h);
    }

-- ---- one behind the other

numbers-both : (a b : List Row) → numbers (a ++ b) ≡ numbers a ++ numbers b
unfolding numbers flat_map
numbers-both [] b = refl
numbers-both (x ∷ a) b = ap (λ (l : List ℕ). row_numbers x ++ l) (numbers-both a b) ∙ sym (append_assoc (row_numbers x) (numbers a) (numbers b))

both : (d mid o : List ℕ) (k k' : ℕ) (a b : List Row) → 6 * (k + length (a ++ b)) ≤ length d → k' ≡ k + length a → mid ≡ written d (6 * k) (numbers a) → o ≡ written mid (6 * k') (numbers b)
    → o ≡ written d (6 * k) (numbers (a ++ b))
both d mid o k k' a b room e f g =
    let la = length-numbers a in
    let lb = length-numbers b in
    let l = length-append a b in
    let at : 6 * k' ≡ 6 * k + length (numbers a) = omega arith in
    g ∙ ap (λ (x : List ℕ). written x (6 * k') (numbers b)) f ∙ ap (λ (j : ℕ). written (written d (6 * k) (numbers a)) j (numbers b)) at
    ∙ written_both d (6 * k) (numbers a) (numbers b) (omega arith) ∙ ap (λ (x : List ℕ). written d (6 * k) x) (sym (numbers-both a b))

module _ {A S : Type 0} (F : S → Format A) (next : S → A → S) (R : A → List Row) (n i : ℕ) (st : S) where
  -- no item is left
  pub fills-none : (s : List ℕ) (p k : ℕ) (d : List ℕ) → n ≤ i → Fills (items_parse F next (n - i) st) (flat_map R) s (Some p) k d d
  unfolding numbers flat_map
  fills-none s p k d h =
      record {
        keeps = refl;
        wrote = λ q v r e j room.
            let z : got [] (drop q s) ≡ got v r = sym (items-end F next n i st (drop q s) h) ∙ j in
            let y : [] ≡ v = cc in
            subst (λ (l : List A). d ≡ written d (6 * k) (numbers (flat_map R l))) y (sym (written-nil d (6 * k)));
      }

  cons-got : (a : A) (x : Res (List A)) (l : List A) (r : List ℕ) → bind x (λ xs q. got (a ∷ xs) q) ≡ got l r → (xs : List A) × ((x ≡ got xs r) × (a ∷ xs ≡ l))
  cons-got a bad l r e = absurd (got-bad (sym e))
  cons-got a (got xs q) l r e = let z : q ≡ r = cc in let y : a ∷ xs ≡ l = cc in (xs, (ap (got xs) z, y))

  -- an item and those behind it
  pub fills-step : {s : List ℕ} {p q k k' : ℕ} {d mid o : List ℕ} (a : A) → i < n → (F st).parse (drop p s) ≡ got a (drop q s) → Fills (F st).parse R s (Some p) k d mid
      → (6 * (k + length (R a)) ≤ length d → k' ≡ k + length (R a)) → Fills (items_parse F next (n - (i + 1)) (next st a)) (flat_map R) s (Some q) k' mid o
      → Fills (items_parse F next (n - i) st) (flat_map R) s (Some p) k d o
  unfolding flat_map
  fills-step {s} {p} {q} {k} {k'} {d} {mid} {o} a h e first count rest =
      record {
        keeps = rest.keeps ∙ first.keeps;
        wrote = λ j v r m g room.
            let at = same_at m in
            let f = sym (items-step F next n i st (drop p s) a (drop q s) h e) ∙ ap (λ (x : ℕ). items_parse F next (n - i) st (drop x s)) at ∙ g in
            let z = cons-got a (items_parse F next (n - (i + 1)) (next st a) (drop q s)) v r f in
            let xs = z.0 in
            let all : 6 * (k + length (R a ++ flat_map R xs)) ≤ length d = subst (λ (l : List A). 6 * (k + length (flat_map R l)) ≤ length d) (sym z.1.1) room in
            let l = length-append (R a) (flat_map R xs) in
            let one : 6 * (k + length (R a)) ≤ length d = omega arith in
            let c = count one in
            subst (λ (l : List A). o ≡ written d (6 * k) (numbers (flat_map R l))) z.1.1
            (both d mid o k k' (R a) (flat_map R xs) all c (first.wrote p a (drop q s) refl e one) (rest.wrote q xs r refl z.1.0 (omega (arith, first.keeps))));
      }

-- ---- a row

pub stored-none : (row : Row) (k : ℕ) (d : List ℕ) → length d / 6 ≤ k → Stored row k d d k
stored-none row k d h = record { keeps = refl; wrote = λ room. absurd (omega arith) }

six-sets : (l : List ℕ) (at a b c d e f : ℕ) → set (set (set (set (set (set l at a) (at + 1) b) (at + 2) c) (at + 3) d) (at + 4) e) (at + 5) f ≡ sets l at (a ∷ b ∷ c ∷ d ∷ e ∷ f ∷ [])
six-sets l at a b c d e f =
    let three : at + 3 ≡ suc (suc (suc at)) = omega arith in
    let four : at + 4 ≡ suc (suc (suc (suc at))) = omega arith in
    let five : at + 5 ≡ suc (suc (suc (suc (suc at)))) = omega arith in
    rw (add-one, add-two, three, four, five)

pub stored-six : (k : ℕ) (d : List ℕ) (partner supply delivery position watts : ℕ) → k < length d / 6
    → Stored (partner, ((supply, delivery), observed (position, watts))) k d
    (set (set (set (set (set (set d (k * 6) partner) (k * 6 + 1) supply) (k * 6 + 2) delivery) (k * 6 + 3) position) (k * 6 + 4) watts) (k * 6 + 5) 0) (k + 1)
unfolding written row_numbers
stored-six k d partner supply delivery position watts h =
    let row = partner ∷ supply ∷ delivery ∷ position ∷ watts ∷ 0 ∷ [] in
    let at : k * 6 ≡ 6 * k = omega arith in
    record {
      keeps = simp length-set;
      wrote = λ room.
          (six-sets d (k * 6) partner supply delivery position watts 0 ∙ ap (λ (n : ℕ). sets d n row) at ∙ sets-eq row d (6 * k) (omega arith), refl);
    }
