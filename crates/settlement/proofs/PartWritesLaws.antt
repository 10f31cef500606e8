-- Stores through a part of a slice, `&mut s[a..e]`, are stores in the slice.
use Rattle.std.specs.Prelude.{◌≡◌, refl, List, [], ◌∷◌, ◌++◌, ℕ, suc, ◌+◌, ◌-◌, ◌≤◌, ◌<◌, length, take, drop, set}
use Rattle.std.proofs.Common.{sym, ap, ◌∙◌, arith, take_all, length-set, length-take, length-drop, take-append-drop}
use Rattle.std.proofs.lemmas.List.{set-append_left, set-append_right}
use Rattle.std.proofs.Math.Seq.{length-take-le}
use Rattle.std.proofs.lemmas.List.Edits.{sets, sets-eq}
use Rattle.std.proofs.lemmas.Slice.{put_mid-paste}
use borrow.Rule.Slice.PartMut.{put_mid, mid_of, post_of}

module _ {A : Type 0} where
  -- a part that is written anew
  pub part-written : (a k : ℕ) (l part : List A) → k ≡ length part → a + k ≤ length l → put_mid a k l part ≡ sets l a part
  part-written a k l part e h =
      put_mid-paste a k l part part k refl refl e
      ∙ ap (λ (s : List A). take a l ++ s ++ drop (a + k) l) (take_all k part (omega arith))
      ∙ ap (λ (n : ℕ). take a l ++ part ++ drop (a + n) l) e
      ∙ sym (sets-eq part l a (omega arith))

  -- stores in the first of two lists, and in the one behind it
  sets-left : (x y : List A) (i : ℕ) (vs : List A) → i + length vs ≤ length x → sets (x ++ y) i vs ≡ sets x i vs ++ y
  sets-left x y i [] h = refl
  sets-left x y i (v ∷ vs) h =
      ap (λ (l : List A). sets l (suc i) vs) (set-append_left x y i v (omega arith)) ∙ sets-left (set x i v) y (suc i) vs (omega (arith, length-set x i v))

  sets-right : (x y : List A) (i : ℕ) (vs : List A) → sets (x ++ y) (length x + i) vs ≡ x ++ sets y i vs
  sets-right x y i [] = refl
  sets-right x y i (v ∷ vs) =
      let place : suc (length x + i) ≡ length x + suc i = omega arith in
      let cell : length x + i - length x ≡ i = omega arith in
      ap (λ (l : List A). sets l (suc (length x + i)) vs) (set-append_right x y (length x) (length x + i) v refl (omega arith) ∙ ap (λ (n : ℕ). x ++ set y n v) cell)
      ∙ ap (λ (n : ℕ). sets (x ++ set y i v) n vs) place
      ∙ sets-right x (set y i v) (suc i) vs

  -- a part in whose front numbers are stored
  pub part-stored : (a k : ℕ) (l part vs : List A) → a + k ≤ length l → length vs ≤ k → part ≡ sets (mid_of a k l) 0 vs → put_mid a k l part ≡ sets l a vs
  part-stored a k l part vs h m e =
      let before : length (take a l) ≡ a = length-take-le a l (omega arith) in
      let here : length (take a l) + 0 ≡ a = omega arith in
      ap (λ (p : List A). take a l ++ (p ++ post_of a k l)) e
      ∙ ap (λ (p : List A). take a l ++ p) (sym (sets-left (mid_of a k l) (post_of a k l) 0 vs (omega (arith, length-take k (drop a l), length-drop a l))))
      ∙ ap (λ (p : List A). take a l ++ sets p 0 vs) (take-append-drop k (drop a l))
      ∙ sym (sets-right (take a l) (drop a l) 0 vs)
      ∙ ap (λ (n : ℕ). sets (take a l ++ drop a l) n vs) here
      ∙ ap (λ (p : List A). sets p a vs) (take-append-drop a l)

  -- a value stored in a part
  pub set-part : (a k n : ℕ) (x : A) (l part : List A) → length part ≡ k → a + k ≤ length l → n < k → put_mid a k l (set part n x) ≡ set (put_mid a k l part) (a + n) x
  set-part a k n x l part long room h =
      let before : length (take a l) ≡ a = length-take-le a l (omega arith) in
      let cell : a + n - a ≡ n = omega arith in
      sym
      (set-append_right (take a l) (part ++ post_of a k l) a (a + n) x before (omega arith)
      ∙ ap (λ (m : ℕ). take a l ++ set (part ++ post_of a k l) m x) cell
      ∙ ap (λ (p : List A). take a l ++ p) (set-append_left part (post_of a k l) n x (omega arith)))
