-- Numbers added to a part of the cells, `&mut sums[a..e]`, are added to the cells from its place on; rows as arrays have the numbers of the rows.
use Rattle.std.specs.Prelude.{◌≡◌, refl, List, [], ◌∷◌, ◌++◌, ℕ, zero, suc, ◌+◌, ◌*◌, ◌/◌, ◌≤◌, ◌<◌, ℤ, pos, ◌+ℤ◌, length, get_or, take, drop, set}
use Rattle.std.proofs.Common.{sym, ap, ap₂, ◌∙◌, arith, mul-suc, length-set, length-drop}
use Rattle.std.proofs.Math.ListN.{get_or-append}
use Rattle.std.proofs.Math.Seq.{length-take-le}
use Rattle.std.proofs.lemmas.List.{get_or-append-add, get_or-take, get_or-drop, drop-drop}
use Rattle.std.specs.Simd.{first_chunks}
use borrow.Rule.Slice.PartMut.{put_mid, mid_of, post_of, put_same}
use Rattle.volumes.specs.Settlement.{row_width}
use Rattle.settlement.proofs.PartWritesLaws.{set-part}
use Rattle.sheets.specs.AddsInner.{add_at, adds, Addable}

-- number j of the k-th of n arrays
chunk-at : {A : Type 0} (w n k : ℕ) (l : List A) (d : List A) → k < n → get_or (first_chunks w n l) k d ≡ take w (drop (w * k) l)
chunk-at w zero k l d h = absurd (omega arith)
chunk-at w (suc n) zero l d h =
    let z : w * 0 ≡ 0 = omega arith in
    rw z refl
chunk-at w (suc n) (suc k) l d h =
    let e : w + w * k ≡ w * suc k = omega (arith, mul-suc w k) in
    chunk-at w n k (drop w l) d (omega arith) ∙ ap (take w) (drop-drop (w * k) w l) ∙ ap (λ (m : ℕ). take w (drop m l)) e

number-at : {A : Type 0} (w n k j : ℕ) (l : List A) (d : List A) (e : A) → k < n → j < w → get_or (get_or (first_chunks w n l) k d) j e ≡ get_or l (w * k + j) e
number-at w n k j l d e h i = ap (λ (r : List _). get_or r j e) (chunk-at w n k l d h) ∙ get_or-take w (drop (w * k) l) j e i ∙ get_or-drop (w * k) l j e

-- the cell at place i of a part
put-at : (a k i : ℕ) (l part : List ℤ) → a ≤ length l → i < length part → get_or (put_mid a k l part) (a + i) (pos 0) ≡ get_or part i (pos 0)
put-at a k i l part h f =
    let before : a + i ≡ length (take a l) + i = omega (arith, length-take-le a l h) in
    ap (λ (m : ℕ). get_or (put_mid a k l part) m (pos 0)) before
    ∙ get_or-append-add (take a l) (part ++ post_of a k l) i (pos 0)
    ∙ get_or-append part (post_of a k l) (pos 0) i f

adds-part : (a k i : ℕ) (l part zs : List ℤ) → length part ≡ k → a + k ≤ length l → i + length zs ≤ k → put_mid a k l (adds part i zs) ≡ adds (put_mid a k l part) (a + i) zs
adds-part a k i l part [] long room h = refl
adds-part a k i l part (z ∷ zs) long room h =
    let next : a + suc i ≡ suc (a + i) = omega arith in
    adds-part a k (suc i) l (add_at part i z) zs (length-set part i (get_or part i (pos 0) +ℤ z) ∙ long) room (omega arith)
    ∙ ap₂ (λ (m : List ℤ) (p : ℕ). adds m p zs)
    (set-part a k i (get_or part i (pos 0) +ℤ z) l part long room (omega arith)
    ∙ ap (λ (x : ℤ). set (put_mid a k l part) (a + i) (x +ℤ z)) (sym (put-at a k i l part (omega arith) (omega arith))))
    next

-- numbers that can be added to cells from a place on can be added to the part of the cells that lies there
module _ (sums : List ℤ) (at k : ℕ) (zs : List ℤ) (long : k ≡ length zs) (able : Addable sums at zs) where
  pub part-long : length (mid_of at k sums) ≡ length zs
  part-long = length-take-le k (drop at sums) (omega (arith, length-drop at sums, able.room)) ∙ long

  pub part-addable : Addable (mid_of at k sums) 0 zs
  part-addable =
      record {
        room = omega (arith, part-long);
        fits = λ j h. let z : 0 + j ≡ j = omega arith in
            let cell : get_or (mid_of at k sums) j (pos 0) ≡ get_or sums (at + j) (pos 0) = get_or-take k (drop at sums) j (pos 0) (omega arith) ∙ get_or-drop at sums j (pos 0) in
            rw (z, cell) (able.fits j h);
      }

  pub part-added : put_mid at k sums (adds (mid_of at k sums) 0 zs) ≡ adds sums at zs
  part-added =
      let z : at + 0 ≡ at = omega arith in
      adds-part at k 0 sums (mid_of at k sums) zs (part-long ∙ sym long) (omega (arith, able.room)) (omega arith)
      ∙ ap₂ (λ (m : List ℤ) (p : ℕ). adds m p zs) (put_same at k sums) z

-- number j of the k-th row, read from the rows as arrays
pub chunk-is : (chunks : List (List ℤ)) (rows : List ℤ) (k j : ℕ) → chunks ≡ first_chunks row_width (length rows / row_width) rows → row_width * (k + 1) ≤ length rows → j < row_width
    → get_or (get_or chunks k []) j (pos 0) ≡ get_or rows (row_width * k + j) (pos 0)
chunk-is chunks rows k j e h i = ap (λ (c : List (List ℤ)). get_or (get_or c k []) j (pos 0)) e ∙ number-at row_width (length rows / row_width) k j rows [] (pos 0) (omega arith) i
