-- The rows of an engagement, filled into a list of numbers, have its corrections: what a party gets of them is what its sheet adds.
use Rattle.std.specs.Prelude.{◌≡◌, ℕ, zero, suc, ◌+◌, ◌*◌, ◌≤◌, ◌<◌, ℤ, pos, drop}
use Rattle.std.proofs.Common.{sym, ◌∙◌, mul-suc, get_or-append-add}
use Rattle.std.proofs.Math.Path.{ap}
use mathlib.Core.List.{List, flat_map}
use native.Mathlib.Omega.{arith}
use Rattle.std.proofs.Math.ListN.{length, get_or, get_or-append}
use Rattle.std.proofs.Math.Seq.{sets}
use Rattle.std.proofs.lemmas.List.Edits.{sets-eq}
use Rattle.integers.specs.Ranges.{range}
use Rattle.book.specs.declared.Engagement.{Engagement}
use Rattle.book.specs.Book.{Book}
use Rattle.volumes.specs.Quarters.{quarter_hours}
use Rattle.volumes.specs.Baseline.{point_of}
use Rattle.volumes.specs.Settlement.{row_width, source_correction, fsp_correction, injection_correction, corrections, row, rows_of}
use Rattle.volumes.proofs.SettlementLaws.{row-length, rows_of-length}
use Rattle.volumes.specs.Sheets.{start_position, correction_at}
use Rattle.volumes.proofs.SheetsLaws.{correction-inside}
use Rattle.volumes.specs.SoundInner.{OnTerms, Sound}
use Rattle.volumes.proofs.WidthsLaws.{bounded-more, source-bounded, fsp-bounded, injection-bounded}
use Rattle.sheets.specs.SharesInner.{gets, source_in, fsp_in, injection_in, gets_at, gets_of, RowsSmall, corrections_for}
use Rattle.integers.proofs.RangesLaws.{map-range-cong}

-- the j-th of the k-th part, where all parts have one width
get_d_part : {A : Type 0} (w : ℕ) (f : ℕ → List A) (a n k j : ℕ) (d : A) → ((i : ℕ) → length (f i) ≡ w) → k < n → j < w → get_or (flat_map f (range a n)) (w * k + j) d ≡ get_or (f (a + k)) j d
unfolding range flat_map
get_d_part w f a zero k j d h p q = absurd (omega arith)
get_d_part w f a (suc n) zero j d h p q =
    let e : w * 0 + j ≡ j = omega arith in
    let g : a + 0 ≡ a = omega arith in
    rw (e, g) (get_or-append (f a) (flat_map f (range (suc a) n)) d j (omega (arith, h a)))
get_d_part w f a (suc n) (suc k) j d h p q =
    let e : w * suc k + j ≡ length (f a) + (w * k + j) = omega (arith, h a, mul-suc w k) in
    let g : a + suc k ≡ suc a + k = omega arith in
    rw (e, g) (get_or-append-add (f a) (flat_map f (range (suc a) n)) (w * k + j) d ∙ get_d_part w f (suc a) n k j d h (omega arith) q)

module _ (book : Book) (e : Engagement) (l : List ℤ) (room : row_width * e.count ≤ length l) where
  -- a number of row k
  number : (k j : ℕ) → k < e.count → j < row_width → get_or (sets l 0 (rows_of book e)) (row_width * k + j) (pos 0) ≡ get_or (row book e k) j (pos 0)
  unfolding rows_of quarter_hours
  number k j p q =
      let r = rows_of book e in
      let n : length r ≡ row_width * e.count = rows_of-length book e in
      let z : 0 + k ≡ k = omega arith in
      ap (λ (m : List ℤ). get_or m (row_width * k + j) (pos 0)) (sets-eq r l 0 (omega arith))
      ∙ get_or-append r (drop (0 + length r) l) (pos 0) (row_width * k + j) (omega arith)
      ∙ get_d_part row_width (row book e) 0 e.count k j (pos 0) (row-length book e) p q
      ∙ ap (λ (m : ℕ). get_or (row book e m) j (pos 0)) z

  -- its corrections
  source-read : (k : ℕ) → k < e.count → source_in (sets l 0 (rows_of book e)) k ≡ source_correction book e k
  unfolding row corrections
  source-read k p = number k 2 p (omega arith)

  fsp-read : (k : ℕ) → k < e.count → fsp_in (sets l 0 (rows_of book e)) k ≡ fsp_correction book e k
  unfolding row corrections
  fsp-read k p = number k 3 p (omega arith)

  injection-read : (k : ℕ) → k < e.count → injection_in (sets l 0 (rows_of book e)) k ≡ injection_correction book e k
  unfolding row corrections
  injection-read k p = number k 4 p (omega arith)

  pub rows_get : (party : ℕ) → gets_of book.version party (point_of book e) (sets l 0 (rows_of book e)) e.count ≡ corrections_for book party e
  unfolding gets_of gets corrections_for quarter_hours corrections
  rows_get party =
      let rows = sets l 0 (rows_of book e) in
      map-range-cong
      (gets_at book.version party (point_of book e) rows)
      (λ k. correction_at book party (start_position book.calendar e + k) e)
      0
      e.count
      (λ k _ h. let q : k < e.count = omega arith in rw (source-read k q, fsp-read k q, injection-read k q) (sym (correction-inside book party e k q)))

  -- which are small enough to add up
  pub rows-small : Sound book → OnTerms e → RowsSmall (sets l 0 (rows_of book e)) e.count
  rows-small s t =
      record {
        source = λ k h. rw (source-read k h) (bounded-more (source-bounded book s e k) (omega arith));
        fsp = λ k h. rw (fsp-read k h) (bounded-more (fsp-bounded book s e t k) (omega arith));
        injection = λ k h. rw (injection-read k h) (bounded-more (injection-bounded book s e k) (omega arith));
      }
