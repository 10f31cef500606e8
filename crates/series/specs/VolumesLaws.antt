-- The second numbers of an engagement's rows are its delivered volumes, and those of all engagements stand one behind the other.
use Rattle.std.specs.Prelude.{◌≡◌, refl, ℕ, zero, suc, ◌+◌, ◌*◌, ◌^◌, ◌≤◌, ◌<◌, T, ℤ, negsuc, nat_abs, get_or, take, set}
use Rattle.std.proofs.Common.{append-nil, sym, ◌∙◌, zero-add, mul-zero, mul-suc, get_or-append-add, take_at, Fits, SFits}
use Rattle.std.proofs.Math.Path.{ap}
use mathlib.Core.List.{List, [], ◌∷◌, ◌++◌, map, flat_map, map-append}
use Rattle.std.proofs.Math.Option.{none}
use native.Mathlib.Omega.{arith}
use Rattle.std.proofs.Math.IntN.{pos}
use Rattle.std.specs.Int.Signed.{non_neg}
use Rattle.std.proofs.Math.ListN.{length, drop, length-map, get_or-append}
use Rattle.std.proofs.lemmas.List.{drop_all}
use Rattle.std.proofs.lemmas.List.Edits.{sets, sets-eq}
use Rattle.std.proofs.Math.Seq.{split_at}
use Rattle.std.specs.Int.{w64}
use Rattle.integers.specs.Ranges.{range}
use Rattle.integers.specs.Sums.{sum_of}
use Rattle.integers.proofs.ZLaws.{up, dn, inside}
use Rattle.book.specs.declared.Engagement.{Engagement}
use Rattle.book.specs.Book.{Book, book_of}
use Rattle.volumes.specs.Quarters.{quarter_hours}
use Rattle.volumes.specs.Settlement.{delivered, row_width, row, rows_of, row_count, book_refusal}
use Rattle.volumes.proofs.SettlementLaws.{row-length, rows_of-length, passing}
use Rattle.volumes.proofs.SoundLaws.{sound}
use Rattle.volumes.proofs.RunningLaws.{rows_few}
use Rattle.settlement.specs.SectionsInner.{engagement_count_in, book_with}
use Rattle.settlement.specs.StoresLaws.{sets-append}
use Rattle.settlement.specs.PartsLaws.{parts_to, parts_all, parts-length}
use Rattle.series.specs.VolumesInner.{volumes_of, book_volumes, volume_in}
use Rattle.integers.proofs.RangesLaws.{length-range, range-more, get_d-made, map-range-cong}
use Rattle.quarters.specs.QuartersInner.{most_rows}
use Rattle.integers.proofs.ListsLaws.{flat_map-append}

-- number j of the k-th of parts of one length
get_d-parts : {A : Type 0} (w : ℕ) (f : ℕ → List A) → ((i : ℕ) → length (f i) ≡ w) → (a n k j : ℕ) (d : A) → k < n → j < w → get_or (flat_map f (range a n)) (w * k + j) d ≡ get_or (f (a + k)) j d
unfolding flat_map range
get_d-parts w f h a zero k j d l m = absurd (omega arith)
get_d-parts w f h a (suc n) zero j d l m =
    let e : w * 0 + j ≡ j = omega (arith, mul-zero w) in
    let z : a + 0 ≡ a = omega arith in
    rw (e, z) (get_or-append (f a) (flat_map f (range (suc a) n)) d j (omega (arith, h a)))
get_d-parts w f h a (suc n) (suc k) j d l m =
    let e : w * suc k + j ≡ length (f a) + (w * k + j) = omega (arith, mul-suc w k, h a) in
    let z : suc a + k ≡ a + suc k = omega arith in
    rw e (get_or-append-add (f a) (flat_map f (range (suc a) n)) (w * k + j) d ∙ get_d-parts w f h (suc a) n k j d (omega arith) m ∙ ap (λ (i : ℕ). get_or (f i) j d) z)

-- one number more is stored behind the others
pub set_next : (f : ℕ → ℕ) (l : List ℕ) (at k v : ℕ) → v ≡ f k → set (sets l at (map f (range 0 k))) (at + k) v ≡ sets l at (map f (range 0 (k + 1)))
set_next f l at k v e =
    let stored = map f (range 0 k) in
    let n : length stored ≡ k = length-map (range 0 k) f ∙ length-range 0 k in
    let more : map f (range 0 (k + 1)) ≡ stored ++ (v ∷ []) = ap (map f) (range-more 0 k) ∙ map-append f (range 0 k) ((0 + k) ∷ []) ∙ ap (λ (x : ℕ). stored ++ (x ∷ [])) (ap f (zero-add k) ∙ sym e) in
    ap (λ (j : ℕ). set (sets l at stored) (at + j) v) (sym n) ∙ sets-append l at stored (v ∷ []) ∙ ap (sets l at) (sym more)

-- numbers stored in all cells of a list
pub all-set : (f : ℕ → ℕ) (l : List ℕ) (n : ℕ) → n ≡ length l → sets l 0 (map f (range 0 n)) ≡ map f (range 0 (length l))
all-set f l n e =
    let long : length (map f (range 0 n)) ≡ n = length-map (range 0 n) f ∙ length-range 0 n in
    sets-eq (map f (range 0 n)) l 0 (omega arith)
    ∙ ap (λ (t : List ℕ). map f (range 0 n) ++ t) (drop_all (0 + length (map f (range 0 n))) l (omega arith))
    ∙ append-nil (map f (range 0 n))
    ∙ ap (λ (k : ℕ). map f (range 0 k)) e

module _ (book : Book) where
  own-volume : (e : Engagement) (k : ℕ) → k < e.count → get_or (rows_of book e) (row_width * k + 1) (pos 0) ≡ pos (delivered book e k)
  unfolding rows_of quarter_hours row
  own-volume e k h = get_d-parts row_width (row book e) (row-length book e) 0 e.count k 1 (pos 0) h (omega arith) ∙ ap (λ (i : ℕ). pos (delivered book e i)) (zero-add k)

  -- the volumes of rows that are filled, and all of them
  pub volume-is : (e : Engagement) (l after : List ℤ) → after ≡ sets l 0 (rows_of book e) → row_width * e.count ≤ length l → (k : ℕ) → k < e.count → volume_in after k ≡ pos (delivered book e k)
  volume-is e l after f room k h =
      ap (λ (t : List ℤ). volume_in t k) (f ∙ sets-eq (rows_of book e) l 0 (omega (arith, rows_of-length book e)))
      ∙ get_or-append (rows_of book e) (drop (0 + length (rows_of book e)) l) (pos 0) (row_width * k + 1) (omega (arith, rows_of-length book e))
      ∙ own-volume e k h

  pub volumes-are : (e : Engagement) (l after : List ℤ) → after ≡ sets l 0 (rows_of book e) → row_width * e.count ≤ length l → map (λ k. up (volume_in after k)) (range 0 e.count) ≡ volumes_of book e
  unfolding volumes_of quarter_hours
  volumes-are e l after f room = map-range-cong (λ k. up (volume_in after k)) (delivered book e) 0 e.count (λ k _ h. ap up (volume-is e l after f room k (omega (arith, h))))

  -- one for each quarter-hour
  pub volumes-each : (e : Engagement) → length (volumes_of book e) ≡ 1 * e.count
  unfolding volumes_of quarter_hours
  volumes-each e = length-map (range 0 e.count) (delivered book e) ∙ length-range 0 e.count ∙ omega arith

  volumes-count : (es : List Engagement) → length (flat_map (volumes_of book) es) ≡ sum_of (λ e. e.count) es
  volumes-count es = parts-length (volumes_of book) 1 volumes-each es ∙ omega arith

  pub volumes-length : length (book_volumes book) ≡ row_count book
  unfolding book_volumes row_count
  volumes-length = volumes-count book.engagements

  -- the volume of quarter-hour k of the engagement behind those that are passed
  pub volume-of : (es : List Engagement) (i : ℕ) (e : Engagement) (k : ℕ) → i < length es → k < (get_or es i e).count
      → get_or (flat_map (volumes_of book) es) (sum_of (λ e. e.count) (take i es) + k) 0 ≡ delivered book (get_or es i e) k
  unfolding flat_map volumes_of quarter_hours
  volume-of es i e k h l =
      let before = flat_map (volumes_of book) (take i es) in
      let own = volumes_of book (get_or es i e) in
      let later = flat_map (volumes_of book) (drop (suc i) es) in
      let whole : flat_map (volumes_of book) es ≡ before ++ (own ++ later) = ap (flat_map (volumes_of book)) (split_at es i e h) ∙ flat_map-append (volumes_of book) (take i es) (get_or es i e ∷ drop (suc i) es) in
      let place : sum_of (λ e. e.count) (take i es) + k ≡ length before + k = omega (arith, volumes-count (take i es)) in
      rw (whole, place)
      (get_or-append-add before (own ++ later) k 0
      ∙ get_or-append own later 0 k (omega (arith, volumes-each (get_or es i e)))
      ∙ get_d-made (delivered book (get_or es i e)) (get_or es i e).count k 0 l)

-- the volumes that are stored one engagement after the other are the book's
pub volumes-all : (bytes engagements : List ℕ) (i : ℕ) → engagement_count_in engagements ≤ i → parts_to (volumes_of (book_with bytes engagements)) engagements i ≡ book_volumes (book_with bytes engagements)
unfolding book_volumes book_with
volumes-all bytes engagements i h = parts_all (volumes_of (book_with bytes engagements)) engagements i h

pub volumes-most : (bytes : List ℕ) → book_refusal bytes ≡ none → row_count (book_of bytes) ≤ most_rows
volumes-most bytes h = omega (arith, rows_few (book_of bytes) (sound bytes (passing bytes h).passed))

-- stored, they stand in the first places
pub volumes-stand : (book : Book) (l after : List ℕ) → row_count book ≤ length l → after ≡ sets l 0 (book_volumes book) → take (length (book_volumes book)) after ≡ book_volumes book
volumes-stand book l after k e =
    let r = book_volumes book in
    ap (take (length r)) (e ∙ sets-eq r l 0 (omega (arith, volumes-length book))) ∙ take_at r (drop (0 + length r) l) (length r) refl

-- ---- a number that is not negative, without its sign

pub unsigned : (z : ℤ) → dn z ≡ 0 → SFits w64 z → T (non_neg z) × Fits w64 (nat_abs z)
unsigned (pos n) h f = let k : n < 2 ^ 63 = (inside w64 (pos n) f).above in (tt, record { fits = omega arith })
unsigned (negsuc n) h f = absurd (omega arith)

pub unsigned_is : (z : ℤ) → dn z ≡ 0 → nat_abs z ≡ up z
unsigned_is (pos n) h = refl
unsigned_is (negsuc n) h = absurd (omega arith)
