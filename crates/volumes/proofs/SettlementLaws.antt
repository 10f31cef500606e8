-- What a settling that is not refused has; refusals by row and rows by engagement, as loops over them go; and how many numbers there are.
use Rattle.std.specs.Prelude.{◌≡◌, refl, Bool, true, false, cond, ℕ, suc, ◌+◌, ◌*◌, ◌≤◌, ◌<◌, length, take, drop, get_or}
use Rattle.std.proofs.Common.{sym, ap, ◌∙◌, ⊎_elim, arith, length-append, drop_of_length-le, take-suc, drop-cons, ltb-false, le-leb}
use mathlib.Core.List.Memᴰ
use mathlib.Core.List.{List, [], ◌∷◌, ◌++◌, flat_map, append-nil, Memᴰ}
use Rattle.std.proofs.Math.Option.{Option, none, some}
use Rattle.integers.specs.Ranges.{range}
use Rattle.integers.specs.Sums.{naturals, sum_by, sum_of}
use Rattle.book.specs.declared.Method.{Method}
use Rattle.book.specs.declared.Method.TheVariants.{LastQuarter, HighXOfY, Adjusted}
use Rattle.book.specs.declared.Engagement.{Engagement}
use Rattle.refusals.specs.Refusals.{Refusal, or_else}
use Rattle.refusals.specs.RefusalsLaws.{not_first, not-later, else-none}
use Rattle.book.specs.Book.{Book, book_of}
use Rattle.book.specs.Judged.{refusal_of}
use Rattle.volumes.specs.Quarters.{quarter_hours}
use Rattle.volumes.specs.Baseline.{point_of, complete, eligible_days, taken, x_of, y_of}
use Rattle.volumes.proofs.BaselineLaws.{taken-length}
use Rattle.volumes.specs.Settlement.{needed, too_few, refusal_number, row_refusal, refusal_from, settlement_refusal, corrections, row_width, row, rows_of, rows, row_count, book_refusal, settling_refusal, Accepted}
use Rattle.integers.proofs.RangesLaws.{length-range, range-next}
use Rattle.integers.proofs.SumsLaws.{sum-append}
use Rattle.integers.proofs.ListsLaws.{flat_map-append, length-flat_map}

-- an engagement that is not refused
pub record Settles (book : Book) (e : Engagement) : Type 0 where
  pub known : complete (needed book e) ≡ true
  pub enough : too_few (point_of book e).method (y_of book e) (length (eligible_days book e)) ≡ false

pub settles : (book : Book) (e : Engagement) → refusal_number book e ≡ none → Settles book e
unfolding refusal_number
settles book e h = go (complete (needed book e)) refl (too_few (point_of book e).method (y_of book e) (length (eligible_days book e))) refl h
  where
    go : (t : Bool) → complete (needed book e) ≡ t → (u : Bool) → too_few (point_of book e).method (y_of book e) (length (eligible_days book e)) ≡ u → cond {A = Option ℕ} t (cond u (some 9) none) (some 8) ≡ none → Settles book e
    go true p false q h = record { known = p; enough = q }
    go true p true q h = let z : ◌≡◌ {A = ℕ} 0 1 = cc in absurd (omega arith)
    go false p true q h = let z : ◌≡◌ {A = ℕ} 0 1 = cc in absurd (omega arith)
    go false p false q h = let z : ◌≡◌ {A = ℕ} 0 1 = cc in absurd (omega arith)

-- each engagement of a book that is not refused
settle-from : (book : Book) (i : ℕ) (es : List Engagement) → refusal_from book i es ≡ none → (e : Engagement) → Memᴰ e es → Settles book e
unfolding refusal_from row_refusal
settle-from book i [] h e m = absurd (Memᴰ.not-nil m)
settle-from book i (f ∷ es) h e m = go (refusal_number book f) refl h (settle-from book (suc i) es)
  where
    go : (r : Option ℕ) → refusal_number book f ≡ r → row_refusal i r (refusal_from book (suc i) es) ≡ none → (refusal_from book (suc i) es ≡ none → (e : Engagement) → Memᴰ e es → Settles book e) → Settles book e
    go (some n) p h ih = let z : ◌≡◌ {A = ℕ} 0 1 = cc in absurd (omega arith)
    go none p h ih = ⊎_elim (λ q. settles book e (ap (refusal_number book) q ∙ p)) (λ k. ih h e k) (Memᴰ.cases_cons m)

pub all-settle : (book : Book) → settlement_refusal book ≡ none → (e : Engagement) → Memᴰ e book.engagements → Settles book e
unfolding settlement_refusal
all-settle book h = settle-from book 0 book.engagements h

-- by method 1 or 2 such an engagement takes exactly X days
enough-days : (m : Method) (y n : ℕ) → (m ≡ LastQuarter → ⊥) → too_few m y n ≡ false → y ≤ n
unfolding too_few
enough-days LastQuarter y n h e = absurd (h refl)
enough-days HighXOfY y n h e = ltb-false n y e
enough-days Adjusted y n h e = ltb-false n y e

pub takes-x : (book : Book) (e : Engagement) → Settles book e → ((point_of book e).method ≡ LastQuarter → ⊥) → x_of book e ≤ y_of book e → length (taken book e) ≡ x_of book e
takes-x book e h m k = taken-length book e k (enough-days (point_of book e).method (y_of book e) (length (eligible_days book e)) m h.enough)

-- the refusal of the engagements from row i on: none after the last, else that of row i or of those after it
unfoldable pub refusal_at : Book → ℕ → Option Refusal
refusal_at book i = refusal_from book i (drop i book.engagements)

pub refusal-all : (book : Book) → settlement_refusal book ≡ refusal_at book 0
unfolding settlement_refusal refusal_at
refusal-all book = refl

pub refusal-end : (book : Book) (i : ℕ) → length book.engagements ≤ i → refusal_at book i ≡ none
unfolding refusal_at refusal_from
refusal-end book i h = rw (drop_of_length-le book.engagements h)

pub refusal-next : (book : Book) (i j : ℕ) (e : Engagement) → j ≡ i + 1 → i < length book.engagements → refusal_at book i ≡ row_refusal i (refusal_number book (get_or book.engagements i e)) (refusal_at book j)
unfolding refusal_at refusal_from
refusal-next book i j e f h = let n : j ≡ suc i = omega arith in rw (drop-cons book.engagements i e h, n)

-- a row has its width, and the rows are as many as the engagements' quarter-hours
pub row-length : (book : Book) (e : Engagement) (k : ℕ) → length (row book e k) ≡ row_width
unfolding row corrections
row-length book e k = refl

pub rows_of-length : (book : Book) (e : Engagement) → length (rows_of book e) ≡ row_width * e.count
unfolding rows_of quarter_hours
rows_of-length book e = length-flat_map row_width (row book e) (row-length book e) (range 0 e.count) ∙ ap (λ n. row_width * n) (length-range 0 e.count)

pub rows-length-of : (book : Book) (es : List Engagement) → length (flat_map (rows_of book) es) ≡ row_width * sum_of (λ e. e.count) es
unfolding flat_map sum_by
rows-length-of book [] = refl
rows-length-of book (e ∷ es) = simp (length-append, rows_of-length, rows-length-of book es) (omega arith)

pub rows-length : (book : Book) → length (rows book) ≡ row_width * row_count book
unfolding rows row_count
rows-length book = rows-length-of book book.engagements

-- the rows that the first i engagements count and one more, and those of the first k quarter-hours of an engagement and one more
pub count_next : (es : List Engagement) (i : ℕ) (e : Engagement) → i < length es → sum_of (λ e. e.count) (take (suc i) es) ≡ sum_of (λ e. e.count) (take i es) + (get_or es i e).count
unfolding sum_by
count_next es i e h = ap (sum_of (λ e. e.count)) (take-suc es i e h) ∙ sum-append naturals (λ e. e.count) (take i es) (get_or es i e ∷ []) ∙ omega arith

pub row_next : (book : Book) (e : Engagement) (k : ℕ) → flat_map (row book e) (range 0 (suc k)) ≡ flat_map (row book e) (range 0 k) ++ row book e k
unfolding flat_map
row_next book e k = ap (flat_map (row book e)) (range-next 0 k ∙ ap (λ n. range 0 k ++ (n ∷ [])) (omega arith)) ∙ flat_map-append (row book e) (range 0 k) (k ∷ []) ∙ ap (λ l. flat_map (row book e) (range 0 k) ++ l) (append-nil (row book e k))

-- with a buffer that is long enough refusals 1 to 9 decide
pub settling-long : (bytes : List ℕ) (lent : ℕ) → row_width * row_count (book_of bytes) ≤ lent → settling_refusal bytes lent ≡ book_refusal bytes
unfolding settling_refusal or_else
settling-long bytes lent h = rw (le-leb (row_width * row_count (book_of bytes)) lent h) (else-none (book_refusal bytes))

pub accepted : (bytes : List ℕ) → Accepted bytes → book_refusal bytes ≡ none
unfolding Accepted
accepted bytes a = sym (settling-long bytes (row_width * row_count (book_of bytes)) (omega arith)) ∙ a

-- an accepted book passes 1 to 7, and is not refused with 8 or 9
pub record Passing (bytes : List ℕ) : Type 0 where
  pub passed : refusal_of bytes ≡ none
  pub settled : settlement_refusal (book_of bytes) ≡ none

pub passing : (bytes : List ℕ) → book_refusal bytes ≡ none → Passing bytes
unfolding book_refusal
passing bytes e =
    let later = settlement_refusal (book_of bytes) in
    record { passed = not_first (refusal_of bytes) later e; settled = not-later (refusal_of bytes) later e }
