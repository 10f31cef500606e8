-- The numbers and items that a book is refused with: 1, 2, 4 to 9, and rows and points below 512. "Refusal 3 then never occurs": none has that number.
use Rattle.std.specs.Prelude.{◌≡◌, refl, Bool, true, false, cond, ◌&&◌, List, [], ◌∷◌, ℕ, zero, suc, ◌+◌, ◌*◌, ◌/◌, ◌≤◌, ◌<◌, length}
use Rattle.std.proofs.Math.Option.{Option, none, some}
use Rattle.std.proofs.Math.Nat.{div-le_of_le-mul}
use Rattle.std.proofs.Common.{arith}
use Rattle.std.proofs.lemmas.List.{length-map}
use Rattle.integers.specs.First.{first}
use Rattle.integers.specs.Ranges.{range}
use Rattle.integers.proofs.RangesLaws.{length-range}
use Rattle.refusals.specs.Refusals.{unless_found, short}
use Rattle.refusals.specs.RefusalsLaws.{Each, each-unless, each-found, each-else, each-short}
use Rattle.quarters.specs.declared.Calendar.{Calendar}
use Rattle.quarters.specs.Quarters.{days_of, quarters_of}
use Rattle.book.specs.declared.Engagement.{Engagement}
use Rattle.book.specs.Header.{version_of, calendar_of, point_count, engagement_count, header_good, layout_good, calendar_section, table_section, register_section, reading_section, engagement_section}
use Rattle.book.specs.HeaderLaws.{headed}
use Rattle.book.specs.Tables.{calendar_good, table_good}
use Rattle.book.specs.Register.{bad_point}
use Rattle.book.specs.Metering.{bad_reading, point_of_reading, first_bad_reading}
use Rattle.book.specs.Engagements.{bad_engagement, engagement_at}
use Rattle.book.specs.Judged.{rows_refusal, sections_refusal, refusal_of}
use Rattle.book.specs.Book.{Book, book_of}
use Rattle.volumes.specs.Baseline.{point_of, complete, eligible_days, y_of}
use Rattle.volumes.specs.Settlement.{needed, too_few, refusal_number, row_refusal, refusal_from, settlement_refusal, row_width, row_count, book_refusal, settling_refusal}
use Rattle.volumes.proofs.SoundLaws.{passes}

-- a number of document 01's table but 3, and an item that a book, or a buffer, can have
pub record Listed (number item : ℕ) : Type 0 where
  pub most : number ≤ 13
  pub not_three : number ≡ 3 → ⊥
  pub few : item ≤ 512

-- ---- where a search ends

some_same : {i j : ℕ} → some i ≡ some j → i ≡ j
some_same e = cc

none-some : {A : Type 0} {i : ℕ} → ◌≡◌ {A = Option ℕ} none (some i) → A
none-some e = let z : ◌≡◌ {A = ℕ} 0 1 = cc in absurd (omega arith)

first_below : (test : ℕ → Bool) (a n i : ℕ) → first test a n ≡ some i → i < a + n
unfolding first
first_below test a zero i e = none-some e
first_below test a (suc n) i e = go (test a) e (first_below test (suc a) n i)
  where
    go : (b : Bool) → cond b (some a) (first test (suc a) n) ≡ some i → (first test (suc a) n ≡ some i → i < suc a + n) → i < a + suc n
    go true e k = omega (arith, some_same e)
    go false e k = omega (arith, k e)

reading-below : (quarters : ℕ) (test : ℕ → Bool) (n i : ℕ) → point_of_reading quarters (first test 0 (quarters * n)) ≡ some i → i ≤ n
reading-below quarters test n i e = go (first test 0 (quarters * n)) refl e
  where
    go : (f : Option ℕ) → first test 0 (quarters * n) ≡ f → point_of_reading quarters f ≡ some i → i ≤ n
    go none p e = none-some e
    go (some k) p e =
        let h : k < 0 + quarters * n = first_below test 0 (quarters * n) k p in
        let l : k / quarters ≤ n = div-le_of_le-mul quarters (omega arith) in
        omega (arith, some_same e)

-- ---- refusals 1 to 7

points-listed : (version : ℕ) (c : Calendar) (points rows : ℕ) (register readings engagements : List ℕ) → points ≤ 256 → rows ≤ 512 → Each Listed (rows_refusal version c points rows register readings engagements)
unfolding rows_refusal first_bad_reading
points-listed version c points rows register readings engagements h k =
    let engaged = first (bad_engagement c points engagements) 0 rows in
    let read = first_bad_reading c readings points in
    let registered = first (bad_point version (days_of c) register) 0 points in
    each-found Listed registered 5 (unless_found read 6 (unless_found engaged 7 none)) (λ i e. record { most = omega arith; not_three = λ z. omega arith; few = omega (arith, first_below (bad_point version (days_of c) register) 0 points i e) })
    (each-found Listed read 6 (unless_found engaged 7 none) (λ i e. record { most = omega arith; not_three = λ z. omega arith; few = omega (arith, reading-below (quarters_of c) (bad_reading readings) points i e) })
    (each-found Listed engaged 7 none (λ i e. record { most = omega arith; not_three = λ z. omega arith; few = omega (arith, first_below (bad_engagement c points engagements) 0 rows i e) }) tt))

-- one with item 0
pub listed-zero : (number : ℕ) → number ≤ 13 → (number ≡ 3 → ⊥) → Listed number 0
listed-zero number h n = record { most = h; not_three = n; few = omega arith }

judged-listed : (bytes : List ℕ) → Each Listed (refusal_of bytes)
unfolding refusal_of sections_refusal
judged-listed bytes =
    each-unless Listed (header_good bytes) 1 _ (listed-zero 1 (omega arith) (λ z. omega arith)) (λ e.
    each-unless Listed (layout_good bytes) 2 _ (listed-zero 2 (omega arith) (λ z. omega arith)) (λ f.
    each-unless Listed (calendar_good (calendar_section bytes) && table_good (table_section bytes)) 4 _ (listed-zero 4 (omega arith) (λ z. omega arith)) (λ k.
    points-listed (version_of bytes) (calendar_of bytes) (point_count bytes) (engagement_count bytes) (register_section bytes) (reading_section bytes) (engagement_section bytes) (headed bytes e).points (headed bytes e).rows)))

-- ---- 8 and 9

row_listed : (book : Book) (e : Engagement) (row : ℕ) → row ≤ 512 → (n : ℕ) → refusal_number book e ≡ some n → Listed n row
unfolding refusal_number
row_listed book e row h n p = go (complete (needed book e)) (too_few (point_of book e).method (y_of book e) (length (eligible_days book e))) p
  where
    go : (a b : Bool) → cond a (cond b (some 9) none) (some 8) ≡ some n → Listed n row
    go true true q = let s = some_same q in record { most = omega arith; not_three = λ z. omega arith; few = h }
    go true false q = none-some q
    go false b q = let s = some_same q in record { most = omega arith; not_three = λ z. omega arith; few = h }

rows-listed : (book : Book) (row : ℕ) (es : List Engagement) → row + length es ≤ 512 → Each Listed (refusal_from book row es)
unfolding refusal_from row_refusal
rows-listed book row [] h = tt
rows-listed book row (e ∷ es) h = go (refusal_number book e) refl (rows-listed book (suc row) es (omega arith))
  where
    go : (n : Option ℕ) → refusal_number book e ≡ n → Each Listed (refusal_from book (suc row) es) → Each Listed (row_refusal row n (refusal_from book (suc row) es))
    go none p k = k
    go (some n) p k = row_listed book e row (omega arith) n p

engagements-few : (bytes : List ℕ) → refusal_of bytes ≡ none → length (book_of bytes).engagements ≤ 512
unfolding book_of
engagements-few bytes e =
    let n = length-map (range 0 (engagement_count bytes)) (engagement_at (engagement_section bytes)) in
    omega (arith, n, length-range 0 (engagement_count bytes), (headed bytes (passes bytes e).header).rows)

-- ---- 1 to 9, and a settling's 10

pub book-listed : (bytes : List ℕ) → Each Listed (book_refusal bytes)
unfolding book_refusal settlement_refusal
book-listed bytes =
    each-else Listed (refusal_of bytes) (settlement_refusal (book_of bytes)) (judged-listed bytes) (λ e. rows-listed (book_of bytes) 0 (book_of bytes).engagements (omega (arith, engagements-few bytes e)))

-- a short buffer of item 0 or 1
pub listed-short : (item answer lent : ℕ) → item ≤ 1 → Each Listed (short item answer lent)
listed-short item answer lent h = each-short Listed item answer lent (record { most = omega arith; not_three = λ z. omega arith; few = omega arith })

pub settling-listed : (bytes : List ℕ) (lent : ℕ) → Each Listed (settling_refusal bytes lent)
unfolding settling_refusal
settling-listed bytes lent = each-else Listed (book_refusal bytes) _ (book-listed bytes) (λ e. listed-short 0 (row_width * row_count (book_of bytes)) lent (omega arith))
