-- Rows as numbers, six each: numbers in sixes are those of their rows, and rows are those of their numbers.
use Rattle.std.specs.Prelude.{◌≡◌, refl, true, ℕ, zero, suc, ◌+◌, ◌*◌, ◌/◌, ◌%◌, ◌≤◌, ◌<◌, eqb, length, drop, get_or}
use Rattle.std.proofs.Common.{sym, ap, ap₂, ◌∙◌, length-append, drop_of_length-le, drop-cons, get_or-append-add, arith, add-zero, add-suc, eqb-true, eq-eqb}
use mathlib.Core.List.{List, [], ◌∷◌, ◌++◌, append_assoc, flat_map}
use Rattle.integers.proofs.TestsLaws.{and_left, and_right, and_both}
use Rattle.message.specs.Rows.{Row, row_numbers, numbers, rows_from, rows_in, zeros, in_sixes}

-- ---- numbers in sixes

cut : (l : List ℕ) (k j : ℕ) → k + j < length l → drop (k + j) l ≡ get_or l (k + j) 0 ∷ drop (k + suc j) l
cut l k j h = drop-cons l (k + j) 0 h ∙ ap (λ (n : ℕ). get_or l (k + j) 0 ∷ drop n l) (sym (add-suc k j))

six : (l : List ℕ) (k : ℕ) → k + 6 ≤ length l
    → drop k l ≡ get_or l k 0 ∷ get_or l (k + 1) 0 ∷ get_or l (k + 2) 0 ∷ get_or l (k + 3) 0 ∷ get_or l (k + 4) 0 ∷ get_or l (k + 5) 0 ∷ drop (k + 6) l
six l k h =
    ap (λ (n : ℕ). drop n l) (sym (add-zero k)) ∙ cut l k 0 (omega arith)
    ∙ ap₂ ◌∷◌ (ap (λ (n : ℕ). get_or l n 0) (add-zero k)) (cut l k 1 (omega arith)
    ∙ ap (λ (m : List ℕ). get_or l (k + 1) 0 ∷ m) (cut l k 2 (omega arith)
    ∙ ap (λ (m : List ℕ). get_or l (k + 2) 0 ∷ m) (cut l k 3 (omega arith)
    ∙ ap (λ (m : List ℕ). get_or l (k + 3) 0 ∷ m) (cut l k 4 (omega arith)
    ∙ ap (λ (m : List ℕ). get_or l (k + 4) 0 ∷ m) (cut l k 5 (omega arith))))))

sixes : (l : List ℕ) (k n : ℕ) → length l ≡ k + 6 * n → zeros l k n ≡ true → numbers (rows_from l k n) ≡ drop k l
unfolding numbers row_numbers rows_from zeros flat_map
sixes l k zero e z = sym (drop_of_length-le l {i = k} (omega arith))
sixes l k (suc n) e z =
    let f = eqb-true (get_or l (k + 5) 0) 0 (and_left (eqb (get_or l (k + 5) 0) 0) (zeros l (k + 6) n) z) in
    let r = sixes l (k + 6) n (omega arith) (and_right (eqb (get_or l (k + 5) 0) 0) (zeros l (k + 6) n) z) in
    ap₂ (λ (x : ℕ) (m : List ℕ). get_or l k 0 ∷ get_or l (k + 1) 0 ∷ get_or l (k + 2) 0 ∷ get_or l (k + 3) 0 ∷ get_or l (k + 4) 0 ∷ x ∷ m) (sym f) r
    ∙ sym (six l k (omega arith))

pub numbers-rows : (l : List ℕ) → in_sixes l ≡ true → numbers (rows_in l) ≡ l
unfolding rows_in in_sixes
numbers-rows l e =
    let m = eqb-true (length l % 6) 0 (and_left (eqb (length l % 6) 0) (zeros l 0 (length l / 6)) e) in
    sixes l 0 (length l / 6) (omega arith) (and_right (eqb (length l % 6) 0) (zeros l 0 (length l / 6)) e)

-- ---- the numbers of rows

pub length-numbers : (rows : List Row) → length (numbers rows) ≡ 6 * length rows
unfolding numbers row_numbers flat_map
length-numbers [] = refl
length-numbers (r ∷ rows) = omega (arith, length-numbers rows)

at : (p s : List ℕ) (j : ℕ) → get_or (p ++ s) (length p + j) 0 ≡ get_or s j 0
at p s j = get_or-append-add p s j 0

further : (p : List ℕ) (r : Row) (rows : List Row) → p ++ numbers (r ∷ rows) ≡ (p ++ row_numbers r) ++ numbers rows
unfolding numbers flat_map
further p r rows = sym (append_assoc p (row_numbers r) (numbers rows))

longer : (p : List ℕ) (r : Row) → length (p ++ row_numbers r) ≡ length p + 6
unfolding row_numbers
longer p r = length-append p (row_numbers r)

row_at : (p : List ℕ) (r : Row) (rows : List Row) → (let l = p ++ numbers (r ∷ rows) in
    (get_or l (length p) 0, ((get_or l (length p + 1) 0, get_or l (length p + 2) 0), record { position = get_or l (length p + 3) 0; watts = get_or l (length p + 4) 0 }))) ≡ r
unfolding numbers row_numbers flat_map
row_at p r rows =
    let s = numbers (r ∷ rows) in
    let a = ap (λ (n : ℕ). get_or (p ++ s) n 0) (sym (add-zero (length p))) ∙ at p s 0 in
    let b = at p s 1 in
    let c = at p s 2 in
    let d = at p s 3 in
    let e = at p s 4 in
    λ i. (a i, ((b i, c i), record { position = d i; watts = e i }))

rows_of : (p : List ℕ) (rows : List Row) → rows_from (p ++ numbers rows) (length p) (length rows) ≡ rows
unfolding rows_from
rows_of p [] = refl
rows_of p (r ∷ rows) =
    ap₂ ◌∷◌ (row_at p r rows)
    (ap₂ (λ (l : List ℕ) (k : ℕ). rows_from l k (length rows)) (further p r rows) (sym (longer p r)) ∙ rows_of (p ++ row_numbers r) rows)

pub rows-numbers : (rows : List Row) → rows_in (numbers rows) ≡ rows
unfolding rows_in
rows-numbers rows =
    let n : length (numbers rows) / 6 ≡ length rows = omega (arith, length-numbers rows) in
    ap (rows_from (numbers rows) 0) n ∙ rows_of [] rows

sixth : (p : List ℕ) (r : Row) (rows : List Row) → eqb (get_or (p ++ numbers (r ∷ rows)) (length p + 5) 0) 0 ≡ true
unfolding numbers row_numbers flat_map
sixth p r rows = eq-eqb _ 0 (at p (numbers (r ∷ rows)) 5)

zeros_of : (p : List ℕ) (rows : List Row) → zeros (p ++ numbers rows) (length p) (length rows) ≡ true
unfolding zeros
zeros_of p [] = refl
zeros_of p (r ∷ rows) =
    and_both (sixth p r rows)
    (ap₂ (λ (l : List ℕ) (k : ℕ). zeros l k (length rows)) (further p r rows) (sym (longer p r)) ∙ zeros_of (p ++ row_numbers r) rows)

pub numbers-sixes : (rows : List Row) → in_sixes (numbers rows) ≡ true
unfolding in_sixes
numbers-sixes rows =
    let n : length (numbers rows) / 6 ≡ length rows = omega (arith, length-numbers rows) in
    and_both (eq-eqb (length (numbers rows) % 6) 0 (omega (arith, length-numbers rows))) (ap (zeros (numbers rows) 0) n ∙ zeros_of [] rows)
