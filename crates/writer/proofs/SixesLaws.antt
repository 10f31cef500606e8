-- Rows as arrays of six numbers are the rows of the numbers; judged so, they are judged.
use Rattle.std.specs.Prelude.{◌≡◌, refl, Bool, true, false, ◌&&◌, ◌||◌, List, [], ◌∷◌, map, ℕ, zero, suc, ◌+◌, ◌*◌, ◌/◌, ◌%◌, ◌^◌, ◌<◌, ◌≤◌, eqb, ltb, length, get_or, take, drop}
use Rattle.std.proofs.Common.{sym, ap, ap₂, ◌∙◌, arith, add-zero, ltb-true, lt-ltb, le-ltb, eq-eqb, ne_eqb}
use Rattle.std.proofs.lemmas.List.{get_or-take, get_or-drop, drop-drop, length-map}
use Rattle.std.proofs.lemmas.Bool.Decides.{nat_tests}
use Rattle.std.specs.List.{list_all}
use Rattle.std.specs.Simd.{first_chunks}
use Rattle.integers.proofs.TestsLaws.{and_left, and_right}
use Rattle.kinds.specs.declared.Kind.{Kind}
use Rattle.message.specs.Valid.{last_position}
use Rattle.message.specs.Reading.{is_period}
use Rattle.message.specs.Rows.{Row, rows_from, rows_in, zeros, in_sixes}
use Rattle.writer.specs.Order.{every, follow, ordered}
use Rattle.writer.specs.Rows.{is_observation, is_directions, is_number, is_row, later_directions, row_before, of_month, is_rows}
use Rattle.writer.specs.RowsInner.{row_in, is_six, row_earlier}

-- ---- six by six

module _ (l : List ℕ) (k : ℕ) where
  six-at : (j : ℕ) → j < 6 → get_or l (k + j) 0 ≡ get_or (take 6 (drop k l)) j 0
  six-at j h = sym (get_or-take 6 (drop k l) j 0 h ∙ get_or-drop k l j 0)

  six-first : get_or l k 0 ≡ get_or (take 6 (drop k l)) 0 0
  six-first = ap (λ (i : ℕ). get_or l i 0) (sym (add-zero k)) ∙ six-at 0 (omega arith)

  six-rest : (n : ℕ) → first_chunks 6 n (drop (k + 6) l) ≡ first_chunks 6 n (drop 6 (drop k l))
  six-rest n = ap (first_chunks 6 n) (sym (drop-drop 6 k l))

  first-row : row_in (take 6 (drop k l)) ≡ (get_or l k 0, ((get_or l (k + 1) 0, get_or l (k + 2) 0), record { position = get_or l (k + 3) 0; watts = get_or l (k + 4) 0 }))
  first-row = rw (six-first, six-at 1 (omega arith), six-at 2 (omega arith), six-at 3 (omega arith), six-at 4 (omega arith))

pub rows-chunks : (l : List ℕ) (k n : ℕ) → rows_from l k n ≡ map row_in (first_chunks 6 n (drop k l))
unfolding rows_from
rows-chunks l k zero = refl
rows-chunks l k (suc n) =
    ap₂ (λ (r : Row) (rows : List Row). r ∷ rows) (sym (first-row l k)) (rows-chunks l (k + 6) n ∙ ap (map row_in) (six-rest l k n))

zeros-chunks : (l : List ℕ) (k n : ℕ) → zeros l k n ≡ list_all (λ a. eqb (get_or a 5 0) 0) (first_chunks 6 n (drop k l))
unfolding zeros
zeros-chunks l k zero = refl
zeros-chunks l k (suc n) =
    ap₂ (λ (i : ℕ) (b : Bool). eqb i 0 && b) (six-at l k 5 (omega arith)) (zeros-chunks l (k + 6) n ∙ ap (list_all (λ a. eqb (get_or a 5 0) 0)) (six-rest l k n))

-- ---- each a row

turn : (z r Z R : Bool) → ((z && Z) && (r && R)) ≡ ((r && z) && (Z && R))
turn true true Z R = refl
turn true false true R = refl
turn true false false R = refl
turn false true Z R = refl
turn false false Z R = refl

each-six : (k : Kind) (last : ℕ) (c : List (List ℕ)) → (list_all (λ a. eqb (get_or a 5 0) 0) c && every (is_row k last) (map row_in c)) ≡ list_all (is_six k last) c
unfolding every
each-six k last [] = refl
each-six k last (a ∷ c) =
    turn (eqb (get_or a 5 0) 0) (is_row k last (row_in a)) (list_all (λ a. eqb (get_or a 5 0) 0) c) (every (is_row k last) (map row_in c))
    ∙ ap (λ (b : Bool). is_six k last a && b) (each-six k last c)

-- ---- the order: of directions that are 0 or 1 it is that of their places

pair-test : (a b c d : ℕ) → b < 2 → d < 2 → (ltb a c || (eqb a c && ltb b d)) ≡ ltb (a * 2 + b) (c * 2 + d)
pair-test a b c d h i = grind (arith, nat_tests)

row-directions : (k : Kind) (last : ℕ) (r : Row) → is_row k last r ≡ true → r.1.0.1 < 2
unfolding is_directions
row-directions k last r e =
    let b = and_right (is_number k r.0) (is_directions r.1.0 && is_observation last r.1.1) e in
    ltb-true r.1.0.1 2 (and_right (ltb r.1.0.0 2) (ltb r.1.0.1 2) (and_left (is_directions r.1.0) (is_observation last r.1.1) b))

earlier-before : (k : Kind) (x y : Row) → x.1.0.1 < 2 → y.1.0.1 < 2 → row_earlier k x y ≡ row_before k x y
unfolding later_directions
earlier-before k x y h i = rw (pair-test x.1.0.0 x.1.0.1 y.1.0.0 y.1.0.1 h i)

module _ (k : Kind) (last : ℕ) where
  follow-earlier : (x : Row) (rows : List Row) → is_row k last x ≡ true → every (is_row k last) rows ≡ true → follow (row_earlier k) x rows ≡ follow (row_before k) x rows
  unfolding every follow
  follow-earlier x [] e f = refl
  follow-earlier x (y ∷ rows) e f =
      let g = and_left (is_row k last y) (every (is_row k last) rows) f in
      ap₂ (λ (a b : Bool). a && b) (earlier-before k x y (row-directions k last x e) (row-directions k last y g))
      (follow-earlier y rows g (and_right (is_row k last y) (every (is_row k last) rows) f))

  ordered-earlier : (rows : List Row) → every (is_row k last) rows ≡ true → ordered (row_earlier k) rows ≡ ordered (row_before k) rows
  unfolding every ordered
  ordered-earlier [] e = refl
  ordered-earlier (x ∷ rows) e =
      follow-earlier x rows (and_left (is_row k last x) (every (is_row k last) rows) e) (and_right (is_row k last x) (every (is_row k last) rows) e)

  rows-earlier : (rows : List Row) → (every (is_row k last) rows && ordered (row_before k) rows) ≡ (every (is_row k last) rows && ordered (row_earlier k) rows)
  rows-earlier rows = go (every (is_row k last) rows) refl
    where
      go : (b : Bool) → every (is_row k last) rows ≡ b → (b && ordered (row_before k) rows) ≡ (b && ordered (row_earlier k) rows)
      go true e = sym (ordered-earlier rows e)
      go false e = refl

-- ---- the whole

past : (z p r o : Bool) → (z && (p && (r && o))) ≡ (p && ((z && r) && o))
past true p r o = refl
past false true r o = refl
past false false r o = refl

module _ (k : Kind) (receiver year month : ℕ) (l : List ℕ) where
  pub rows-far : 9999999999 < receiver → is_rows k receiver year month l ≡ false
  unfolding is_rows
  rows-far h = rw (le-ltb receiver (10 ^ 10) (omega arith))

  pub rows-odd : receiver ≤ 9999999999 → (length l % 6 ≡ 0 → ⊥) → is_rows k receiver year month l ≡ false
  unfolding is_rows in_sixes
  rows-odd h n = rw (lt-ltb receiver (10 ^ 10) (omega arith), ne_eqb (length l % 6) 0 n)

  pub rows_none : receiver ≤ 9999999999 → length l ≡ 0 → is_rows k receiver year month l ≡ (eqb year 0 && eqb month 0)
  unfolding is_rows in_sixes rows_in rows_from zeros of_month
  rows_none h e = rw (lt-ltb receiver (10 ^ 10) (omega arith), e)

  month-some : (rows : List Row) → 1 ≤ length rows → of_month k year month rows ≡ (is_period (year, month) && (every (is_row k (last_position year month)) rows && ordered (row_before k) rows))
  unfolding of_month
  month-some [] h = absurd (omega arith)
  month-some (r ∷ rows) h = refl

  pieces : (c : List (List ℕ)) → 1 ≤ length c
      → (list_all (λ a. eqb (get_or a 5 0) 0) c && of_month k year month (map row_in c))
      ≡ (is_period (year, month) && (list_all (is_six k (last_position year month)) c && ordered (row_earlier k) (map row_in c)))
  pieces c h =
      let last = last_position year month in
      let z = list_all (λ (a : List ℕ). eqb (get_or a 5 0) 0) c in
      ap (λ (b : Bool). z && b) (month-some (map row_in c) (omega (arith, length-map c row_in)))
      ∙ ap (λ (b : Bool). z && (is_period (year, month) && b)) (rows-earlier k last (map row_in c))
      ∙ past z (is_period (year, month)) (every (is_row k last) (map row_in c)) (ordered (row_earlier k) (map row_in c))
      ∙ ap (λ (b : Bool). is_period (year, month) && (b && ordered (row_earlier k) (map row_in c))) (each-six k last c)

  pub rows-some : {c : List (List ℕ)} → c ≡ first_chunks 6 (length l / 6) l → 1 ≤ length c → receiver ≤ 9999999999 → length l % 6 ≡ 0
      → is_rows k receiver year month l ≡ (is_period (year, month) && (list_all (is_six k (last_position year month)) c && ordered (row_earlier k) (map row_in c)))
  unfolding is_rows in_sixes rows_in
  rows-some {c} e s h w =
      let n = length l / 6 in
      ap (λ (b : Bool). b && ((eqb (length l % 6) 0 && zeros l 0 n) && of_month k year month (rows_from l 0 n))) (lt-ltb receiver (10 ^ 10) (omega arith))
      ∙ ap (λ (b : Bool). (b && zeros l 0 n) && of_month k year month (rows_from l 0 n)) (eq-eqb (length l % 6) 0 w)
      ∙ ap₂ (λ (z : Bool) (rows : List Row). z && of_month k year month rows) (zeros-chunks l 0 n ∙ ap (list_all (λ a. eqb (get_or a 5 0) 0)) (sym e)) (rows-chunks l 0 n ∙ ap (map row_in) (sym e))
      ∙ pieces c s
