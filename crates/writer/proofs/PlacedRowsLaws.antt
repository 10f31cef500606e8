-- Laws about rows that are told by their places: numbers are a file's rows where the first six are a row, and each six behind them are one that may stand behind the six before (`rows-some`): judged all together
-- or one behind the other, rows pass the same tests (`rows_behind`). They stand for whoever goes by places; the writer goes by SixesLaws.
use Rattle.std.specs.Prelude.{◌≡◌, refl, Bool, true, false, ◌&&◌, List, eqb, ltb, length, get_or}
use Rattle.std.proofs.Math.Path.{ap}
use Rattle.std.proofs.Common.{◌∙◌, arith, ltb-true, lt-ltb, eq-eqb}
use Rattle.std.proofs.Math.Bool.{and-true}
use Prim.Native.Nat.{ℕ, zero, suc, ◌+◌, ◌-◌, ◌/◌, ◌%◌, ◌^◌, ◌≤◌}
use Rattle.integers.proofs.TestsLaws.{and_left, and_right}
use Rattle.kinds.specs.declared.Kind.{Kind}
use Rattle.message.specs.Contents.{Observation}
use Rattle.message.specs.Valid.{last_position}
use Rattle.message.specs.Reading.{is_period}
use Rattle.message.specs.Rows.{rows_from, rows_in, zeros, in_sixes}
use Rattle.writer.specs.Order.{every, follow, ordered}
use Rattle.writer.specs.Rows.{is_observation, is_directions, is_number, is_row, later, later_directions, directions_before, row_before, of_month, is_rows}
use Rattle.writer.proofs.PlacedInner.{row_at, six_at, behind, Directed}

-- ---- two rows

pub directions-same : (k : Kind) (x y : (ℕ × ℕ) × Observation) → (eqb x.0.0 y.0.0 && eqb x.0.1 y.0.1) ≡ true → ltb x.1.position y.1.position ≡ directions_before k x y
unfolding later
directions-same k x y e = rw e

pub directions-other : (k : Kind) (x y : (ℕ × ℕ) × Observation) → (eqb x.0.0 y.0.0 && eqb x.0.1 y.0.1) ≡ false → later_directions k x.0 y.0 ≡ directions_before k x y
directions-other k x y e = rw e

-- ---- a row and those behind it

module _ (k : Kind) (last : ℕ) (l : List ℕ) where
  pub row-directed : (at : ℕ) → is_row k last (row_at l at) ≡ true → Directed l at
  unfolding is_directions
  row-directed at e =
      let r = row_at l at in
      let b = and_right (is_number k r.0) (is_directions r.1.0 && is_observation last r.1.1) e in
      let p = and_left (is_directions r.1.0) (is_observation last r.1.1) b in
      record {
        supply = ltb-true r.1.0.0 2 (and_left (ltb r.1.0.0 2) (ltb r.1.0.1 2) p);
        delivery = ltb-true r.1.0.1 2 (and_right (ltb r.1.0.0 2) (ltb r.1.0.1 2) p);
      }

  pub six-directions : (at : ℕ) → six_at k last l at ≡ true → Directed l at
  unfolding six_at
  six-directions at e = row-directed at (and_left (is_row k last (row_at l at)) (eqb (get_or l (at + 5) 0) 0) e)

  pub behind-none : (at n : ℕ) → n ≡ 0 → behind k last l at n ≡ true
  unfolding behind
  behind-none at n e = rw e

  pub behind-not-six : (at n : ℕ) → 1 ≤ n → six_at k last l (at + 6) ≡ false → behind k last l at n ≡ false
  unfolding behind
  behind-not-six at zero h e = absurd (omega arith)
  behind-not-six at (suc n) h e = rw e

  pub behind-not-before : (at n : ℕ) → 1 ≤ n → six_at k last l (at + 6) ≡ true → row_before k (row_at l at) (row_at l (at + 6)) ≡ false → behind k last l at n ≡ false
  unfolding behind
  behind-not-before at zero h e f = absurd (omega arith)
  behind-not-before at (suc n) h e f = ap (λ (b : Bool). (b && row_before k (row_at l at) (row_at l (at + 6))) && behind k last l (at + 6) n) e ∙ ap (λ (b : Bool). b && behind k last l (at + 6) n) f

  pub behind-next : (at n m : ℕ) → n ≡ suc m → six_at k last l (at + 6) ≡ true → row_before k (row_at l at) (row_at l (at + 6)) ≡ true → behind k last l at n ≡ behind k last l (at + 6) m
  unfolding behind
  behind-next at n m h e f =
      ap (behind k last l at) h ∙ ap (λ (b : Bool). (b && row_before k (row_at l at) (row_at l (at + 6))) && behind k last l (at + 6) m) e
      ∙ ap (λ (b : Bool). b && behind k last l (at + 6) m) f

-- ---- the whole

turn : (z r Z E b F : Bool) → ((z && Z) && ((r && E) && (b && F))) ≡ ((r && z) && (b && (Z && (E && F))))
turn true true Z E true F = refl
turn true true true true false F = refl
turn true true true false false F = refl
turn true true false E false F = refl
turn true false true E b F = refl
turn true false false E b F = refl
turn false true Z E b F = refl
turn false false Z E b F = refl

last_one : (z r : Bool) → ((z && true) && ((r && true) && true)) ≡ ((r && z) && true)
last_one true true = refl
last_one true false = refl
last_one false true = refl
last_one false false = refl

inside : (b r n : Bool) → (b && (r && n)) ≡ ((r && b) && n)
inside true r n = rw (and-true r)
inside false true n = refl
inside false false n = refl

pub rows_behind : (k : Kind) (last : ℕ) (l : List ℕ) (at n : ℕ)
    → (zeros l at (suc n) && (every (is_row k last) (rows_from l at (suc n)) && follow (row_before k) (row_at l at) (rows_from l (at + 6) n))) ≡ (six_at k last l at && behind k last l at n)
unfolding zeros every rows_from follow six_at behind
rows_behind k last l at zero = last_one (eqb (get_or l (at + 5) 0) 0) (is_row k last (row_at l at))
rows_behind k last l at (suc n) =
    turn (eqb (get_or l (at + 5) 0) 0) (is_row k last (row_at l at)) (zeros l (at + 6) (suc n)) (every (is_row k last) (rows_from l (at + 6) (suc n))) (row_before k (row_at l at) (row_at l (at + 6)))
    (follow (row_before k) (row_at l (at + 6)) (rows_from l (at + 6 + 6) n))
    ∙ ap (λ (t : Bool). six_at k last l at && (row_before k (row_at l at) (row_at l (at + 6)) && t)) (rows_behind k last l (at + 6) n)
    ∙ ap (λ (t : Bool). six_at k last l at && t) (inside (row_before k (row_at l at) (row_at l (at + 6))) (six_at k last l (at + 6)) (behind k last l (at + 6) n))

past : (a b c : Bool) → (a && (b && c)) ≡ (b && (a && c))
past true b c = refl
past false true c = refl
past false false c = refl

module _ (k : Kind) (receiver year month : ℕ) (l : List ℕ) where
  pieces : (m n : ℕ) → m ≡ suc n
      → (zeros l 0 m && of_month k year month (rows_from l 0 m)) ≡ (is_period (year, month) && (six_at k (last_position year month) l 0 && behind k (last_position year month) l 0 n))
  unfolding of_month rows_from ordered
  pieces m n e =
      ap (λ (j : ℕ). zeros l 0 j && of_month k year month (rows_from l 0 j)) e
      ∙ past (zeros l 0 (suc n)) (is_period (year, month))
      (every (is_row k (last_position year month)) (rows_from l 0 (suc n)) && follow (row_before k) (row_at l 0) (rows_from l 6 n))
      ∙ ap (λ (b : Bool). is_period (year, month) && b) (rows_behind k (last_position year month) l 0 n)

  pub rows-some : receiver ≤ 9999999999 → length l % 6 ≡ 0 → 6 ≤ length l
      → is_rows k receiver year month l ≡ (is_period (year, month) && (six_at k (last_position year month) l 0 && behind k (last_position year month) l 0 (length l / 6 - 1)))
  unfolding is_rows in_sixes rows_in
  rows-some h w s =
      ap (λ (b : Bool). b && ((eqb (length l % 6) 0 && zeros l 0 (length l / 6)) && of_month k year month (rows_from l 0 (length l / 6)))) (lt-ltb receiver (10 ^ 10) (omega arith))
      ∙ ap (λ (b : Bool). (b && zeros l 0 (length l / 6)) && of_month k year month (rows_from l 0 (length l / 6))) (eq-eqb (length l % 6) 0 w)
      ∙ pieces (length l / 6) (length l / 6 - 1) (omega arith)
