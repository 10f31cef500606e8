-- Rows go behind one another: what several leave, and what all of them leave where they have room.
use Rattle.std.specs.Prelude.{◌≡◌, refl, Bool, true, false, cond, ℕ, ◌+◌, ◌-◌, ◌*◌, ◌/◌, ◌%◌, ◌^◌, ◌<◌, ◌≤◌, length, ltb}
use Rattle.std.proofs.lemmas.Bool.Decides.{nat_tests}
use Rattle.std.proofs.Common.{sym, ap, ◌∙◌, arith, lt-ltb}
use mathlib.Core.List.{List, [], ◌∷◌, ◌++◌, flat_map}
use Rattle.text.specs.WrittenInner.{written}
use Rattle.text.proofs.WrittenLaws.{written-nil, written_both, length-written}
use Rattle.message.specs.Rows.{Row, row_numbers, numbers}
use Rattle.message.proofs.SixesLaws.{length-numbers}
use Rattle.series_reader.specs.declared.rows.Rows.{Rows}
use borrow.Rule.Slice.PartMut.{put_mid}
use mir.Val.{bool_byte}
use Rattle.text.proofs.WrittenLaws.{written-copied}
use Rattle.passages.specs.declared.ReadObservation.{ReadObservation}
use Rattle.series_reader.specs.declared.rows.Key.{Key}
use Rattle.passages.specs.ViewsInner.{bit}
use Rattle.series_reader.specs.RowsInner.{with_row, with_rows, Lent, Pushed}

-- ---- the same numbers

pub lent-self : (a : Rows) → Lent a a
lent-self a = record { same = refl; long = refl }

pub lent-both : {a b c : Rows} → Lent a b → Lent b c → Lent a c
lent-both h i = record { same = i.same ∙ h.same; long = i.long ∙ h.long }

-- ---- one behind the other

pub with-both : (a b : List Row) (h : List ℕ × ℕ) → with_rows (a ++ b) h ≡ with_rows b (with_rows a h)
unfolding with_rows
with-both [] b h = refl
with-both (r ∷ a) b h = with-both a b (with_row r h)

-- ---- where all have room

six : (r : Row) → length (row_numbers r) ≡ 6
unfolding row_numbers
six r = refl

row-fits : (r : Row) (l : List ℕ) (k : ℕ) → 6 * (k + 1) ≤ length l → k + 1 < 2 ^ 64 → with_row r (l, k) ≡ (written l (k * 6) (row_numbers r), k + 1)
unfolding with_row
row-fits r l k room small =
    let t : ltb k (length l / 6) ≡ true = lt-ltb k (length l / 6) (omega arith) in
    let n : (k + 1) % 2 ^ 64 ≡ k + 1 = omega arith in
    λ i. (cond (t i) (written l (k * 6) (row_numbers r)) l, n i)

pub rows-fit : (rows : List Row) (l : List ℕ) (k : ℕ) → 6 * (k + length rows) ≤ length l → k + length rows < 2 ^ 64 → with_rows rows (l, k) ≡ (written l (k * 6) (numbers rows), k + length rows)
unfolding with_rows numbers flat_map
rows-fit [] l k room small = let n : k ≡ k + 0 = omega arith in λ i. (sym (written-nil l (k * 6)) i, n i)
rows-fit (r ∷ rows) l k room small =
    let first = row-fits r l k (omega arith) (omega arith) in
    let m = written l (k * 6) (row_numbers r) in
    let long : length m ≡ length l = length-written l (k * 6) (row_numbers r) (omega (arith, six r)) in
    let next : (k + 1) * 6 ≡ k * 6 + length (row_numbers r) = omega (arith, six r) in
    let all : written m ((k + 1) * 6) (numbers rows) ≡ written l (k * 6) (numbers (r ∷ rows)) =
    ap (λ (n : ℕ). written m n (numbers rows)) next ∙ written_both l (k * 6) (row_numbers r) (numbers rows) (omega (arith, six r, length-numbers rows)) in
    let count : k + 1 + length rows ≡ k + length (r ∷ rows) = omega arith in
    ap (with_rows rows) first ∙ rows-fit rows m (k + 1) (omega (arith, long)) (omega arith) ∙ (λ i. (all i, count i))

-- how many rows were read, whether they had room or not
pub rows-counted : (rows : List Row) (h : List ℕ × ℕ) → h.1 + length rows < 2 ^ 64 → (with_rows rows h).1 ≡ h.1 + length rows
unfolding with_rows with_row
rows-counted [] h small = omega arith
rows-counted (r ∷ rows) h small =
    let n : (h.1 + 1) % 2 ^ 64 ≡ h.1 + 1 = omega arith in
    omega (arith, rows-counted rows (with_row r h) (omega arith), n)

-- ---- a direction, as a row has it

pub bit_told : (b : Bool) → bool_byte b ≡ bit b
bit_told true = refl
bit_told false = refl

-- ---- a row, by the code's copy

no-room : (k n : ℕ) → n ≤ k → ltb k n ≡ false
no-room k n h = grind (arith, nat_tests)

pub added-none : (k : Key) (o : ReadObservation) (a b : Rows) → length a.numbers.now / 6 ≤ a.count → b.numbers.ghost_name ≡ a.numbers.ghost_name → b.numbers.now ≡ a.numbers.now → b.count ≡ (a.count + 1) % 2 ^ 64 → Pushed k o a b
unfolding with_row
added-none k o a b full name numbers count =
    record {
      lent = record { same = name; long = ap length numbers };
      row = rw (no-room a.count (length a.numbers.now / 6) full) (λ i. (numbers i, count i));
    }

pub added-row : (k : Key) (o : ReadObservation) (a b : Rows) (row : List ℕ) → a.count < length a.numbers.now / 6 → row ≡ k.partner ∷ k.supply ∷ k.delivery ∷ o.position ∷ o.watts ∷ 0 ∷ []
    → b.numbers.ghost_name ≡ a.numbers.ghost_name → b.numbers.now ≡ put_mid (a.count * 6) (a.count * 6 + 6 - a.count * 6) a.numbers.now row → b.count ≡ (a.count + 1) % 2 ^ 64 → Pushed k o a b
unfolding with_row row_numbers
added-row k o a b row room is name numbers count =
    let six : List ℕ = k.partner ∷ k.supply ∷ k.delivery ∷ o.position ∷ o.watts ∷ 0 ∷ [] in
    let all : b.numbers.now ≡ written a.numbers.now (a.count * 6) six = numbers ∙ written-copied a.numbers.now six row (a.count * 6) (a.count * 6 + 6 - a.count * 6) (omega arith) is in
    record {
      lent = record { same = name; long = ap length all ∙ length-written a.numbers.now (a.count * 6) six (omega arith) };
      row = rw (lt-ltb a.count (length a.numbers.now / 6) room) (λ i. (all i, count i));
    }
