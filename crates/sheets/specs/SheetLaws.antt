-- One engagement after the other makes a party's sheet: each adds its corrections from its first cell on, and no cell wraps.
use Rattle.std.specs.Prelude.{◌≡◌, refl, false, pos, ◌+ℤ◌, take, drop, replicate}
use Rattle.std.proofs.Math.Path.{sym, ap}
use Rattle.std.proofs.Common.{◌∙◌, add-one, arith, take_all, take-suc}
use mathlib.Core.List.Memᴰ
use mathlib.Core.List.{List, [], ◌∷◌, ◌++◌, map}
use Prim.Native.Nat.{ℕ, ◌+◌, ◌≤◌, ◌<◌}
use Rattle.std.proofs.Math.IntN.{ℤ, +ℤ_idr}
use Rattle.std.proofs.Math.ListN.{length, get_or, take-append-drop, length-append, length-take, length-map, get_or-append}
use Rattle.integers.specs.Ranges.{range}
use Rattle.integers.specs.Sums.{integers, sum_by, sum_z}
use Rattle.quarters.specs.declared.Calendar.{Calendar}
use Rattle.book.specs.declared.Engagement.{Engagement}
use Rattle.book.specs.Book.{Book}
use Rattle.quarters.specs.Quarters.{month_quarters}
use Rattle.quarters.proofs.QuartersLaws.{cell-position}
use Rattle.volumes.specs.Quarters.{quarter_hours}
use Rattle.volumes.proofs.QuartersLaws.{position-inside}
use Rattle.volumes.specs.Sheets.{start_position, covers, correction_at, sheet_at, sheet}
use Rattle.volumes.proofs.SheetsLaws.{covers-before, covers-after}
use Rattle.volumes.specs.SoundInner.{Placed, Sound}
use Rattle.volumes.proofs.WidthsLaws.{sheet-part-fits}
use Rattle.sheets.specs.AddsInner.{adds, Addable}
use Rattle.sheets.specs.SharesInner.{corrections_for, first_cell}
use Rattle.sheets.specs.CellsLaws.{cells-length, cell, cells-zero, adds-cells}
use Rattle.sheets.specs.PartsInner.{part_at, sheet_to}
use Rattle.integers.proofs.RangesLaws.{length-range, get_d-made, map-range-cong}
use Rattle.integers.proofs.SumsLaws.{sum-append}

-- no engagement, and all of them
part_none : (book : Book) (party p : ℕ) → part_at book party 0 p ≡ pos 0
unfolding part_at sum_by
part_none book party p = refl

pub sheet-none : (book : Book) (party : ℕ) → sheet_to book party 0 ≡ replicate (month_quarters book.calendar) (pos 0)
unfolding sheet_to
sheet-none book party = cells-zero (part_at book party 0) (month_quarters book.calendar) (part_none book party)

pub sheet-all : (book : Book) (party i : ℕ) → length book.engagements ≤ i → sheet_to book party i ≡ sheet book party
unfolding sheet_to sheet part_at sheet_at
sheet-all book party i h =
    ap (λ (es : List Engagement). map (λ p. sum_z (correction_at book party p) es) (range 1 (month_quarters book.calendar))) (take_all i book.engagements h)

pub sheet_to-length : (book : Book) (party i : ℕ) → length (sheet_to book party i) ≡ month_quarters book.calendar
unfolding sheet_to
sheet_to-length book party i = cells-length (part_at book party i) (month_quarters book.calendar)

-- an engagement adds nothing where it doesn't reach
outside : (book : Book) (party p : ℕ) (e : Engagement) → covers book.calendar e p ≡ false → correction_at book party p e ≡ pos 0
unfolding correction_at
outside book party p e h = rw h

-- positions are counted from 1
pub first-cell : (c : Calendar) (e : Engagement) → start_position c e ≡ 1 + first_cell c e
first-cell c e = cell-position c e.day e.first

-- one engagement more
module _ (book : Book) (party i : ℕ) (e : Engagement) (h : i < length book.engagements) (named : get_or book.engagements i e ≡ e) where
  part-next : (p : ℕ) → part_at book party (i + 1) p ≡ part_at book party i p +ℤ correction_at book party p e
  unfolding part_at sum_by
  part-next p =
      let f = correction_at book party p in
      let es = book.engagements in
      ap (λ (n : ℕ). sum_z f (take n es)) (add-one i)
      ∙ ap (sum_z f) (take-suc es i e h)
      ∙ sum-append integers f (take i es) (get_or es i e ∷ [])
      ∙ ap (λ (z : ℤ). part_at book party i p +ℤ z) (+ℤ_idr (f (get_or es i e)) ∙ ap f named)

  module _ (placed : Placed book.calendar (length book.points) e) (rest : List ℤ) where
    reach : first_cell book.calendar e + e.count ≤ month_quarters book.calendar
    reach = omega (arith, first-cell book.calendar e, position-inside book.calendar (length book.points) e placed)

    pub sheet-more : adds (sheet_to book party i ++ rest) (first_cell book.calendar e) (corrections_for book party e) ≡ sheet_to book party (i + 1) ++ rest
    unfolding sheet_to corrections_for quarter_hours
    sheet-more =
        let c = book.calendar in
        let at = first_cell c e in
        let f = part_at book party i in
        let g : ℕ → ℤ = λ p. correction_at book party p e in
        let n = month_quarters c in
        let s = first-cell c e in
        ap (λ (m : ℕ). adds (sheet_to book party i ++ rest) at (map (λ k. g (m + k)) (range 0 e.count))) s
        ∙ adds-cells f g n at e.count reach (λ p q. outside book party p e (covers-before c e p (omega arith))) (λ p q. outside book party p e (covers-after c e p (omega arith))) rest
        ∙ ap (λ (l : List ℤ). l ++ rest) (map-range-cong (λ p. f p +ℤ g p) (part_at book party (i + 1)) 1 n (λ p _ _. sym (part-next p)))

    pub sheet-addable : Sound book → Addable (sheet_to book party i ++ rest) (first_cell book.calendar e) (corrections_for book party e)
    unfolding corrections_for quarter_hours sheet_to part_at
    sheet-addable s =
        let c = book.calendar in
        let at = first_cell c e in
        let es = book.engagements in
        let l = sheet_to book party i in
        let g : ℕ → ℤ = λ k. correction_at book party (start_position c e + k) e in
        let many : length (corrections_for book party e) ≡ e.count = length-map (range 0 e.count) g ∙ length-range 0 e.count in
        let long : length l ≡ month_quarters c = sheet_to-length book party i in
        let few : length (take (i + 1) es) ≤ 512 = omega (arith, length-take (i + 1) es, s.few) in
        record {
          room = omega (arith, reach, many, long, length-append l rest);
          fits =
              λ k q.
              let e₁ : 1 + (at + k) ≡ start_position c e + k = omega (arith, first-cell c e) in
              let here : get_or (l ++ rest) (at + k) (pos 0) ≡ part_at book party i (start_position c e + k) =
              get_or-append l rest (pos 0) (at + k) (omega (arith, reach))
              ∙ cell (part_at book party i) (month_quarters c) (at + k) (omega (arith, reach))
              ∙ ap (part_at book party i) e₁ in
              let more : get_or (corrections_for book party e) k (pos 0) ≡ correction_at book party (start_position c e + k) e = get_d-made g e.count k (pos 0) (omega arith) in
              rw (here, more, ← part-next (start_position c e + k))
              (sheet-part-fits book s (take (i + 1) es) (λ d m. s.terms d (rw (← take-append-drop (i + 1) es) (Memᴰ.append_left (drop (i + 1) es) m))) few party (start_position c e + k));
        }
