-- A book that passes refusals 1 to 7 is sound: each test that it passed says so of its rows.
use Rattle.std.specs.Prelude.{◌≡◌, refl, Bool, true, false, cond, not, ◌&&◌, ◌||◌, ℕ, zero, suc, ◌+◌, ◌*◌, ◌^◌, ◌≤◌, ◌<◌, eqb, leb, ltb, ℤ, pos, neg_ℤ, length, Some, None}
use Rattle.std.proofs.Common.{sym, ap, ◌∙◌, ⊎_elim, mul_assoc, arith, length-take, drop_of_length-le, eqb-true, leb-true, ltb-true, ltb-false}
use Rattle.std.proofs.lemmas.Bool.{false≢true, eqb-false, not-true, not-false}
use mathlib.Core.List.Memᴰ
use mathlib.Core.List.{List, [], ◌∷◌, Memᴰ}
use Rattle.std.proofs.Math.Option.{Option, none, some}
use Rattle.std.proofs.lemmas.List.{length-map}
use Rattle.std.proofs.Math.ListN.{get_or-eq_default}
use Rattle.std.specs.Int.Signed.{le_z}
use Rattle.integers.proofs.TestsLaws.{both, neither}
use Rattle.integers.specs.First.{first, any_below}
use Rattle.integers.specs.Ranges.{range}
use Rattle.integers.proofs.ZLaws.{up, dn, one-0, le_yes}
use Rattle.wire.specs.Numbers.{number_at}
use Rattle.wire.specs.Readings.{Reading, reading_at, reading_of}
use Rattle.quarters.specs.Quarters.{days_of, quarters, quarters_of}
use Rattle.book.specs.Header.{version_of, calendar_of, point_count, engagement_count, between, header_good, layout_good, length_of, offset_of, point_width, engagement_width, calendar_section, table_section, register_section, reading_section, engagement_section}
use Rattle.book.specs.HeaderLaws.{headed, adjoins}
use Rattle.book.specs.Tables.{category_at, x_at, y_at, bad_day, calendar_good, entry_good, table_good}
use Rattle.book.specs.Register.{point_at, register_row, delivery_in, access_in, supplier_in, fsp_in, mask_in, upward_in, downward_in, numbers_good, bytes_good, not_above, differs, bad_point}
use Rattle.book.specs.Metering.{reading_good, bad_reading, point_of_reading, first_bad_reading}
use Rattle.quarters.specs.declared.Calendar.{Calendar}
use Rattle.book.specs.Engagements.{engagement_of, engagement_at, engagement_row, point_in, day_in, first_in, count_in, direction_in, notice_in, requested_in, place_good, terms_good, out_of_order, bad_engagement}
use Rattle.refusals.specs.Refusals.{unless, unless_found}
use Rattle.refusals.specs.RefusalsLaws.{not-refused, not_found}
use Rattle.book.specs.Judged.{rows_refusal, sections_refusal, refusal_of}
use Rattle.book.specs.Book.{book_of}
use Rattle.book.specs.declared.Point.{Point}
use Rattle.book.specs.declared.Engagement.{Engagement}
use Rattle.volumes.specs.Baseline.{watts}
use Rattle.volumes.specs.SoundInner.{Bounded, XOfY, Limited, Placed, OnTerms, Sound}
use Rattle.integers.proofs.FirstLaws.{any-of}
use Rattle.integers.proofs.RangesLaws.{length-range}

-- a search that found nothing: the test names none
pub first-none : (test : ℕ → Bool) (a n : ℕ) → first test a n ≡ none → (i : ℕ) → a ≤ i → i < a + n → test i ≡ false
unfolding first
first-none test a zero e i h k = absurd (omega arith)
first-none test a (suc n) e i h k = go (test a) refl e (first-none test (suc a) n)
  where
    go : (t : Bool) → test a ≡ t → cond t (some a) (first test (suc a) n) ≡ none → (first test (suc a) n ≡ none → (i : ℕ) → suc a ≤ i → i < suc a + n → test i ≡ false) → test i ≡ false
    go true p e ih = let z : ◌≡◌ {A = ℕ} 0 1 = cc in absurd (omega arith)
    go false p e ih = at (eqb i a) refl (ih e i)
      where
        at : (b : Bool) → eqb i a ≡ b → (suc a ≤ i → i < suc a + n → test i ≡ false) → test i ≡ false
        at true q r = ap test (eqb-true i a q) ∙ p
        at false q r = r (omega (arith, eqb-false i a q)) (omega arith)

any_none : (test : ℕ → Bool) (n i : ℕ) → any_below test n ≡ false → i < n → test i ≡ false
any_none test n i e h = go (test i) refl
  where
    go : (t : Bool) → test i ≡ t → t ≡ false
    go true p = absurd (false≢true (sym e ∙ any-of test i n h p))
    go false p = refl

-- the numbers in a row
pub mem-range : (a n i : ℕ) → Memᴰ i (range a n) → (a ≤ i) × (i < a + n)
unfolding range
mem-range a zero i m = absurd (Memᴰ.not-nil m)
mem-range a (suc n) i m = ⊎_elim (λ e. (omega arith, omega arith)) (λ k. let h = mem-range (suc a) n i k in (omega arith, omega arith)) (Memᴰ.cases_cons m)

-- a reading in range, and one beyond the section, which is 0
good-bounded : (r : Reading) → reading_good r ≡ true → Bounded (10 ^ 9) (watts r)
unfolding reading_good watts
good-bounded None e = record { above = omega arith; below = omega arith }
good-bounded (Some z) e =
    let h = both (le_z (neg_ℤ (pos (10 ^ 9))) z) (le_z z (pos (10 ^ 9))) e in
    within z (le_yes (neg_ℤ (pos (10 ^ 9))) z h.0) (le_yes z (pos (10 ^ 9)) h.1)
  where
    within : (z : ℤ) → 0 + dn z ≤ up z + 1000000000 → up z + 0 ≤ 1000000000 + dn z → Bounded (10 ^ 9) z
    within z h k = record { above = omega (arith, one-0 z); below = omega (arith, one-0 z) }

beyond-bounded : (readings : List ℕ) (i : ℕ) → length readings ≤ 4 * i → Bounded (10 ^ 9) (watts (reading_at readings i))
unfolding watts reading_of
beyond-bounded readings i h = rw (drop_of_length-le readings h) (record { above = omega arith; below = omega arith })

readings-bounded : (readings : List ℕ) (n : ℕ) → length readings ≤ 4 * n → first (bad_reading readings) 0 n ≡ none → (i : ℕ) → Bounded (10 ^ 9) (watts (reading_at readings i))
readings-bounded readings n h e i = go (ltb i n) refl
  where
    go : (t : Bool) → ltb i n ≡ t → Bounded (10 ^ 9) (watts (reading_at readings i))
    go true p = good-bounded (reading_at readings i) (not-false (reading_good (reading_at readings i)) (first-none (bad_reading readings) 0 n e i (omega arith) (omega (arith, ltb-true i n p))))
    go false p = beyond-bounded readings i (omega (arith, ltb-false i n p))

-- no bad reading was found, so there is none
found_none : (quarters : ℕ) (found : Option ℕ) → point_of_reading quarters found ≡ none → found ≡ none
found_none quarters none e = refl
found_none quarters (some i) e = let z : ◌≡◌ {A = ℕ} 0 1 = cc in absurd (omega arith)

-- X and Y of a category
x-of-y : (table : List ℕ) (c : ℕ) → entry_good table c ≡ true → XOfY (x_at table c) (y_at table c)
x-of-y table c e =
    let h = both (between 1 10 (x_at table c)) (between (x_at table c) 20 (y_at table c)) e in
    let x = both (leb 1 (x_at table c)) (leb (x_at table c) 10) h.0 in
    let y = both (leb (x_at table c) (y_at table c)) (leb (y_at table c) 20) h.1 in
    record { one = leb-true _ _ x.0; ten = leb-true _ _ x.1; order = leb-true _ _ y.0; twenty = leb-true _ _ y.1 }

all-x-of-y : (table : List ℕ) → table_good table ≡ true → (c : ℕ) → c ≤ 3 → XOfY (x_at table c) (y_at table c)
unfolding table_good
all-x-of-y table e c h =
    let f = both (entry_good table 0) (entry_good table 1 && (entry_good table 2 && entry_good table 3)) e in
    let g = both (entry_good table 1) (entry_good table 2 && entry_good table 3) f.1 in
    let k = both (entry_good table 2) (entry_good table 3) g.1 in
    at c h f.0 g.0 k.0 k.1
  where
    at : (c : ℕ) → c ≤ 3 → entry_good table 0 ≡ true → entry_good table 1 ≡ true → entry_good table 2 ≡ true → entry_good table 3 ≡ true → XOfY (x_at table c) (y_at table c)
    at zero h p q r s = x-of-y table 0 p
    at (suc zero) h p q r s = x-of-y table 1 q
    at (suc (suc zero)) h p q r s = x-of-y table 2 r
    at (suc (suc (suc zero))) h p q r s = x-of-y table 3 s
    at (suc (suc (suc (suc n)))) h p q r s = absurd (omega arith)

-- a day's category, and that of a day beyond the calendar, which is 0
category-few : (calendar : List ℕ) → calendar_good calendar ≡ true → (d : ℕ) → category_at calendar d ≤ 3
unfolding calendar_good
category-few calendar e d = go (ltb d (length calendar)) refl
  where
    go : (t : Bool) → ltb d (length calendar) ≡ t → category_at calendar d ≤ 3
    go true p = leb-true (category_at calendar d) 3 (not-false _ (any_none (bad_day calendar) (length calendar) d (not-true _ e) (ltb-true d (length calendar) p)))
    go false p = rw (get_or-eq_default calendar 0 (ltb-false d (length calendar) p)) (omega arith)

-- a register row's largest watts
limited-row : (version days : ℕ) (register : List ℕ) (i : ℕ) → bad_point version days register i ≡ false → Limited (point_at register i)
unfolding bad_point numbers_good
limited-row version days register i e =
    let row = register_row register i in
    let good = (both (numbers_good days row) (bytes_good version row) (not-false _ (neither (not (numbers_good days row && bytes_good version row)) (not_above register i || any_below (differs register i) i) e).0)).0 in
    let w = leb (upward_in row) (10 ^ 9) && leb (downward_in row) (10 ^ 9) in
    let m = ltb (mask_in row) (2 ^ days) && w in
    let f = ltb (fsp_in row) (10 ^ 10) && m in
    let s = ltb (supplier_in row) (10 ^ 10) && f in
    let a = ltb (access_in row) (10 ^ 18) && s in
    let e₁ = both (ltb (delivery_in row) (10 ^ 18)) a good in
    let e₂ = both (ltb (access_in row) (10 ^ 18)) s e₁.1 in
    let e₃ = both (ltb (supplier_in row) (10 ^ 10)) f e₂.1 in
    let e₄ = both (ltb (fsp_in row) (10 ^ 10)) m e₃.1 in
    let e₅ = both (ltb (mask_in row) (2 ^ days)) w e₄.1 in
    let e₆ = both (leb (upward_in row) (10 ^ 9)) (leb (downward_in row) (10 ^ 9)) e₅.1 in
    record { upward = leb-true _ _ e₆.0; downward = leb-true _ _ e₆.1 }

-- an engagement's place and terms
in_place : (c : Calendar) (points : ℕ) (row : List ℕ) → place_good c points row ≡ true → Placed c points (engagement_of row)
unfolding place_good
in_place c points row e =
    let z = leb 1 (count_in row) && leb (first_in row + count_in row) (quarters c (day_in row)) in
    let f = ltb (first_in row) (quarters c (day_in row)) && z in
    let d = ltb (day_in row) (days_of c) && f in
    let l = leb c.lead (day_in row) && d in
    let e₁ = both (ltb (point_in row) points) l e in
    let e₂ = both (leb c.lead (day_in row)) d e₁.1 in
    let e₃ = both (ltb (day_in row) (days_of c)) f e₂.1 in
    let e₄ = both (ltb (first_in row) (quarters c (day_in row))) z e₃.1 in
    let e₅ = both (leb 1 (count_in row)) (leb (first_in row + count_in row) (quarters c (day_in row))) e₄.1 in
    record { point = ltb-true _ _ e₁.0; settled = leb-true _ _ e₂.0; inside = ltb-true _ _ e₃.0; some = leb-true _ _ e₅.0; ends = leb-true _ _ e₅.1 }

on-terms : (row : List ℕ) → terms_good row ≡ true → OnTerms (engagement_of row)
unfolding terms_good
on-terms row e =
    let r = between 1 (10 ^ 9) (requested_in row) && eqb (number_at row 12 4) 0 in
    let z = eqb (number_at row 7 1) 0 && r in
    let n = leb (notice_in row) 96 && z in
    let e₁ = both (leb (direction_in row) 1) n e in
    let e₂ = both (leb (notice_in row) 96) z e₁.1 in
    let e₃ = both (eqb (number_at row 7 1) 0) r e₂.1 in
    let e₄ = both (between 1 (10 ^ 9) (requested_in row)) (eqb (number_at row 12 4) 0) e₃.1 in
    let e₅ = both (leb 1 (requested_in row)) (leb (requested_in row) (10 ^ 9)) e₄.0 in
    record { notice = leb-true _ _ e₂.0; asked = leb-true _ _ e₅.0; most = leb-true _ _ e₅.1 }

good-row : (c : Calendar) (points : ℕ) (engagements : List ℕ) (i : ℕ) → bad_engagement c points engagements i ≡ false → Placed c points (engagement_at engagements i) × OnTerms (engagement_at engagements i)
unfolding bad_engagement
good-row c points engagements i e =
    let row = engagement_row engagements i in
    let good = both (place_good c points row) (terms_good row) (not-false _ (neither (not (place_good c points row && terms_good row)) (out_of_order engagements i) e).0) in
    (in_place c points row good.0, on-terms row good.1)

-- what the refusals that did not come say together
pub record PassedBook (bytes : List ℕ) : Type 0 where
  pub header : header_good bytes ≡ true
  pub layout : layout_good bytes ≡ true
  pub calendar : calendar_good (calendar_section bytes) ≡ true
  pub table : table_good (table_section bytes) ≡ true
  pub points : first (bad_point (version_of bytes) (days_of (calendar_of bytes)) (register_section bytes)) 0 (point_count bytes) ≡ none
  pub readings : first (bad_reading (reading_section bytes)) 0 (quarters_of (calendar_of bytes) * point_count bytes) ≡ none
  pub engagements : first (bad_engagement (calendar_of bytes) (point_count bytes) (engagement_section bytes)) 0 (engagement_count bytes) ≡ none

pub passes : (bytes : List ℕ) → refusal_of bytes ≡ none → PassedBook bytes
unfolding refusal_of sections_refusal rows_refusal first_bad_reading
passes bytes e =
    let c = calendar_of bytes in
    let n₇ = unless_found (first (bad_engagement c (point_count bytes) (engagement_section bytes)) 0 (engagement_count bytes)) 7 none in
    let n₆ = unless_found (first_bad_reading c (reading_section bytes) (point_count bytes)) 6 n₇ in
    let n₅ = unless_found (first (bad_point (version_of bytes) (days_of c) (register_section bytes)) 0 (point_count bytes)) 5 n₆ in
    let n₄ = unless (calendar_good (calendar_section bytes) && table_good (table_section bytes)) 4 n₅ in
    let e₁ = not-refused (header_good bytes) 1 (unless (layout_good bytes) 2 n₄) e in
    let e₂ = not-refused (layout_good bytes) 2 n₄ e₁.1 in
    let e₄ = not-refused (calendar_good (calendar_section bytes) && table_good (table_section bytes)) 4 n₅ e₂.1 in
    let e₅ = not_found (first (bad_point (version_of bytes) (days_of c) (register_section bytes)) 0 (point_count bytes)) 5 n₆ e₄.1 in
    let e₆ = not_found (first_bad_reading c (reading_section bytes) (point_count bytes)) 6 n₇ e₅.1 in
    let e₇ = not_found (first (bad_engagement c (point_count bytes) (engagement_section bytes)) 0 (engagement_count bytes)) 7 none e₆.1 in
    let tables = both (calendar_good (calendar_section bytes)) (table_good (table_section bytes)) e₄.0 in
    record {
      header = e₁.0;
      layout = e₂.0;
      calendar = tables.0;
      table = tables.1;
      points = e₅.0;
      readings = found_none (quarters_of c) (first (bad_reading (reading_section bytes)) 0 (quarters_of c * point_count bytes)) e₆.0;
      engagements = e₇.0;
    }

-- the readings take no more bytes than their extent says
readings-room : (bytes : List ℕ) → layout_good bytes ≡ true → length (reading_section bytes) ≤ 4 * (quarters_of (calendar_of bytes) * point_count bytes)
unfolding layout_good
readings-room bytes e =
    let c = calendar_of bytes in
    let reg = point_width * point_count bytes in
    let met = 4 * quarters_of c * point_count bytes in
    let eng = engagement_width * engagement_count bytes in
    let r₀ = adjoins bytes 0 56 (days_of c) (8 ∷ reg ∷ met ∷ eng ∷ []) e in
    let r₁ = adjoins bytes 1 (56 + days_of c) 8 (reg ∷ met ∷ eng ∷ []) r₀.1 in
    let r₂ = adjoins bytes 2 (56 + days_of c + 8) reg (met ∷ eng ∷ []) r₁.1 in
    let r₃ = adjoins bytes 3 (56 + days_of c + 8 + reg) met (eng ∷ []) r₂.1 in
    let extent = both (eqb (offset_of bytes 3) (56 + days_of c + 8 + reg)) (eqb (length_of bytes 3) met) r₃.0 in
    simp length-take (omega (arith, eqb-true (length_of bytes 3) met extent.1, mul_assoc 4 (quarters_of c) (point_count bytes)))

pub sound : (bytes : List ℕ) → refusal_of bytes ≡ none → Sound (book_of bytes)
unfolding book_of
sound bytes e =
    let p = passes bytes e in
    let h = headed bytes p.header in
    record {
      ranged = h.ranged;
      table = λ d. all-x-of-y (table_section bytes) p.table (category_at (calendar_section bytes) d) (category-few (calendar_section bytes) p.calendar d);
      points = λ point m. at-point p.points (Memᴰ.of_map (point_at (register_section bytes)) (range 0 (point_count bytes)) m);
      readings = λ n q. readings-bounded (reading_section bytes) (quarters_of (calendar_of bytes) * point_count bytes) (readings-room bytes p.layout) p.readings (quarters_of (calendar_of bytes) * n + q);
      engagements = λ g m. rw (length-map, length-range) (at_row p.engagements (Memᴰ.of_map (engagement_at (engagement_section bytes)) (range 0 (engagement_count bytes)) m)).0;
      terms = λ g m. (at_row p.engagements (Memᴰ.of_map (engagement_at (engagement_section bytes)) (range 0 (engagement_count bytes)) m)).1;
      few = rw (length-map, length-range) h.rows;
    }
  where
    at-point : {point : Point} → first (bad_point (version_of bytes) (days_of (calendar_of bytes)) (register_section bytes)) 0 (point_count bytes) ≡ none → (i : ℕ) × Memᴰ i (range 0 (point_count bytes)) × (point_at (register_section bytes) i ≡ point) → Limited point
    at-point f (i, m, q) =
        let r = mem-range 0 (point_count bytes) i m in
        rw (← q) (limited-row (version_of bytes) (days_of (calendar_of bytes)) (register_section bytes) i (first-none _ 0 (point_count bytes) f i r.0 r.1))

    at_row : {g : Engagement} → first (bad_engagement (calendar_of bytes) (point_count bytes) (engagement_section bytes)) 0 (engagement_count bytes) ≡ none → (i : ℕ) × Memᴰ i (range 0 (engagement_count bytes)) × (engagement_at (engagement_section bytes) i ≡ g) → Placed (calendar_of bytes) (point_count bytes) g × OnTerms g
    at_row f (i, m, q) =
        let r = mem-range 0 (engagement_count bytes) i m in
        rw (← q) (good-row (calendar_of bytes) (point_count bytes) (engagement_section bytes) i (first-none _ 0 (engagement_count bytes) f i r.0 r.1))
