-- Each engagement of an opened book can be judged and settled from the sections of its bytes.
use Rattle.std.specs.Prelude.{◌≡◌, refl, Bool, true, false, ◌||◌, ℕ, suc, ◌+◌, ◌*◌, ◌≤◌, ◌<◌, ltb, length, get_or}
use Rattle.std.proofs.Math.Path.{sym, ap}
use Rattle.std.proofs.Common.{◌∙◌, mul-le-mul_left, mul_assoc, mul-suc, arith, ltb-true, ltb-false, length-drop}
use mathlib.Core.List.{List, Memᴰ}
use Rattle.std.proofs.Math.Option.{none}
use Rattle.std.proofs.lemmas.List.{length-map}
use Rattle.std.proofs.Math.ListN.{get_or-eq_default}
use Rattle.wire.specs.Readings.{reading_at}
use Rattle.quarters.specs.declared.Calendar.{Calendar}
use Rattle.book.specs.declared.Engagement.{Engagement}
use Rattle.quarters.specs.Quarters.{quarters_of, origin_of}
use Rattle.quarters.specs.QuartersInner.{longest_day}
use Rattle.quarters.proofs.QuartersLaws.{days-few, quarters-most}
use Rattle.book.specs.Header.{calendar_of, point_count, calendar_section, table_section, register_section, reading_section}
use Rattle.book.specs.HeaderLaws.{headed}
use Rattle.book.specs.Tables.{category_at, x_at, y_at}
use Rattle.book.specs.Register.{point_at, excludes}
use Rattle.book.specs.Engagements.{engagement_at}
use Rattle.volumes.specs.Baseline.{point_of, no_point}
use Rattle.volumes.specs.Settlement.{refusal_number, row_refusal, row_width}
use Rattle.volumes.specs.SoundInner.{XOfY, Placed}
use Rattle.volumes.proofs.SoundLaws.{passes}
use Rattle.volumes.proofs.SettlementLaws.{refusal_at, refusal-next, refusal-end}
use Rattle.baseline.specs.ShownInner.{Shows, Fits}
use Rattle.baseline.proofs.PointReadings.{reading-from}
use Rattle.settlement.specs.SectionsInner.{engagement_count_in, engagements_in, book_with, shown_in, readings_of, Opened}
use Rattle.settlement.specs.SectionsLaws.{all_held, engaged-in}
use Rattle.settlement.specs.DaysInner.{Gathered}
use Rattle.integers.proofs.BitsLaws.{bit-or}
use Rattle.integers.proofs.RangesLaws.{length-range, get_d-made, get_d-mem}

-- what is shown of an engagement fits the sections and is the book's, and so are the readings of every point: all that judging and settling it ask
pub record Drawn (bytes engagements masks : List ℕ) (i : ℕ) : Type 0 where
  pub fits : Fits (shown_in bytes engagements masks i) (calendar_section bytes) (readings_of bytes (engagement_at engagements i).point)
  pub shows : Shows (shown_in bytes engagements masks i) (calendar_section bytes) (readings_of bytes (engagement_at engagements i).point) (book_with bytes engagements)
  pub few : (shown_in bytes engagements masks i).e.point < 256
  pub all : (p k : ℕ) → (book_with bytes engagements).reading p k ≡ reading_at (reading_section bytes) (origin_of (calendar_of bytes) p + k)

module _ {bytes engagements : List ℕ} (s : Opened bytes engagements) where
  -- the points are as many as the header says, the engagements as the length says
  point-count : length (book_with bytes engagements).points ≡ point_count bytes
  unfolding book_with
  point-count = rw (length-map, length-range)

  pub row-count : length (book_with bytes engagements).engagements ≡ engagement_count_in engagements
  unfolding book_with engagements_in
  row-count = rw (length-map, length-range)

  pub row_named : (i : ℕ) (d : Engagement) → i < engagement_count_in engagements → get_or (book_with bytes engagements).engagements i d ≡ engagement_at engagements i
  unfolding book_with engagements_in
  row_named i d h = get_d-made (engagement_at engagements) (engagement_count_in engagements) i d h

  owner_at : (e : Engagement) → e.point < point_count bytes → point_of (book_with bytes engagements) e ≡ point_at (register_section bytes) e.point
  unfolding book_with point_of
  owner_at e h = get_d-made (point_at (register_section bytes)) (point_count bytes) e.point no_point h

  table_of : (d : ℕ) → XOfY (x_at (table_section bytes) (category_at (calendar_section bytes) d)) (y_at (table_section bytes) (category_at (calendar_section bytes) d))
  unfolding book_with
  table_of d = s.sound.table d

  -- X is 1 or more, so it stands in the section
  pub category-in : (d : ℕ) → 2 * category_at (calendar_section bytes) d + 2 ≤ length (table_section bytes)
  category-in d = go (ltb (2 * category_at (calendar_section bytes) d) (length table)) refl
    where
      table : List ℕ
      table = table_section bytes

      go : (t : Bool) → ltb (2 * category_at (calendar_section bytes) d) (length table) ≡ t → 2 * category_at (calendar_section bytes) d + 2 ≤ length table
      go true p = omega (arith, (all_held bytes s.passed).table.size, ltb-true (2 * category_at (calendar_section bytes) d) (length table) p)
      go false p = absurd (omega (arith, (table_of d).one, get_or-eq_default table 0 (ltb-false (2 * category_at (calendar_section bytes) d) (length table) p)))

  pub member : (i : ℕ) → i < engagement_count_in engagements → Memᴰ (engagement_at engagements i) (book_with bytes engagements).engagements
  member i h = let d = engagement_at engagements 0 in
      rw (← row_named i d h) (get_d-mem (book_with bytes engagements).engagements i d (omega (arith, row-count)))

  placed : (i : ℕ) → i < engagement_count_in engagements → Placed (calendar_of bytes) (point_count bytes) (engagement_at engagements i)
  unfolding book_with
  placed i h = rw (← point-count) (s.sound.engagements (engagement_at engagements i) (member i h))

  pub owner : (i : ℕ) → i < engagement_count_in engagements → point_of (book_with bytes engagements) (engagement_at engagements i) ≡ point_at (register_section bytes) (engagement_at engagements i).point
  owner i h = owner_at (engagement_at engagements i) (placed i h).point

  -- its row of the register, its day's category, and its point's number
  pub registered : (i : ℕ) → i < engagement_count_in engagements → 64 * (engagement_at engagements i).point + 64 ≤ length (register_section bytes)
  registered i h = omega (arith, (placed i h).point, (all_held bytes s.passed).register.size)

  pub categorised : (i : ℕ) → i < engagement_count_in engagements → (engagement_at engagements i).day < length (calendar_section bytes)
  categorised i h = omega (arith, (placed i h).inside, (all_held bytes s.passed).calendar.size)

  point-few : (i : ℕ) → i < engagement_count_in engagements → (engagement_at engagements i).point < 256
  point-few i h = omega (arith, (placed i h).point, (headed bytes (passes bytes s.passed).header).points)

  readings-room : (p : ℕ) → p < point_count bytes → 4 * (quarters_of (calendar_of bytes) * p + quarters_of (calendar_of bytes)) ≤ length (reading_section bytes)
  readings-room p h =
      let q = quarters_of (calendar_of bytes) in
      omega (arith, (all_held bytes s.passed).readings.size, mul-le-mul_left {m = suc p} {n = point_count bytes} (4 * q) (omega arith), mul_assoc 4 q (suc p), mul-suc q p)

  pub readings-start : (i : ℕ) → i < engagement_count_in engagements → 4 * origin_of (calendar_of bytes) (engagement_at engagements i).point ≤ length (reading_section bytes)
  readings-start i h = omega (arith, readings-room (engagement_at engagements i).point (placed i h).point)

  pub drawn : {masks : List ℕ} → Gathered engagements masks → (i : ℕ) → i < engagement_count_in engagements → Drawn bytes engagements masks i
  unfolding book_with shown_in
  drawn {masks} m i h =
      let e = engagement_at engagements i in
      let at = placed i h in
      record {
        fits =
            record {
              ranged = s.sound.ranged;
              days = (all_held bytes s.passed).calendar.size;
              day = at.inside;
              quarter = at.ends;
              some = at.some;
              soon = (s.sound.terms e (member i h)).notice;
              room = omega (arith, readings-room e.point at.point, length-drop (4 * origin_of (calendar_of bytes) e.point) (reading_section bytes));
              x_of_y = table_of e.day;
            };
        shows =
            record {
              when = refl;
              category = λ d. refl;
              reading = λ k. sym (reading-from (reading_section bytes) (origin_of (calendar_of bytes) e.point) k);
              owner = owner_at e at.point;
              closed = λ d.
                  let mask = (point_at (register_section bytes) e.point).mask in
                  bit-or mask (get_or masks e.point 0) d ∙ ap (λ (b : Bool). excludes mask d || b) (m.each e.point d (point-few i h) ∙ sym (engaged-in bytes engagements e.point d));
              takes = refl;
              wants = refl;
            };
        few = point-few i h;
        all = λ p k. refl;
      }

  -- the refusals from row i on: that of row i, or of those after it
  pub refusal-row : (i : ℕ) → i < engagement_count_in engagements → refusal_at (book_with bytes engagements) i ≡ row_refusal i (refusal_number (book_with bytes engagements) (engagement_at engagements i)) (refusal_at (book_with bytes engagements) (i + 1))
  refusal-row i h =
      let book = book_with bytes engagements in
      let d = engagement_at engagements i in
      refusal-next book i (i + 1) d refl (omega (arith, row-count))
      ∙ ap (λ (e : Engagement). row_refusal i (refusal_number book e) (refusal_at book (i + 1))) (row_named i d h)

  pub refusal-last : (i : ℕ) → engagement_count_in engagements ≤ i → refusal_at (book_with bytes engagements) i ≡ none
  refusal-last i h = refusal-end (book_with bytes engagements) i (omega (arith, row-count))

-- its point is one that a book can have, its day a settled one of the calendar, its rows are those of a day at most
pub record Placing (c : Calendar) (e : Engagement) : Type 0 where
  pub point : e.point < 256
  pub day : e.day < 64
  pub settled : c.lead ≤ e.day
  pub few : row_width * e.count ≤ row_width * longest_day

module _ {bytes engagements : List ℕ} (s : Opened bytes engagements) (i : ℕ) (h : i < engagement_count_in engagements) where
  pub engagement-placed : Placing (calendar_of bytes) (engagement_at engagements i)
  unfolding book_with
  engagement-placed =
      let p = s.sound.engagements (engagement_at engagements i) (member s i h) in
      record {
        point = point-few s i h;
        day = omega (arith, p.inside, days-few (calendar_of bytes) s.sound.ranged);
        settled = p.settled;
        few = omega (arith, p.ends, quarters-most (calendar_of bytes) (engagement_at engagements i).day);
      }
