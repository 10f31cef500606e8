-- An engagement of an opened book: where its cells are, and that the rows filled for it give its corrections.
use Rattle.std.specs.Prelude.{◌≡◌, List, ◌++◌, ℕ, ◌+◌, ◌*◌, ◌≤◌, ◌<◌, ℤ, pos, length, drop, replicate}
use Rattle.std.proofs.Common.{ap₂, ◌∙◌, arith, drop_at}
use Rattle.std.proofs.lemmas.List.{length-replicate}
use Rattle.std.proofs.lemmas.List.Edits.{sets}
use Rattle.quarters.specs.declared.Calendar.{Calendar}
use Rattle.book.specs.declared.Engagement.{Engagement}
use Rattle.book.specs.declared.Point.{Point}
use Rattle.quarters.specs.Quarters.{month_quarters}
use Rattle.book.specs.Header.{version_of, calendar_of, register_section}
use Rattle.book.specs.Register.{point_at}
use Rattle.book.specs.Engagements.{engagement_at}
use Rattle.volumes.specs.Settlement.{row_width, rows_of}
use Rattle.volumes.specs.Sheets.{sheet}
use Rattle.settlement.specs.SectionsInner.{engagement_count_in, book_with, Opened}
use Rattle.settlement.specs.DrawnLaws.{member, row-count, row_named, owner, engagement-placed}
use Rattle.sheets.specs.AddsInner.{adds, Addable}
use Rattle.sheets.specs.SharesInner.{gets_of, RowsSmall, corrections_for, first_cell}
use Rattle.sheets.specs.RowsLaws.{rows_get, rows-small}
use Rattle.sheets.specs.PartsInner.{sheet_to}
use Rattle.sheets.specs.SheetLaws.{sheet-none, sheet-all, sheet-more, sheet-addable}
use Rattle.quarters.specs.QuartersInner.{Ranged, longest_day}

module _ {bytes engagements : List ℕ} (s : Opened bytes engagements) (i : ℕ) (h : i < engagement_count_in engagements) where
  -- the point and the rows that were read and filled
  module _ (l : List ℤ) (room : row_width * longest_day ≤ length l) {e : Engagement} {point : Point} {register : List ℕ} {rows : List ℤ} (is : e ≡ engagement_at engagements i) (at : point ≡ point_at register e.point) (cut : register ≡ register_section bytes) (filled : rows ≡ sets l 0 (rows_of (book_with bytes engagements) (engagement_at engagements i))) where
    enough : row_width * (engagement_at engagements i).count ≤ length l
    enough = omega (arith, (engagement-placed s i h).few)

    pub engagement-gets : (party : ℕ) → gets_of (version_of bytes) party point rows e.count ≡ corrections_for (book_with bytes engagements) party (engagement_at engagements i)
    unfolding book_with
    engagement-gets party =
        rw (at, cut, is, filled, ← owner s i h)
        (rows_get (book_with bytes engagements) (engagement_at engagements i) l enough party)

    pub engagement-small : RowsSmall rows e.count
    engagement-small =
        let book = book_with bytes engagements in
        let f = engagement_at engagements i in
        rw (is, filled) (rows-small book f l enough s.sound (s.sound.terms f (member s i h)))

  -- one engagement more
  module _ {c : Calendar} (k : c ≡ calendar_of bytes) (party : ℕ) (rest : List ℤ) where
    pub engagement-more : let book = book_with bytes engagements in
        let e = engagement_at engagements i in
        adds (sheet_to book party i ++ rest) (first_cell c e) (corrections_for book party e) ≡ sheet_to book party (i + 1) ++ rest
    unfolding book_with
    engagement-more =
        let book = book_with bytes engagements in
        let e = engagement_at engagements i in
        rw k (sheet-more book party i e (omega (arith, row-count s)) (row_named s i e h) (s.sound.engagements e (member s i h)) rest)

    pub engagement-addable : let book = book_with bytes engagements in
        let e = engagement_at engagements i in
        Addable (sheet_to book party i ++ rest) (first_cell c e) (corrections_for book party e)
    unfolding book_with
    engagement-addable =
        let book = book_with bytes engagements in
        let e = engagement_at engagements i in
        rw k (sheet-addable book party i e (omega (arith, row-count s)) (row_named s i e h) (s.sound.engagements e (member s i h)) rest s.sound)

module _ {c : Calendar} {bytes engagements : List ℕ} (s : Opened bytes engagements) (k : c ≡ calendar_of bytes) where
  -- the calendar is one that a header may have
  pub calendar-ranged : Ranged c
  unfolding book_with
  calendar-ranged = rw k s.sound.ranged

  -- from a sheet of zeros to that of all engagements; what stands behind is left
  module _ (party n : ℕ) (before cleared : List ℤ) (long : n ≡ month_quarters c) (zeros : cleared ≡ replicate n (pos 0) ++ drop n before) where
    left : drop (month_quarters c) cleared ≡ drop (month_quarters c) before
    left = rw (← long, zeros) (drop_at (replicate n (pos 0)) (drop n before) n (length-replicate n (pos 0)))

    pub cells-begun : cleared ≡ sheet_to (book_with bytes engagements) party 0 ++ drop (month_quarters c) cleared
    unfolding book_with
    cells-begun = zeros ∙ rw (sheet-none (book_with bytes engagements) party, left, long, k)

    pub cells-ended : {after : List ℤ} (i : ℕ) → engagement_count_in engagements ≤ i → after ≡ sheet_to (book_with bytes engagements) party i ++ drop (month_quarters c) cleared → after ≡ sheet (book_with bytes engagements) party ++ drop (month_quarters c) before
    cells-ended i h e = e ∙ ap₂ ◌++◌ (sheet-all (book_with bytes engagements) party i (omega (arith, row-count s))) left
