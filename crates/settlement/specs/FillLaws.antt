-- The readings from the engagement's first on are its own, and none is missing where it is not refused.
use Rattle.std.specs.Prelude.{◌≡◌, true, ℕ, ◌+◌}
use Rattle.std.proofs.Math.Path.{sym, ap}
use Rattle.std.proofs.Common.{◌∙◌}
use mathlib.Core.List.{List, map}
use native.Mathlib.Omega.{arith}
use Rattle.integers.proofs.TestsLaws.{both}
use Rattle.integers.specs.Ranges.{range}
use Rattle.wire.specs.Readings.{reading_at}
use Rattle.book.specs.declared.Point.{Point}
use Rattle.book.specs.Book.{Book}
use Rattle.volumes.specs.Quarters.{start, quarter_hours}
use Rattle.volumes.specs.Baseline.{point_of, complete, own_reading}
use Rattle.volumes.proofs.BaselineLaws.{complete-append}
use Rattle.volumes.specs.Settlement.{needed_by, needed, rows_of}
use Rattle.volumes.proofs.SettlementLaws.{settles}
use Rattle.baseline.specs.declared.shown.Shown.{Shown}
use Rattle.baseline.specs.ShownLaws.{start-at}
use Rattle.baseline.specs.FilledInner.{Unrefused, LevelsFilled}
use Rattle.settlement.specs.RowsInner.{readings_from, rows_from}
use Rattle.settlement.specs.RowsLaws.{rows-from}
use Rattle.integers.proofs.RangesLaws.{map-range-cong}

module _ {shown : Shown} {calendar readings : List ℕ} {book : Book} (s : Unrefused shown calendar readings book) where
  pub own_at : (k : ℕ) → reading_at readings (start shown.c shown.e + k) ≡ own_reading book shown.e k
  unfolding own_reading
  own_at k =
      let place : start shown.c shown.e + k ≡ start book.calendar shown.e + k = omega (arith, start-at s.shows) in
      ap (reading_at readings) place ∙ sym (s.shows.reading (start book.calendar shown.e + k))

  pub own-whole : complete (readings_from shown.e readings (start shown.c shown.e)) ≡ true
  unfolding needed quarter_hours
  own-whole =
      let own = map (own_reading book shown.e) (range 0 shown.e.count) in
      let other = needed_by (point_of book shown.e).method book shown.e in
      ap complete (map-range-cong (λ k. reading_at readings (start shown.c shown.e + k)) (own_reading book shown.e) 0 shown.e.count (λ k _ _. own_at k))
      ∙ (both (complete own) (complete other) (sym (complete-append own other) ∙ (settles book shown.e s.good).known)).0

  pub rows_are : {before : List ℕ} (levels : List ℕ) → LevelsFilled shown calendar readings before levels → rows_from book.version shown.e shown.point levels readings (start shown.c shown.e) ≡ rows_of book shown.e
  rows_are levels f =
      ap (λ (p : Point). rows_from book.version shown.e p levels readings (start shown.c shown.e)) (sym s.shows.owner)
      ∙ rows-from book shown.e levels readings (start shown.c shown.e) (f.levels book s) (λ k h. own_at k)
