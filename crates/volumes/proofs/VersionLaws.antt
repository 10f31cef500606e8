-- 02, C-14: what a version 1 book keeps. Its rows have the four numbers that they had and 0, its parties and sheets go by two columns; and no version
-- changes what is delivered, by which files go.
use Rattle.std.specs.Prelude.{◌≡◌, ◌&&◌, ℕ, ℤ, pos, ◌-ℤ◌}
use Rattle.std.proofs.Math.Path.{refl, ap}
use Rattle.std.proofs.Math.Bool.{cond}
use mathlib.Core.List.{List, [], ◌∷◌, flat_map, zip, zip_with}
use Rattle.integers.specs.Sums.{naturals, integers, sum_z}
use Rattle.integers.proofs.SumsLaws.{sum-cong}
use Rattle.grains.specs.Grains.{grains_z}
use Rattle.book.specs.declared.Method.{Method}
use Rattle.book.specs.declared.Method.TheVariants.{LastQuarter, HighXOfY, Adjusted}
use Rattle.book.specs.declared.Engagement.{Engagement}
use Rattle.book.specs.Book.{Book}
use Rattle.volumes.specs.Baseline.{point_of, watts, reading_before, window, own_reading, day_reading, day_readings, own_window, day_window, windowed, allowed, suits, engaged, clear, regular, eligible, eligible_days, latest, day_sum, taken, high, addend, last_reading, baseline_by, baseline}
use Rattle.volumes.specs.Settlement.{delivered_by, delivered, requested_at, source_by, injection_by, signed, source_correction, fsp_correction, injection_correction, corrections, row}
use Rattle.volumes.specs.Sheets.{covers, quarter_at, parties_of, parties, share_of, correction_at, sheet_at}
use Rattle.volumes.specs.declared.Series.{Series}
use Rattle.volumes.specs.Series.{Kind, is_engagement, grains_of, grains_at}
use Rattle.volumes.proofs.SplitLaws.{signed-zero}

-- "The source party's correction is the delivered volume, the FSP party's is requested less delivered, both negated downward", for the two parties of a point
pub two_amounts : Book → Engagement → ℕ → List (ℕ × ℤ)
two_amounts book e k =
    ((point_of book e).sourceparty, signed e.direction (pos (delivered book e k)))
    ∷ ((point_of book e).fspparty, signed e.direction (pos (requested_at e k) -ℤ pos (delivered book e k)))
    ∷ []

module _ (book : Book) (one : book.version ≡ 1) where
  -- "A version 1 row keeps its four numbers, and its fifth is 0."
  pub row_one : (e : Engagement) (k : ℕ) → row book e k ≡ baseline book e k ∷ pos (delivered book e k) ∷ signed e.direction (pos (delivered book e k)) ∷ signed e.direction (pos (requested_at e k) -ℤ pos (delivered book e k)) ∷ pos 0 ∷ []
  unfolding row corrections source_correction fsp_correction injection_correction source_by injection_by
  row_one e k = rw (one, signed-zero e.direction)

  pub parties-one : parties book ≡ flat_map (λ point. point.sourceparty ∷ point.fspparty ∷ []) book.points
  unfolding parties parties_of
  parties-one = rw one

  correction-one : (party p : ℕ) (e : Engagement) → correction_at book party p e ≡ cond (covers book.calendar e p) (share_of party (two_amounts book e (quarter_at book.calendar e p))) (pos 0)
  unfolding correction_at parties_of corrections source_correction fsp_correction source_by two_amounts zip zip_with
  correction-one party p e = rw one

  pub sheet-one : (party p : ℕ) → sheet_at book party p ≡ sum_z (λ e. cond (covers book.calendar e p) (share_of party (two_amounts book e (quarter_at book.calendar e p))) (pos 0)) book.engagements
  unfolding sheet_at
  sheet-one party p = sum-cong integers _ _ book.engagements (λ e m. correction-one party p e)

-- a book of another version, else the same
unfoldable pub of_version : ℕ → Book → Book
of_version version book =
    record {
      version = version;
      calendar = book.calendar;
      category = book.category;
      x = book.x;
      y = book.y;
      points = book.points;
      reading = book.reading;
      engagements = book.engagements;
    }

module _ (version : ℕ) (book : Book) where
  by-any : (m : Method) (e : Engagement) (k : ℕ) → baseline_by m (of_version version book) e k ≡ baseline_by m book e k
  unfolding of_version point_of reading_before window own_reading day_reading day_readings own_window day_window windowed allowed suits engaged clear regular eligible eligible_days latest day_sum taken high addend last_reading baseline_by
  by-any LastQuarter e k = refl
  by-any HighXOfY e k = refl
  by-any Adjusted e k = refl

  pub delivered-any : (e : Engagement) (k : ℕ) → delivered (of_version version book) e k ≡ delivered book e k
  unfolding of_version delivered baseline point_of own_reading
  delivered-any e k = ap (λ z. delivered_by e.direction (point_of book e) z (grains_z (watts (own_reading book e k)))) (by-any (point_of book e).method e k)

  -- the grains of a series, so its watts and every file
  pub grains-any : (kind : Kind) (receiver : ℕ) (s : Series) (p : ℕ) → grains_at (of_version version book) kind receiver s p ≡ grains_at book kind receiver s p
  unfolding of_version grains_at grains_of is_engagement point_of
  grains-any kind receiver s p =
      sum-cong naturals _ _ book.engagements (λ e m.
      ap (λ v. cond (is_engagement book kind receiver s e && covers book.calendar e p) v 0) (delivered-any e (quarter_at book.calendar e p)))
