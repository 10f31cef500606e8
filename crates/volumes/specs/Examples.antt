-- P1 to P10 of document 01, "Checked examples", on books that have what each names; and further examples.
use Rattle.std.specs.Prelude.{◌≡◌, cond, ◌&&◌, ℕ, ◌+◌, ◌*◌, ◌/◌, ◌%◌, eqb, leb, ℤ, pos, neg_ℤ, get_or, Some}
use mathlib.Core.List.{List, [], ◌∷◌, map, flat_map}
use Rattle.std.proofs.Math.Option.{none}
use Rattle.wire.specs.Readings.{Reading}
use Rattle.grains.specs.Grains.{grains}
use Rattle.book.specs.declared.Situation.TheVariants.{Transfer}
use Rattle.book.specs.declared.Takers.TheVariants.{Aggregated}
use Rattle.book.specs.declared.Supply.TheVariants.{OffTake}
use Rattle.book.specs.declared.Method.{Method}
use Rattle.book.specs.declared.Method.TheVariants.{LastQuarter, HighXOfY, Adjusted}
use Rattle.book.specs.declared.Direction.{Direction}
use Rattle.book.specs.declared.Direction.TheVariants.{Up, Down}
use Rattle.calendar.specs.declared.Clock.TheVariants.{Same}
use Rattle.quarters.specs.declared.Calendar.{Calendar}
use Rattle.book.specs.declared.Point.{Point}
use Rattle.book.specs.declared.Engagement.{Engagement}
use Rattle.quarters.specs.Quarters.{quarters}
use Rattle.book.specs.Book.{Book}
use Rattle.volumes.specs.Baseline.{mean, own_window, day_window, day_sum, taken, high, addend, baseline}
use Rattle.volumes.specs.Settlement.{settlement_refusal, delivered, fsp_correction, rows}
use Rattle.volumes.specs.declared.Series.{Series}
use Rattle.volumes.specs.Series.{Toe01, series_watts}

-- "June 2021, L 3"
unfoldable pub june : Calendar
june = record { year = 2021; month = 6; lead = 3; clock = Same }

-- "one point (supplier 3, FSP 7, off-take, transfer, .., mask 0": its parties, EAN, method and largest watts each way
unfoldable pub point_for : ℕ → ℕ → ℕ → ℕ → Method → ℕ → Point
point_for source fsp injection ean method most =
    record {
      delivery = ean;
      access = 2;
      supplier = 3;
      fsp = 7;
      mask = 0;
      upward = most;
      downward = most;
      sourceparty = source;
      fspparty = fsp;
      injectionparty = injection;
      situation = Transfer;
      takers = Aggregated;
      supply = OffTake;
      method = method;
    }

unfoldable pub point : ℕ → Method → ℕ → Point
point = point_for 10 20 0

-- an engagement of a point on "day 3 from quarter-hour 0": count, direction, requested watts
unfoldable pub engagement : ℕ → ℕ → Direction → ℕ → Engagement
engagement p count direction requested =
    record { point = p; day = 3; first = 0; count = count; direction = direction; notice = 0; requested = requested }

-- a book of a version, of June, with these categories, X and Y of them all, points, readings by day and quarter-hour, and engagements
unfoldable pub book : ℕ → (ℕ → ℕ) → ℕ → ℕ → List Point → (ℕ → ℕ → Reading) → List Engagement → Book
book version categories x y points reading engagements =
    record {
      version = version;
      calendar = june;
      category = categories;
      x = λ c. x;
      y = λ c. y;
      points = points;
      reading = λ p q. reading (q / quarters june 0) (q % quarters june 0);
      engagements = engagements;
    }

-- "all categories 0", in version 1
unfoldable pub plain : ℕ → ℕ → List Point → (ℕ → ℕ → Reading) → List Engagement → Book
plain = book 1 (λ d. 0)

-- the same watts the whole day, from day 0 on
unfoldable pub by_day : List ℕ → ℕ → ℕ → Reading
by_day l d q = Some (pos (get_or l d 0))

-- the first watts of each day, from day 0 on
unfoldable pub by_quarter : List (List ℕ) → ℕ → ℕ → Reading
by_quarter l d q = Some (pos (get_or (get_or l d []) q 0))

-- "day 3 from quarter-hour 0, count 2, up, 3,000 W"
unfoldable pub engagement_f : Engagement
engagement_f = engagement 0 2 Up 3000

-- "(X 2, Y 3), one point (.., method 1, mask 0, 5,000 W each way"; "First two readings of days 0 to 3: 10000 10000; 9000 9001; 8000 8000; 7000 7000."
unfoldable pub book_f : Point → Book
book_f p =
    plain 2 3 (p ∷ [])
    (by_quarter ((10000 ∷ 10000 ∷ []) ∷ (9000 ∷ 9001 ∷ []) ∷ (8000 ∷ 8000 ∷ []) ∷ (7000 ∷ 7000 ∷ []) ∷ []))
    (engagement_f ∷ [])

unfoldable pub case_f : Book
case_f = book_f (point 1 HighXOfY 5000)

-- the upward series of these points, by supplier
unfoldable pub series : Series
series = record { partner = 3; supply = OffTake; delivery = Up }

-- "readings 1000, 1000, 1001, X 3", "less 900: ..; three such in a row"
unfoldable pub thirds : Book
thirds = plain 3 3 (point 1 HighXOfY 5000 ∷ []) (by_day (1000 ∷ 1000 ∷ 1001 ∷ 900 ∷ [])) (engagement 0 3 Up 100 ∷ [])

-- "two points of 15,120 in one series": half a watt at each
unfoldable pub halves : Book
halves =
    plain 2 2 (point 1 HighXOfY 5000 ∷ point 2 HighXOfY 5000 ∷ []) (by_day (0 ∷ 1 ∷ 0 ∷ 0 ∷ []))
    (engagement 0 1 Up 1 ∷ engagement 1 1 Up 1 ∷ [])

-- "5000 to 5600, limit 400, requested 500", and the same upward: "reading above baseline"
unfoldable pub risen : Direction → Book
risen direction = plain 1 1 (point 1 LastQuarter 400 ∷ []) (by_day (0 ∷ 0 ∷ 5000 ∷ 5600 ∷ [])) (engagement 0 1 direction 500 ∷ [])

-- "sums 7, 7, 5 with X 1", over two quarter-hours
unfoldable pub equal_sums : Book
equal_sums =
    plain 1 3 (point 1 HighXOfY 5000 ∷ []) (by_quarter ((3 ∷ 4 ∷ []) ∷ (2 ∷ 5 ∷ []) ∷ (5 ∷ 0 ∷ []) ∷ []))
    (engagement 0 2 Up 100 ∷ [])

-- "window mean 6,100 against 6,000": the windows are quarter-hours 72 to 83 of the day before
unfoldable pub shifted : ℕ → ℕ → Reading
shifted d q =
    Some (pos (cond (leb 84 q) 9000 (cond (leb 72 q && eqb d 2) (6000 + 200 * (q % 2)) (cond (leb 72 q) 6000 3000))))

unfoldable pub windows : Book
windows = plain 2 2 (point 1 Adjusted 5000 ∷ []) shifted (engagement 0 1 Up 100 ∷ [])

-- watts in grains, with a sign
abbrev pub plus : ℕ → ℤ
plus n = pos (grains n)

abbrev pub minus : ℕ → ℤ
minus n = neg_ℤ (pos (grains n))

pub record Checked : Type 0 where
  -- "P1 case F baselines: 9,500 W and 287,295,120 grains."
  pub p1 : map (baseline case_f engagement_f) (0 ∷ 1 ∷ []) ≡ plus 9500 ∷ pos 287295120 ∷ []
  -- "P2 delivered: 75,600,000 and 75,615,120."
  pub p2 : map (delivered case_f engagement_f) (0 ∷ 1 ∷ []) ≡ 75600000 ∷ 75615120 ∷ []
  -- "P3 FSP corrections: 15,120,000 and 15,104,880."
  pub p3 : map (fsp_correction case_f engagement_f) (0 ∷ 1 ∷ []) ≡ pos 15120000 ∷ pos 15104880 ∷ []
  -- "P4 readings 1000, 1000, 1001, X 3: 30,250,080."
  pub p4 : baseline thirds (engagement 0 3 Up 100) 0 ≡ pos 30250080
  -- "P5 less 900: 3,034,080; three such in a row write 100, 100, 101."
  pub p5 : delivered thirds (engagement 0 3 Up 100) 0 ≡ 3034080
  pub p5_written : map (series_watts thirds Toe01 7 series) (1 ∷ 2 ∷ 3 ∷ []) ≡ 100 ∷ 100 ∷ 101 ∷ []
  -- "P6 two points of 15,120 in one series: 1 W."
  pub p6 : map (λ e. delivered halves e 0) halves.engagements ≡ 15120 ∷ 15120 ∷ []
  pub p6_written : series_watts halves Toe01 7 series 1 ≡ 1
  -- "P7 down, 5000 to 5600, limit 400, requested 500: -400 and -100."
  pub p7 : rows (risen Down) ≡ plus 5000 ∷ plus 400 ∷ minus 400 ∷ minus 100 ∷ pos 0 ∷ []
  -- "P8 up, reading above baseline: 0, all to the FSP."
  pub p8 : rows (risen Up) ≡ plus 5000 ∷ pos 0 ∷ pos 0 ∷ plus 500 ∷ pos 0 ∷ []
  -- "P9 sums 7, 7, 5 with X 1: the later 7."
  pub p9 : map (day_sum equal_sums (engagement 0 2 Up 100)) (0 ∷ 1 ∷ 2 ∷ []) ≡ pos 7 ∷ pos 7 ∷ pos 5 ∷ []
  pub p9_taken : taken equal_sums (engagement 0 2 Up 100) ≡ 1 ∷ []
  pub p9_baselines : map (baseline equal_sums (engagement 0 2 Up 100)) (0 ∷ 1 ∷ []) ≡ plus 2 ∷ plus 5 ∷ []
  -- "P10 window mean 6,100 against 6,000: plus 100 W."
  pub p10 : mean (own_window windows (engagement 0 1 Up 100)) ≡ plus 6100
  pub p10_days : mean (flat_map (day_window windows (engagement 0 1 Up 100)) (taken windows (engagement 0 1 Up 100))) ≡ plus 6000
  pub p10_addend : addend windows (engagement 0 1 Up 100) ≡ plus 100
  pub p10_baseline : (high windows (engagement 0 1 Up 100) 0 ≡ plus 3000) × (baseline windows (engagement 0 1 Up 100) 0 ≡ plus 3100)
  -- none of these books is refused
  pub accepted : map settlement_refusal (case_f ∷ thirds ∷ halves ∷ risen Down ∷ risen Up ∷ equal_sums ∷ windows ∷ []) ≡ none ∷ none ∷ none ∷ none ∷ none ∷ none ∷ none ∷ []
