-- The March book is accepted, and its TOE01 file carries 100 W at position 2,685: 100 W by the last quarter-hour less 0 W read. Before that position no engagement
-- adds to the series, so none of the 2,684 is gone through.
use Rattle.std.specs.Prelude.{◌≡◌, refl, Bool, true, false, cond, not, ◌&&◌, ℕ, suc, ◌+◌, ◌*◌, ◌/◌, ◌≤◌, eqb, ltb, length, take, drop}
use Rattle.std.proofs.Common.{sym, ap, ◌∙◌, zero-add, add-zero, arith, lit≤, length-append, take_at, drop_at, to_z, ne_eqb}
use Rattle.std.proofs.Math.Bool.{and-false}
use Rattle.std.proofs.Math.Option.{none}
use Rattle.std.proofs.Math.Nat.{zero-div}
use Rattle.std.specs.Int.{w32}
use Rattle.std.proofs.lemmas.Bool.{lt-leb}
use Rattle.integers.specs.First.{first, any_below}
use Rattle.integers.specs.Ranges.{range}
use Rattle.integers.specs.Running.{up_to, floor_at}
use Rattle.integers.proofs.RunningLaws.{up_to-cong, up_to-zero}
use Rattle.integers.specs.Sums.{sum_by}
use Rattle.grains.specs.Grains.{per_watt}
use Rattle.wire.specs.Numbers.{little}
use Rattle.wire.specs.Readings.{Reading, reading_of}
use Rattle.calendar.specs.Dates.{leap, month_length, calendar_days}
use Rattle.quarters.specs.Quarters.{days_of, quarters_by, quarters, day_start, quarters_of, position, month_quarters}
use Rattle.book.specs.declared.Supply.TheVariants.{OffTake}
use Rattle.book.specs.declared.Direction.TheVariants.{Up}
use Rattle.book.specs.declared.Engagement.{Engagement}
use Rattle.book.specs.Header.{version_of, calendar_of, point_count, engagement_count, header_good, header_fields, sizes, adjoining, calendar_section, table_section, register_section, reading_section, engagement_section}
use Rattle.book.specs.Tables.{calendar_good, table_good}
use Rattle.book.specs.Register.{bad_point, numbers_good, rest_good, bytes_good}
use Rattle.book.specs.Metering.{meter_at, reading_good, bad_reading}
use Rattle.book.specs.Engagements.{engagement_at, bad_engagement, place_good, terms_good}
use Rattle.book.specs.Judged.{refusal_of}
use Rattle.book.specs.Book.{Book, book_of}
use Rattle.volumes.specs.Quarters.{quarter_hours, start}
use Rattle.volumes.specs.Baseline.{point_of, watts, known, complete, reading_before, own_reading, last_reading, baseline_by, baseline}
use Rattle.refusals.specs.Refusals.{or_else}
use Rattle.volumes.specs.Settlement.{needed_by, needed, too_few, refusal_number, row_refusal, refusal_from, settlement_refusal, limited, delivered_by, delivered, book_refusal}
use Rattle.volumes.specs.Sheets.{covers, quarter_at}
use Rattle.volumes.specs.declared.Series.{Series}
use Rattle.volumes.specs.Series.{Kind, Toe01, takes, receiver_of, partner_of, same_supply, same_direction, is_point, is_engagement, grains_of, grains_at, series_watts, series_of}
use Rattle.volumes.proofs.ClockExamplesLaws.{march as month, clocks-ranged}
use Rattle.message.proofs.PositionsLaws.{march-last}
use Rattle.reports.proofs.GivenLaws.{words-length, word_at, none_first, Parts, Good, book_by, passes, says, carries-by, accepted-by}
use Rattle.reports.specs.Small.{table, register, Carries}
use Rattle.reports.specs.March.{header, calendar, watt_at, readings, engagements, march, MarchShown}

-- ---- readings

nothing-behind : (j : ℕ) → 0 + 3068 ≤ j → watt_at j ≡ 0
unfolding watt_at
nothing-behind j h = rw (ne_eqb j 2687 (λ e. omega arith))

reading-at : (i : ℕ) → little (take 4 (drop (4 * i) readings)) ≡ watt_at i
unfolding readings
reading-at i = word_at watt_at 0 3068 i nothing-behind ∙ ap watt_at (omega arith)

readings-length : length readings ≡ 12272
unfolding readings
readings-length = words-length watt_at 0 3068

reading-good : (i : ℕ) → bad_reading readings i ≡ false
unfolding reading_good reading_of watt_at
reading-good i = ap (λ (n : ℕ). not (reading_good (reading_of (to_z w32 n)))) (reading-at i) ∙ go (eqb i 2687)
  where
    go : (b : Bool) → not (reading_good (reading_of (to_z w32 (cond b 100 0)))) ≡ false
    go true = refl
    go false = refl

-- ---- the parts

march-length : length march ≡ 12448
unfolding march header calendar table register engagements
march-length = simp (length-append, readings-length)

calendar-of : calendar_of march ≡ month
unfolding march header month
calendar-of = let k = clocks-ranged.0.clock in λ i. record { year = 2021; month = 3; lead = 1; clock = sym k i }

counts_of : (version_of march ≡ 1) × (point_count march ≡ 1) × (engagement_count march ≡ 1)
unfolding march header
counts_of = (refl, refl, refl)

calendar-is : calendar_section march ≡ calendar
unfolding march header calendar
calendar-is = refl

table_is : table_section march ≡ table
unfolding march header calendar table
table_is = refl

register-is : register_section march ≡ register
unfolding march header calendar table register
register-is = refl

readings-is : reading_section march ≡ readings
unfolding march header calendar table register
readings-is = take_at readings engagements 12272 readings-length

sixteen : take 16 engagements ≡ engagements
unfolding engagements
sixteen = refl

engagements-is : engagement_section march ≡ engagements
unfolding march header calendar table register
engagements-is = ap (take 16) (drop_at readings engagements 12272 readings-length) ∙ sixteen

parts : Parts march 1 month 1 1 calendar table register readings engagements
parts =
    record {
      version-of = counts_of.0;
      month = calendar-of;
      points_of = counts_of.1;
      rows_of = counts_of.2;
      calendar_is = calendar-is;
      table_is = table_is;
      register_is = register-is;
      readings_is = readings-is;
      engagements_is = engagements-is;
    }

-- ---- refusals 1 to 7

quarters-are : quarters_of month ≡ 3068
unfolding month day_start quarters quarters_by calendar_days month_length leap
quarters-are = refl

header-good : header_good march ≡ true
unfolding header_good header_fields march header
header-good = rw march-length refl

layout-good : adjoining march 0 56 (sizes month 1 1) ≡ true
unfolding march header month calendar_days month_length leap day_start quarters quarters_by
layout-good = rw march-length refl

calendar-good : calendar_good calendar ≡ true
unfolding calendar_good any_below calendar
calendar-good = refl

table-good : table_good table ≡ true
unfolding table_good table
table-good = refl

register-good : first (bad_point 1 (days_of month) register) 0 1 ≡ none
unfolding month first bad_point numbers_good rest_good bytes_good any_below register calendar_days month_length leap
register-good = refl

engagements-good : first (bad_engagement month 1 engagements) 0 1 ≡ none
unfolding month first bad_engagement place_good terms_good engagements quarters_by quarters calendar_days month_length leap
engagements-good = refl

good : Good march 1 month 1 1 calendar table register readings engagements
good =
    record {
      header = header-good;
      layout = layout-good;
      categories = calendar-good;
      numbers = table-good;
      registered = register-good;
      read = rw quarters-are (none_first (bad_reading readings) 0 3068 (λ i h. reading-good i));
      engaged = engagements-good;
    }

march-passes : refusal_of march ≡ none
march-passes = passes march 1 month 1 1 calendar table register readings engagements parts good

-- ---- the book that it says

reading : ℕ → ℕ → Reading
reading p k = reading_of (to_z w32 (watt_at (3068 * p + k)))

march_book : Book
march_book = book_by 1 month 1 1 calendar table register reading engagements

meter-is : (p k : ℕ) → meter_at month readings p k ≡ reading p k
unfolding reading
meter-is p k =
    ap (λ (n : ℕ). reading_of (to_z w32 (little (take 4 (drop (4 * (n * p + k)) readings))))) quarters-are
    ∙ ap (λ (n : ℕ). reading_of (to_z w32 n)) (reading-at (3068 * p + k))

book-is : book_of march ≡ march_book
unfolding march_book
book-is = says march 1 month 1 1 calendar table register readings engagements parts reading meter-is

-- ---- refusals 8 and 9

march-settles : settlement_refusal march_book ≡ none
unfolding march_book reading month calendar table register watt_at engagements settlement_refusal refusal_from row_refusal refusal_number needed needed_by too_few complete known own_reading last_reading reading_before point_of start quarter_hours day_start quarters quarters_by calendar_days month_length leap range reading_of
march-settles = refl

march-refusal : book_refusal march ≡ none
unfolding book_refusal or_else
march-refusal = rw march-passes (ap settlement_refusal book-is ∙ march-settles)

-- ---- the watts

-- a position before which a series has no grains has its own alone, and one at which it has none adds nothing to the floor
own-added : (n : ℕ) (g : ℕ → ℕ) (p : ℕ) → up_to g p ≡ 0 → floor_at n g (suc p) ≡ g (suc p) / n
unfolding floor_at up_to
own-added n g p e = rw (e, zero-div n, zero-add (g (suc p))) (omega arith)

none-added : (n : ℕ) (g : ℕ → ℕ) (p : ℕ) → g (suc p) ≡ 0 → floor_at n g (suc p) ≡ 0
unfolding floor_at up_to
none-added n g p e = rw (e, add-zero (up_to g p)) (omega arith)

-- an engagement that doesn't cover a position adds nothing there
not_covered : (book : Book) (kind : Kind) (receiver : ℕ) (s : Series) (p : ℕ) (e : Engagement) → covers book.calendar e p ≡ false → grains_of book kind receiver s p e ≡ 0
unfolding grains_of
not_covered book kind receiver s p e h = rw (h, and-false (is_engagement book kind receiver s e)) refl

march-grains : ℕ → ℕ
march-grains = grains_at march_book Toe01 7 (series_of 3 OffTake Up)

-- the one engagement covers position 2,685 alone
later : (p : ℕ) → p ≤ 2684 → covers month (engagement_at engagements 0) p ≡ false
unfolding covers position month engagements day_start quarters quarters_by
later p h = ap (λ b. b && ltb p 2686) (lt-leb 2685 p (omega arith))

none_before : (p : ℕ) → p ≤ 2684 → march-grains p ≡ 0
unfolding march-grains grains_at march_book range sum_by
none_before p h = omega (arith, not_covered march_book Toe01 7 (series_of 3 OffTake Up) p (engagement_at engagements 0) (later p h))

grains-are : (march-grains 2685 ≡ 3024000) × (march-grains 2689 ≡ 0)
unfolding march-grains march_book reading month calendar table register watt_at engagements grains_at grains_of is_engagement is_point takes receiver_of partner_of same_supply same_direction sum_by covers quarter_at position delivered delivered_by limited baseline baseline_by watts own_reading last_reading reading_before point_of start quarter_hours day_start quarters quarters_by calendar_days month_length leap range reading_of
grains-are = (refl, refl)

watts-are : (series_watts march_book Toe01 7 (series_of 3 OffTake Up) 2685 ≡ 100) × (series_watts march_book Toe01 7 (series_of 3 OffTake Up) 2689 ≡ 0)
unfolding series_watts march-grains
watts-are =
    (own-added per_watt march-grains 2684 (up_to-cong march-grains (λ k. 0) 2684 (λ k a h. none_before k h) ∙ up_to-zero (λ k. 0) 2684 (λ k. refl)) ∙ ap (λ n. n / per_watt) grains-are.0, none-added per_watt march-grains 2688 grains-are.1)

month-long : month_quarters (book_of march).calendar ≡ 2972
unfolding march_book month month_quarters day_start quarters quarters_by calendar_days month_length leap
month-long = ap (λ b. month_quarters b.calendar) book-is

short : quarters (book_of march).calendar 28 ≡ 92
unfolding march_book month quarters quarters_by
short = ap (λ b. quarters b.calendar 28) book-is

march-carries : (p w : ℕ) → 1 ≤ p → p ≤ 2972 → series_watts march_book Toe01 7 (series_of 3 OffTake Up) p ≡ w → Carries march Toe01 7 3 p w
march-carries p w low high e =
    carries-by march march-passes march-refusal Toe01 7 3 p w low (omega (arith, month-long)) (ap (λ b. series_watts b Toe01 7 (series_of 3 OffTake Up) p) book-is ∙ e)

pub shown : MarchShown
shown =
    record {
      accepted = accepted-by march march-refusal;
      short = short;
      month = month-long;
      last = march-last 2021;
      carries = march-carries 2685 100 (lit≤ tt) (lit≤ tt) watts-are.0;
      not_later = march-carries 2689 0 (lit≤ tt) (lit≤ tt) watts-are.1;
    }
