-- The pool is accepted, and its files carry the watts that its points make together: a reading is a test on its place.
use Rattle.std.specs.Prelude.{◌≡◌, refl, Bool, true, false, cond, not, ◌||◌, ℕ, ◌+◌, ◌*◌, ◌≤◌, eqb, length, take, drop}
use Rattle.std.proofs.Common.{ap, ◌∙◌, arith, lit≤, length-append, take_at, drop_at, to_z, ne_eqb}
use Rattle.std.proofs.Math.Option.{none}
use Rattle.std.specs.Int.{w32}
use Rattle.integers.specs.First.{first, any_below}
use Rattle.integers.specs.Ranges.{range}
use Rattle.integers.specs.Running.{up_to, floor_at}
use Rattle.integers.specs.Sums.{sum_by}
use Rattle.integers.specs.Keep.{keep}
use Rattle.integers.specs.First.{any_of}
use Rattle.wire.specs.Numbers.{little}
use Rattle.wire.specs.Readings.{reading_of}
use Rattle.calendar.specs.declared.Clock.TheVariants.{Same}
use Rattle.calendar.proofs.ClocksLaws.{winter-clock}
use Rattle.calendar.specs.Dates.{leap, month_length, calendar_days}
use Rattle.quarters.specs.declared.Calendar.{Calendar}
use Rattle.book.specs.declared.Supply.TheVariants.{OffTake}
use Rattle.book.specs.declared.Direction.TheVariants.{Up}
use Rattle.quarters.specs.Quarters.{days_of, quarters_by, quarters, is_clock_change, day_start, quarters_of, position, month_quarters}
use Rattle.book.specs.Header.{version_of, calendar_of, point_count, engagement_count, header_good, header_fields, sizes, adjoining, calendar_section, table_section, register_section, reading_section, engagement_section}
use Rattle.book.specs.Tables.{calendar_good, table_good}
use Rattle.book.specs.Register.{bad_point, numbers_good, rest_good, bytes_good}
use Rattle.book.specs.Metering.{meter_at, reading_good, bad_reading}
use Rattle.book.specs.Engagements.{engagement_at, bad_engagement, place_good, terms_good}
use Rattle.book.specs.Judged.{refusal_of}
use Rattle.book.specs.Book.{Book, book_of}
use Rattle.volumes.specs.Quarters.{quarter_hours, start, looks_at, reference_quarter, reference}
use Rattle.volumes.specs.Ranking.{insert, ranked}
use Rattle.volumes.specs.Baseline.{point_of, watts, known, complete, mean, own_reading, day_reading, day_readings, day_window, windowed, allowed, suits, engaged, clear, regular, eligible, before, eligible_days, latest, day_sum, taken, high, baseline_by, baseline}
use Rattle.refusals.specs.Refusals.{or_else}
use Rattle.volumes.specs.Settlement.{needed_by, needed, too_few, refusal_number, row_refusal, refusal_from, settlement_refusal, limited, delivered_by, delivered, book_refusal}
use Rattle.volumes.specs.Sheets.{covers, quarter_at}
use Rattle.volumes.specs.Series.{Kind, Toe01, Toe02, Toe03, takes, receiver_of, partner_of, same_supply, same_direction, is_point, is_engagement, grains_of, grains_at, series_watts, series_of}
use Rattle.reports.specs.Small.{Carries}
use Rattle.reports.proofs.GivenLaws.{words-length, word_at, none_first, Parts, Good, book_by, passes, says, carries-by, accepted-by}
use Rattle.reports.specs.Pool.{header, calendar, table, register, watt_at, readings, engagements, pool, volume, PoolShown}

-- ---- readings

nothing-behind : (j : ℕ) → 0 + 8640 ≤ j → watt_at j ≡ 0
unfolding watt_at
nothing-behind j h = rw (ne_eqb j 0 (λ e. omega arith), ne_eqb j 2880 (λ e. omega arith), ne_eqb j 5760 (λ e. omega arith), ne_eqb j 5761 (λ e. omega arith))

reading-at : (i : ℕ) → little (take 4 (drop (4 * i) readings)) ≡ watt_at i
unfolding readings
reading-at i = word_at watt_at 0 8640 i nothing-behind ∙ ap watt_at (omega arith)

readings-length : length readings ≡ 34560
unfolding readings
readings-length = words-length watt_at 0 8640

-- ---- refusals 1 to 7

pool-length : length pool ≡ 34894
unfolding pool header calendar table register engagements
pool-length = simp (length-append, readings-length)

header-good : header_good pool ≡ true
unfolding header_good header_fields pool header
header-good = rw pool-length refl

calendar-is : calendar_section pool ≡ calendar
unfolding pool header calendar
calendar-is = refl

table_is : table_section pool ≡ table
unfolding pool header calendar table
table_is = refl

register-is : register_section pool ≡ register
unfolding pool header calendar table register
register-is = refl

readings-is : reading_section pool ≡ readings
unfolding pool header calendar table register
readings-is = take_at readings engagements 34560 readings-length

all-engagements : take 48 engagements ≡ engagements
unfolding engagements
all-engagements = refl

engagements-is : engagement_section pool ≡ engagements
unfolding pool header calendar table register
engagements-is = ap (take 48) (drop_at readings engagements 34560 readings-length) ∙ all-engagements

february : Calendar
february = record { year = 2021; month = 2; lead = 2; clock = Same }

calendar-of : calendar_of pool ≡ february
unfolding pool header february
calendar-of = let k = winter-clock 2021 2 2 (lit≤ tt) (lit≤ tt) in λ i. record { year = 2021; month = 2; lead = 2; clock = k i }

counts_of : (version_of pool ≡ 1) × (point_count pool ≡ 3) × (engagement_count pool ≡ 3)
unfolding pool header
counts_of = (refl, refl, refl)

quarters-are : quarters_of february ≡ 2880
unfolding february day_start quarters quarters_by calendar_days month_length leap
quarters-are = refl

parts : Parts pool 1 february 3 3 calendar table register readings engagements
parts =
    record {
      version-of = counts_of.0;
      month = calendar-of;
      points_of = counts_of.1;
      rows_of = counts_of.2;
      calendar_is = calendar-is;
      table_is = table_is;
      register_is = register-is;
      readings_is = readings-is;
      engagements_is = engagements-is;
    }

layout-good : adjoining pool 0 56 (sizes february 3 3) ≡ true
unfolding pool header february calendar_days month_length leap day_start quarters quarters_by
layout-good = rw pool-length refl

reading-good : (i : ℕ) → bad_reading readings i ≡ false
unfolding reading_good reading_of watt_at
reading-good i = ap (λ (n : ℕ). not (reading_good (reading_of (to_z w32 n)))) (reading-at i) ∙ go (eqb i 0 || (eqb i 2880 || (eqb i 5760 || eqb i 5761)))
  where
    go : (b : Bool) → not (reading_good (reading_of (to_z w32 (cond b 1 0)))) ≡ false
    go true = refl
    go false = refl

calendar-good : calendar_good calendar ≡ true
unfolding calendar_good any_below calendar
calendar-good = refl

table-good : table_good table ≡ true
unfolding table_good table
table-good = refl

register-good : first (bad_point 1 (days_of february) register) 0 3 ≡ none
unfolding february first bad_point numbers_good rest_good bytes_good any_below register calendar_days month_length leap
register-good = refl

engagements-good : first (bad_engagement february 3 engagements) 0 3 ≡ none
unfolding february first bad_engagement place_good terms_good engagements quarters_by quarters calendar_days month_length leap
engagements-good = refl

good : Good pool 1 february 3 3 calendar table register readings engagements
good =
    record {
      header = header-good;
      layout = layout-good;
      categories = calendar-good;
      numbers = table-good;
      registered = register-good;
      read = rw quarters-are (none_first (bad_reading readings) 0 8640 (λ i h. reading-good i));
      engaged = engagements-good;
    }

pool-passes : refusal_of pool ≡ none
pool-passes = passes pool 1 february 3 3 calendar table register readings engagements parts good

-- ---- the book that it says

pool_book : Book
pool_book = book_by 1 february 3 3 calendar table register (λ p k. reading_of (to_z w32 (watt_at (2880 * p + k)))) engagements

meter-is : (p k : ℕ) → meter_at february readings p k ≡ reading_of (to_z w32 (watt_at (2880 * p + k)))
meter-is p k =
    ap (λ (n : ℕ). reading_of (to_z w32 (little (take 4 (drop (4 * (n * p + k)) readings))))) quarters-are
    ∙ ap (λ (n : ℕ). reading_of (to_z w32 n)) (reading-at (2880 * p + k))

book-is : book_of pool ≡ pool_book
unfolding pool_book
book-is = says pool 1 february 3 3 calendar table register readings engagements parts (λ p k. reading_of (to_z w32 (watt_at (2880 * p + k)))) meter-is

-- ---- refusals 8 and 9, and the watts

pool-settles : settlement_refusal pool_book ≡ none
unfolding pool_book february calendar table register watt_at engagements settlement_refusal refusal_from row_refusal refusal_number needed needed_by too_few complete known own_reading day_reading day_readings day_window windowed allowed suits engaged any_of clear regular eligible before keep eligible_days point_of start is_clock_change looks_at reference_quarter reference quarter_hours day_start quarters quarters_by calendar_days month_length leap range reading_of
pool-settles = refl

pool-refusal : book_refusal pool ≡ none
unfolding book_refusal or_else
pool-refusal = rw pool-passes (ap settlement_refusal book-is ∙ pool-settles)

month-long : 2 ≤ month_quarters (book_of pool).calendar
unfolding pool_book february month_quarters day_start quarters quarters_by calendar_days month_length leap
month-long = rw book-is (lit≤ tt)

half-watts : (delivered pool_book (engagement_at engagements 0) 0 ≡ 15120) × (delivered pool_book (engagement_at engagements 1) 0 ≡ 15120) × (delivered pool_book (engagement_at engagements 2) 0 ≡ 15120) × (delivered pool_book (engagement_at engagements 2) 1 ≡ 15120)
unfolding pool_book february calendar table register watt_at engagements insert ranked mean watts complete known own_reading day_reading day_readings day_window windowed allowed suits engaged any_of clear regular eligible before keep eligible_days latest day_sum taken high baseline_by baseline limited delivered_by delivered point_of start is_clock_change looks_at reference_quarter reference quarter_hours day_start quarters quarters_by calendar_days month_length leap range reading_of sum_by
half-watts = (refl, refl, refl, refl)

-- a series' watts at the first position, and at the second
watts-are : (series_watts pool_book Toe01 7 (series_of 3 OffTake Up) 1 ≡ 1) × (series_watts pool_book Toe02 3 (series_of 7 OffTake Up) 1 ≡ 1) × (series_watts pool_book Toe03 3 (series_of 13 OffTake Up) 1 ≡ 0) × (series_watts pool_book Toe03 3 (series_of 13 OffTake Up) 2 ≡ 1)
unfolding pool_book february calendar table register watt_at engagements insert ranked mean watts complete known own_reading day_reading day_readings day_window windowed allowed suits engaged any_of clear regular eligible before keep eligible_days latest day_sum taken high baseline_by baseline limited delivered_by delivered point_of start is_clock_change looks_at reference_quarter reference quarter_hours day_start quarters quarters_by calendar_days month_length leap range reading_of sum_by series_watts floor_at up_to grains_at grains_of is_engagement is_point takes receiver_of partner_of same_supply same_direction covers quarter_at position
watts-are = (refl, refl, refl, refl)

delivers : (i k : ℕ) → delivered pool_book (engagement_at engagements i) k ≡ 15120 → volume i k ≡ 15120
delivers i k e = ap (λ b. delivered b (engagement_at engagements i) k) book-is ∙ e

pool-carries : (kind : Kind) (receiver partner p w : ℕ) → 1 ≤ p → p ≤ 2 → series_watts pool_book kind receiver (series_of partner OffTake Up) p ≡ w → Carries pool kind receiver partner p w
pool-carries kind receiver partner p w low high e =
    carries-by pool pool-passes pool-refusal kind receiver partner p w low (omega (arith, month-long)) (ap (λ b. series_watts b kind receiver (series_of partner OffTake Up) p) book-is ∙ e)

pub shown : PoolShown
shown =
    record {
      accepted = accepted-by pool pool-refusal;
      halves = (delivers 0 0 half-watts.0, delivers 1 0 half-watts.1);
      provider = pool-carries Toe01 7 3 1 1 (omega arith) (omega arith) watts-are.0;
      supplier = pool-carries Toe02 3 7 1 1 (omega arith) (omega arith) watts-are.1;
      halves_in_a_row = (delivers 2 0 half-watts.2, delivers 2 1 half-watts.3);
      access_none = pool-carries Toe03 3 13 1 0 (omega arith) (omega arith) watts-are.2;
      access_carried = pool-carries Toe03 3 13 2 1 (omega arith) (omega arith) watts-are.3;
    }
