-- The small book is accepted, and its TOE01 file carries 1,000 W at the first position: 1,000 W by the last quarter-hour less 0 W read.
use Rattle.std.specs.Prelude.{◌≡◌, refl, true, false, not, ℕ, zero, suc, ◌+◌, ◌*◌, ◌≤◌, ◌<◌, length, take, drop, replicate}
use Rattle.std.proofs.Common.{ap, ◌∙◌, arith, lit≤, length-append, take_at, drop_at, to_z}
use Rattle.std.proofs.Math.Option.{none}
use Rattle.std.proofs.lemmas.List.{length-replicate}
use Rattle.std.specs.Int.{w32}
use Rattle.integers.specs.First.{first, any_below}
use Rattle.integers.specs.Ranges.{range}
use Rattle.integers.specs.Running.{up_to, floor_at}
use Rattle.integers.specs.Sums.{sum_by}
use Rattle.wire.specs.Numbers.{little}
use Rattle.wire.specs.Readings.{reading_of}
use Rattle.calendar.specs.declared.Clock.TheVariants.{Same}
use Rattle.calendar.proofs.ClocksLaws.{winter-clock}
use Rattle.calendar.specs.Dates.{leap, month_length, calendar_days}
use Rattle.book.specs.declared.Supply.TheVariants.{OffTake}
use Rattle.book.specs.declared.Direction.TheVariants.{Up}
use Rattle.quarters.specs.declared.Calendar.{Calendar}
use Rattle.quarters.specs.Quarters.{days_of, quarters_by, quarters, day_start, quarters_of, position, month_quarters}
use Rattle.book.specs.Header.{version_of, calendar_of, point_count, engagement_count, header_good, header_fields, sizes, adjoining, calendar_section, table_section, register_section, reading_section, engagement_section}
use Rattle.book.specs.Tables.{calendar_good, table_good}
use Rattle.book.specs.Register.{bad_point, numbers_good, rest_good, bytes_good}
use Rattle.book.specs.Metering.{meter_at, reading_good, bad_reading}
use Rattle.book.specs.Engagements.{bad_engagement, place_good, terms_good}
use Rattle.book.specs.Judged.{refusal_of}
use Rattle.book.specs.Book.{Book, book_of}
use Rattle.volumes.specs.Quarters.{quarter_hours, start}
use Rattle.volumes.specs.Baseline.{point_of, watts, known, complete, reading_before, own_reading, last_reading, baseline_by, baseline}
use Rattle.refusals.specs.Refusals.{or_else}
use Rattle.volumes.specs.Settlement.{needed_by, needed, too_few, refusal_number, row_refusal, refusal_from, settlement_refusal, limited, delivered_by, delivered, book_refusal}
use Rattle.volumes.specs.Sheets.{covers, quarter_at}
use Rattle.volumes.specs.Series.{Toe01, takes, receiver_of, partner_of, same_supply, same_direction, is_point, is_engagement, grains_of, grains_at, series_watts, series_of}
use Rattle.reports.proofs.GivenLaws.{none_first, Parts, Good, book_by, passes, says, carries-by, accepted-by}
use Rattle.reports.specs.Small.{header, calendar, table, register, readings, engagements, small, SmallShown}

small-length : length small ≡ 11309
unfolding small header calendar table register readings engagements
small-length = simp length-append

header-good : header_good small ≡ true
unfolding header_good header_fields small header
header-good = rw small-length refl

-- ---- the sections

readings-length : length readings ≡ 11136
unfolding readings
readings-length = ap (λ n. suc (suc (suc (suc n)))) (length-replicate {A = ℕ} 11132 0)

calendar-is : calendar_section small ≡ calendar
unfolding small header calendar
calendar-is = refl

table_is : table_section small ≡ table
unfolding small header calendar table
table_is = refl

register-is : register_section small ≡ register
unfolding small header calendar table register
register-is = refl

readings-is : reading_section small ≡ readings
unfolding small header calendar table register
readings-is = take_at readings engagements 11136 readings-length

sixteen : take 16 engagements ≡ engagements
unfolding engagements
sixteen = refl

engagements-is : engagement_section small ≡ engagements
unfolding small header calendar table register
engagements-is = ap (take 16) (drop_at readings engagements 11136 readings-length) ∙ sixteen

-- ---- the month, of which no day has another length

february : Calendar
february = record { year = 2021; month = 2; lead = 1; clock = Same }

calendar-of : calendar_of small ≡ february
unfolding small header february
calendar-of = let k = winter-clock 2021 2 1 (lit≤ tt) (lit≤ tt) in λ i. record { year = 2021; month = 2; lead = 1; clock = k i }

counts_of : (version_of small ≡ 1) × (point_count small ≡ 1) × (engagement_count small ≡ 1)
unfolding small header
counts_of = (refl, refl, refl)

quarters-are : quarters_of february * 1 ≡ 2784
unfolding february day_start quarters quarters_by calendar_days month_length leap
quarters-are = refl

parts : Parts small 1 february 1 1 calendar table register readings engagements
parts =
    record {
      version-of = counts_of.0;
      month = calendar-of;
      points_of = counts_of.1;
      rows_of = counts_of.2;
      calendar_is = calendar-is;
      table_is = table_is;
      register_is = register-is;
      readings_is = readings-is;
      engagements_is = engagements-is;
    }

-- ---- refusals 1 to 7

layout-good : adjoining small 0 56 (sizes february 1 1) ≡ true
unfolding small header february calendar_days month_length leap day_start quarters quarters_by
layout-good = rw small-length refl

-- readings of 0 W
zeros-at : (j m : ℕ) → 4 * j + 4 ≤ m → little (take 4 (drop (4 * j) (replicate m 0))) ≡ 0
zeros-at j zero h = absurd (omega arith)
zeros-at j (suc zero) h = absurd (omega arith)
zeros-at j (suc (suc zero)) h = absurd (omega arith)
zeros-at j (suc (suc (suc zero))) h = absurd (omega arith)
zeros-at zero (suc (suc (suc (suc m)))) h = refl
zeros-at (suc j) (suc (suc (suc (suc m)))) h =
    let e : 4 * suc j ≡ suc (suc (suc (suc (4 * j)))) = omega arith in
    ap (λ n. little (take 4 (drop n (replicate (suc (suc (suc (suc m)))) 0)))) e ∙ zeros-at j m (omega arith)

reading-good : (i : ℕ) → i < 2784 → bad_reading readings i ≡ false
unfolding readings reading_good reading_of
reading-good zero h = refl
reading-good (suc j) h =
    let e : 4 * suc j ≡ suc (suc (suc (suc (4 * j)))) = omega arith in
    let z : little (take 4 (drop (4 * suc j) readings)) ≡ 0 = ap (λ n. little (take 4 (drop n readings))) e ∙ zeros-at j 11132 (omega arith) in
    ap (λ n. not (reading_good (reading_of (to_z w32 n)))) z

calendar-good : calendar_good calendar ≡ true
unfolding calendar_good any_below calendar
calendar-good = refl

table-good : table_good table ≡ true
unfolding table_good table
table-good = refl

register-good : first (bad_point 1 (days_of february) register) 0 1 ≡ none
unfolding february first bad_point numbers_good rest_good bytes_good any_below register calendar_days month_length leap
register-good = refl

engagements-good : first (bad_engagement february 1 engagements) 0 1 ≡ none
unfolding february first bad_engagement place_good terms_good engagements quarters_by quarters calendar_days month_length leap
engagements-good = refl

good : Good small 1 february 1 1 calendar table register readings engagements
good =
    record {
      header = header-good;
      layout = layout-good;
      categories = calendar-good;
      numbers = table-good;
      registered = register-good;
      read = rw quarters-are (none_first (bad_reading readings) 0 2784 reading-good);
      engaged = engagements-good;
    }

small-passes : refusal_of small ≡ none
small-passes = passes small 1 february 1 1 calendar table register readings engagements parts good

small_book : Book
small_book = book_by 1 february 1 1 calendar table register (meter_at february readings) engagements

book-is : book_of small ≡ small_book
unfolding small_book
book-is = says small 1 february 1 1 calendar table register readings engagements parts (meter_at february readings) (λ p k. refl)

-- ---- refusals 8 and 9, and the watts

small-settles : settlement_refusal small_book ≡ none
unfolding small_book february calendar table register readings engagements settlement_refusal refusal_from row_refusal refusal_number needed needed_by too_few complete known own_reading last_reading reading_before point_of start quarter_hours day_start quarters quarters_by calendar_days month_length leap range reading_of
small-settles = refl

small-watts : series_watts small_book Toe01 7 (series_of 3 OffTake Up) 1 ≡ 1000
unfolding small_book february calendar table register readings engagements series_watts floor_at up_to grains_at grains_of is_engagement is_point takes receiver_of partner_of same_supply same_direction sum_by covers quarter_at position delivered delivered_by limited baseline baseline_by watts own_reading last_reading reading_before point_of start quarter_hours day_start quarters quarters_by calendar_days month_length leap range reading_of
small-watts = refl

small-refusal : book_refusal small ≡ none
unfolding book_refusal or_else
small-refusal = rw small-passes (ap settlement_refusal book-is ∙ small-settles)

month-long : 1 ≤ month_quarters (book_of small).calendar
unfolding small_book february month_quarters day_start quarters quarters_by calendar_days month_length leap
month-long = rw book-is (lit≤ tt)

pub shown : SmallShown
shown =
    record {
      accepted = accepted-by small small-refusal;
      carries = carries-by small small-passes small-refusal Toe01 7 3 1 1000 (omega arith) month-long (ap (λ b. series_watts b Toe01 7 (series_of 3 OffTake Up) 1) book-is ∙ small-watts);
    }
