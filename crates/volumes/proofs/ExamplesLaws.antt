-- The examples hold: each side computes to the other.
use Rattle.std.specs.Prelude.{refl}
use Rattle.std.proofs.Common.{sym, lit≤}
use mathlib.Core.List.{flat_map, zip, zip_with}
use Rattle.integers.specs.Ranges.{range}
use Rattle.integers.specs.Sums.{sum_by}
use Rattle.integers.specs.Running.{up_to, floor_at}
use Rattle.integers.specs.Keep.{keep}
use Rattle.integers.specs.First.{any_of, any_below}
use Rattle.calendar.specs.Dates.{calendar_days, month_length, leap}
use Rattle.calendar.proofs.ClocksLaws.{summer-clock}
use Rattle.quarters.specs.Quarters.{quarters_by, quarters, is_clock_change, day_start, position}
use Rattle.quarters.specs.QuartersInner.{Ranged}
use Rattle.volumes.specs.Quarters.{quarter_hours, start, looks_at, reference_quarter, reference, touches_day, touches}
use Rattle.volumes.specs.Ranking.{insert, ranked}
use Rattle.volumes.specs.Baseline.{point_of, watts, known, complete, mean, reading_before, window, own_reading, day_reading, day_readings, own_window, day_window, windowed, allowed, suits, engaged, clear, regular, eligible, before, eligible_days, latest, day_sum, taken, high, addend, last_reading, baseline_by, baseline}
use Rattle.volumes.specs.Settlement.{needed_by, needed, too_few, refusal_number, row_refusal, refusal_from, settlement_refusal, requested_at, limited, delivered_by, delivered, off_take_of, off_take_difference, off_take_share, injection_share, source_by, injection_by, signed, source_correction, fsp_correction, injection_correction, corrections, row, rows_of, rows}
use Rattle.volumes.specs.Sheets.{covers, quarter_at, parties_of, parties, share_of, correction_at, sheet_at, requested_by, requested_volume}
use Rattle.volumes.specs.Series.{takes, receiver_of, partner_of, same_supply, same_direction, is_point, is_engagement, grains_of, grains_at, series_watts}
use Rattle.volumes.specs.Examples.{june, point_for, point, engagement, book, plain, by_day, by_quarter, engagement_f, book_f, case_f, series, thirds, halves, risen, equal_sums, shifted, windows, Checked}
use Rattle.volumes.proofs.FurtherLaws.{one, next, on, flat, gap, rising, turns, one_party, crossing, three_parties, Further}

-- June 2021 has no clock-change day, nor have its lead days
pub june-ranged : Ranged june
unfolding june
june-ranged = record { from = lit≤ tt; to = lit≤ tt; january = lit≤ tt; december = lit≤ tt; some = lit≤ tt; few = lit≤ tt; clock = sym (summer-clock 2021 6 3 (lit≤ tt) (lit≤ tt) (lit≤ tt)) }

pub checked : Checked
unfolding june point_for point engagement book plain by_day by_quarter engagement_f book_f case_f series thirds halves risen equal_sums shifted windows quarters_by quarters is_clock_change day_start quarter_hours start looks_at reference_quarter reference touches_day touches any_below calendar_days month_length leap position insert ranked point_of watts known complete mean reading_before window own_reading day_reading day_readings own_window day_window windowed allowed suits engaged any_of clear regular eligible before keep eligible_days latest day_sum taken high addend last_reading baseline_by baseline needed_by needed too_few refusal_number row_refusal refusal_from settlement_refusal requested_at limited delivered_by delivered off_take_of off_take_difference off_take_share injection_share source_by injection_by signed source_correction fsp_correction injection_correction corrections row rows_of rows covers quarter_at takes receiver_of partner_of same_supply same_direction is_point is_engagement grains_of grains_at series_watts range sum_by up_to floor_at flat_map
checked =
    record {
      p1 = refl;
      p2 = refl;
      p3 = refl;
      p4 = refl;
      p5 = refl;
      p5_written = refl;
      p6 = refl;
      p6_written = refl;
      p7 = refl;
      p8 = refl;
      p9 = refl;
      p9_taken = refl;
      p9_baselines = refl;
      p10 = refl;
      p10_days = refl;
      p10_addend = refl;
      p10_baseline = (refl, refl);
      accepted = refl;
    }

pub further : Further
unfolding one next on flat gap rising turns one_party crossing three_parties june point_for point engagement book plain by_day by_quarter engagement_f book_f case_f series thirds halves risen equal_sums shifted windows quarters_by quarters is_clock_change day_start quarter_hours start looks_at reference_quarter reference touches_day touches any_below calendar_days month_length leap position insert ranked point_of watts known complete mean reading_before window own_reading day_reading day_readings own_window day_window windowed allowed suits engaged any_of clear regular eligible before keep eligible_days latest day_sum taken high addend last_reading baseline_by baseline needed_by needed too_few refusal_number row_refusal refusal_from settlement_refusal requested_at limited delivered_by delivered off_take_of off_take_difference off_take_share injection_share source_by injection_by signed source_correction fsp_correction injection_correction corrections row rows_of rows covers quarter_at parties_of parties share_of correction_at sheet_at requested_by requested_volume takes receiver_of partner_of same_supply same_direction is_point is_engagement grains_of grains_at series_watts range sum_by up_to floor_at flat_map zip zip_with
further =
    record {
      enough = refl;
      few = refl;
      last = refl;
      enough_windows = refl;
      few_windows = refl;
      own_missing = refl;
      first_row = refl;
      day_missing = refl;
      stepped_over = refl;
      other_category = refl;
      engaged_day = refl;
      engaged_later = refl;
      engaged_other = refl;
      engaged_both = (refl, refl);
      engaged_now = refl;
      engaged_own_window = refl;
      engaged_window = refl;
      engaged_enough = refl;
      engaged_few = refl;
      file_of_fsp = refl;
      file_of_supplier = refl;
      file_by_access = refl;
      sheet_of_source = refl;
      sheet_of_fsp = refl;
      sheets_down = (refl, refl);
      sheet_of_both = refl;
      limit_cuts = refl;
      annex_two = refl;
      both_injection = (refl, refl);
      to_injection = refl;
      from_injection = refl;
      both_off_take = refl;
      three_sheets = refl;
      all_columns = refl;
      source_columns = refl;
      party_zero = (refl, refl, refl);
      requested = (refl, refl);
    }
