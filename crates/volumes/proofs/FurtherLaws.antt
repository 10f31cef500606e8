-- More examples, computed: edges that P1 to P10 leave open.
use Rattle.std.specs.Prelude.{◌≡◌, cond, ◌&&◌, List, [], ◌∷◌, map, ℕ, ◌%◌, eqb, leb, ℤ, pos, neg_ℤ, Some, None}
use Rattle.std.proofs.Math.Option.{none}
use Rattle.book.specs.declared.Supply.TheVariants.{OffTake}
use Rattle.book.specs.declared.Method.{Method}
use Rattle.book.specs.declared.Method.TheVariants.{LastQuarter, HighXOfY, Adjusted}
use Rattle.book.specs.declared.Direction.{Direction}
use Rattle.book.specs.declared.Direction.TheVariants.{Up, Down}
use Rattle.book.specs.declared.Point.{Point}
use Rattle.book.specs.declared.Engagement.{Engagement}
use Rattle.refusals.specs.Refusals.{refused}
use Rattle.book.specs.Book.{Book}
use Rattle.volumes.specs.Baseline.{latest, baseline}
use Rattle.volumes.specs.Settlement.{settlement_refusal, rows}
use Rattle.volumes.specs.Sheets.{parties, sheet_at, requested_volume}
use Rattle.volumes.specs.Series.{Toe01, Toe02, Toe03, series_watts}
use Rattle.volumes.specs.Examples.{point_for, point, engagement, book, plain, by_day, book_f, case_f, series, risen, plus, minus}

-- an engagement of one quarter-hour, and of the next one
unfoldable pub one : Engagement
one = engagement 0 1 Up 100

unfoldable pub next : Engagement
next = record { point = 0; day = 3; first = 1; count = 1; direction = Up; notice = 0; requested = 100 }

-- of a point, on a day, in a quarter-hour
unfoldable pub on : ℕ → ℕ → ℕ → Engagement
on p day first = record { point = p; day = day; first = first; count = 1; direction = Up; notice = 0; requested = 100 }

-- four days, by any method and Y
unfoldable pub flat : Method → ℕ → List Engagement → Book
flat method y engagements = plain 1 y (point 1 method 5000 ∷ []) (by_day (5 ∷ 6 ∷ 7 ∷ 8 ∷ [])) engagements

-- quarter-hour 1 of a day is missing
unfoldable pub gap : ℕ → ℕ → List Engagement → Book
gap day y engagements = plain 1 y (point 1 HighXOfY 5000 ∷ []) (λ d q. cond (eqb d day && eqb q 1) None (Some (pos d))) engagements

-- two delivery points of one access point, whose watts rise from day to day
unfoldable pub rising : Method → List Engagement → Book
rising method engagements = plain 1 2 (point 1 method 5000 ∷ point 2 method 5000 ∷ []) (by_day (50 ∷ 60 ∷ 70 ∷ 80 ∷ 90 ∷ 100 ∷ [])) engagements

-- every second day has A's category
unfoldable pub turns : Book
turns = book 1 (λ d. d % 2) 1 1 (point 1 HighXOfY 5000 ∷ []) (by_day []) (one ∷ [])

-- case F with one party in both columns
unfoldable pub one_party : Book
one_party = book_f (point_for 10 10 0 1 HighXOfY 5000)

-- C-14: a book of a version, whose one point, by method 0, reads `base` before the engagement's quarter-hour and `read` in it; its parties, a limit, a direction, 15 W requested
unfoldable pub crossing : ℕ → (ℕ → Method → ℕ → Point) → ℤ → ℤ → ℕ → Direction → Book
crossing version parties base read most direction =
    book version (λ d. 0) 1 1 (parties 1 LastQuarter most ∷ []) (λ d q. Some (cond (leb 3 d) read base)) (engagement 0 1 direction 15 ∷ [])

-- parties 10, 20 and, for injection, 30
unfoldable pub three_parties : ℕ → Method → ℕ → Point
three_parties = point_for 10 20 30

pub record Further : Type 0 where
  -- "Y eligible days pass, Y - 1 give 9"; method 0 looks at none; day 0 has no 12 before the calendar
  pub enough : settlement_refusal (flat HighXOfY 3 (one ∷ [])) ≡ none
  pub few : settlement_refusal (flat HighXOfY 4 (one ∷ [])) ≡ refused 9 0
  pub last : settlement_refusal (flat LastQuarter 4 (one ∷ [])) ≡ none
  pub enough_windows : settlement_refusal (flat Adjusted 2 (one ∷ [])) ≡ none
  pub few_windows : settlement_refusal (flat Adjusted 3 (one ∷ [])) ≡ refused 9 0
  -- "by engagement, 8 before 9": row 0's 9 before row 1's 8
  pub own_missing : settlement_refusal (gap 3 3 (one ∷ next ∷ [])) ≡ refused 8 1
  pub first_row : settlement_refusal (gap 3 4 (one ∷ next ∷ [])) ≡ refused 9 0
  pub day_missing : settlement_refusal (gap 2 3 (one ∷ next ∷ [])) ≡ refused 9 1
  -- a day that misses a reading, or has another category, uses up no Y
  pub stepped_over : latest (gap 2 2 (one ∷ next ∷ [])) next ≡ 1 ∷ 0 ∷ []
  pub other_category : latest turns one ≡ 1 ∷ []
  -- C-11: a day with an engagement of the point uses up no Y, at whatever quarter-hour; one with another point's is eligible, though the access point is the same
  pub engaged_day : latest (rising HighXOfY (on 0 4 0 ∷ on 0 5 0 ∷ [])) (on 0 5 0) ≡ 3 ∷ 2 ∷ []
  pub engaged_later : latest (rising HighXOfY (on 0 4 95 ∷ on 0 5 0 ∷ [])) (on 0 5 0) ≡ 3 ∷ 2 ∷ []
  pub engaged_other : latest (rising HighXOfY (on 0 5 0 ∷ on 1 4 0 ∷ [])) (on 0 5 0) ≡ 4 ∷ 3 ∷ []
  pub engaged_both : (baseline (rising HighXOfY (on 0 4 0 ∷ on 0 5 0 ∷ [])) (on 0 4 0) 0 ≡ plus 80) × (baseline (rising HighXOfY (on 0 4 0 ∷ on 0 5 0 ∷ [])) (on 0 5 0) 0 ≡ plus 80)
  -- engagements on the day itself, or on a later one, change nothing
  pub engaged_now : latest (rising HighXOfY (on 0 5 0 ∷ on 0 5 1 ∷ on 0 6 0 ∷ [])) (on 0 5 0) ≡ 4 ∷ 3 ∷ []
  -- by method 2 the 12 of A, here on day 4, and those of an eligible day, here on day 3, may lie on a day with an engagement
  pub engaged_own_window : latest (rising Adjusted (on 0 4 0 ∷ on 0 5 0 ∷ [])) (on 0 5 0) ≡ 3 ∷ 2 ∷ []
  pub engaged_window : latest (rising Adjusted (on 0 3 0 ∷ on 0 5 0 ∷ [])) (on 0 5 0) ≡ 4 ∷ 2 ∷ []
  -- Y days without an engagement pass, Y - 1 give 9 with the later row
  pub engaged_enough : settlement_refusal (gap 0 4 (on 0 5 1 ∷ [])) ≡ none
  pub engaged_few : settlement_refusal (gap 0 4 (on 0 4 0 ∷ on 0 5 1 ∷ [])) ≡ refused 9 1
  -- the quantities of case F's file, 2.500 twice, from either side; TOE03 has none
  pub file_of_fsp : map (series_watts case_f Toe01 7 series) (1 ∷ 2 ∷ 3 ∷ []) ≡ 2500 ∷ 2500 ∷ 0 ∷ []
  pub file_of_supplier : map (series_watts case_f Toe02 3 (record { partner = 7; supply = OffTake; delivery = Up })) (1 ∷ 2 ∷ 3 ∷ []) ≡ 2500 ∷ 2500 ∷ 0 ∷ []
  pub file_by_access : map (series_watts case_f Toe03 3 (record { partner = 2; supply = OffTake; delivery = Up })) (1 ∷ 2 ∷ 3 ∷ []) ≡ 0 ∷ 0 ∷ 0 ∷ []
  -- the sheets of both parties, upward and downward, and of one party that stands in both columns
  pub sheet_of_source : map (sheet_at case_f 10) (1 ∷ 2 ∷ 3 ∷ []) ≡ pos 75600000 ∷ pos 75615120 ∷ pos 0 ∷ []
  pub sheet_of_fsp : map (sheet_at case_f 20) (1 ∷ 2 ∷ 3 ∷ []) ≡ pos 15120000 ∷ pos 15104880 ∷ pos 0 ∷ []
  pub sheets_down : (sheet_at (risen Down) 10 1 ≡ minus 400) × (sheet_at (risen Down) 20 1 ≡ minus 100)
  pub sheet_of_both : map (sheet_at one_party 10) (1 ∷ 2 ∷ 3 ∷ []) ≡ plus 3000 ∷ plus 3000 ∷ pos 0 ∷ []
  -- C-14: the limit cuts, and the off-take party comes first; annex 2 of 000
  pub limit_cuts : rows (crossing 2 three_parties (pos 9) (neg_ℤ (pos 3)) 10 Up) ≡ plus 9 ∷ plus 10 ∷ plus 9 ∷ plus 5 ∷ plus 1 ∷ []
  pub annex_two : rows (crossing 2 three_parties (neg_ℤ (pos 9)) (pos 3) 10 Down) ≡ minus 9 ∷ plus 10 ∷ minus 3 ∷ minus 5 ∷ minus 7 ∷ []
  -- injection before and after, in both versions; from off-take to injection; the other way, where nothing is delivered upward
  pub both_injection : (rows (crossing 1 three_parties (neg_ℤ (pos 2)) (neg_ℤ (pos 5)) 100 Up) ≡ minus 2 ∷ plus 3 ∷ plus 3 ∷ plus 12 ∷ pos 0 ∷ []) × (rows (crossing 2 three_parties (neg_ℤ (pos 2)) (neg_ℤ (pos 5)) 100 Up) ≡ minus 2 ∷ plus 3 ∷ pos 0 ∷ plus 12 ∷ plus 3 ∷ [])
  pub to_injection : rows (crossing 2 three_parties (pos 4) (neg_ℤ (pos 5)) 100 Up) ≡ plus 4 ∷ plus 9 ∷ plus 4 ∷ plus 6 ∷ plus 5 ∷ []
  pub from_injection : rows (crossing 2 three_parties (neg_ℤ (pos 4)) (pos 1) 100 Up) ≡ minus 4 ∷ pos 0 ∷ pos 0 ∷ plus 15 ∷ pos 0 ∷ []
  -- both off-take, downward
  pub both_off_take : rows (crossing 2 three_parties (pos 4) (pos 6) 100 Down) ≡ plus 4 ∷ plus 2 ∷ minus 2 ∷ minus 13 ∷ pos 0 ∷ []
  -- the sheets of the three parties, of one that stands in all columns, and of one in the two of the source
  pub three_sheets : map (λ party. sheet_at (crossing 2 three_parties (pos 9) (neg_ℤ (pos 3)) 10 Up) party 1) (10 ∷ 20 ∷ 30 ∷ []) ≡ plus 9 ∷ plus 5 ∷ plus 1 ∷ []
  pub all_columns : sheet_at (crossing 2 (point_for 10 10 10) (pos 9) (neg_ℤ (pos 3)) 10 Up) 10 1 ≡ plus 15
  pub source_columns : sheet_at (crossing 2 (point_for 10 20 10) (neg_ℤ (pos 9)) (pos 3) 10 Down) 10 1 ≡ minus 10
  -- in version 2 party 0 is a party like any other, in version 1 the bytes are no column
  pub party_zero : (parties (crossing 1 point (pos 9) (pos 3) 10 Up) ≡ 10 ∷ 20 ∷ []) × (parties (crossing 2 point (pos 9) (pos 3) 10 Up) ≡ 10 ∷ 20 ∷ 0 ∷ []) × (sheet_at (crossing 2 point (pos 9) (pos 3) 10 Up) 0 1 ≡ pos 0)
  -- "up less down"
  pub requested : (map (requested_volume case_f) (1 ∷ 2 ∷ 3 ∷ []) ≡ plus 3000 ∷ plus 3000 ∷ pos 0 ∷ []) × (requested_volume (risen Down) 1 ≡ minus 500)
