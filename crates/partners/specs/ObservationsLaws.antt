-- Observations one position after the other, and those of a series' watts: they are the series' own.
use Rattle.std.specs.Prelude.{◌≡◌, refl, true, List, [], ◌∷◌, ◌++◌, map, ℕ, suc, ◌+◌, ◌<◌, ◌≤◌, length, get_or, take, drop}
use Rattle.std.proofs.Common.{sym, ap, ◌∙◌, add-one, arith, lt-ltb, take_at}
use Rattle.std.proofs.lemmas.List.{map-append}
use Rattle.std.proofs.Math.ListN.{length-map}
use Rattle.std.proofs.Math.Seq.{drop-nil}
use mathlib.Core.List.{append-nil}
use Rattle.integers.specs.Ranges.{range}
use Rattle.quarters.specs.declared.Calendar.{Calendar}
use Rattle.quarters.specs.Quarters.{month_quarters}
use Rattle.quarters.proofs.QuartersLaws.{month-quarters-most}
use Rattle.book.specs.Header.{calendar_of, header_good}
use Rattle.book.specs.Book.{Book, book_of}
use Rattle.volumes.proofs.SettlementLaws.{passing}
use Rattle.volumes.specs.declared.Series.{Series}
use Rattle.volumes.specs.Series.{Kind, series_watts}
use Rattle.settlement.specs.SectionsLaws.{bytes-headed}
use Rattle.message.specs.Contents.{Observation}
use Rattle.message.specs.Valid.{IsPeriod}
use Rattle.message.specs.Reading.{observed}
use Rattle.integers.specs.Keep.{keep}
use Rattle.integers.proofs.KeepLaws.{keep_append}
use Rattle.reports.specs.FileRows.{is_written, observation_by, observations_by}
use Rattle.series.specs.SumsInner.{by_position, cell_at, DeliveredIn}
use Rattle.series.specs.SumsLaws.{parts-of, cell-is}
use Rattle.partners.specs.ObservationsInner.{observation_if, observations_in}
use Rattle.integers.proofs.RangesLaws.{range-more, map-range-cong, length-range}
use Rattle.quarters.specs.QuartersInner.{Ranged, longest_month}
use Rattle.reports.specs.FileRowsInner.{observations_of}

-- ---- one position

pub no-observation : (p watts : ℕ) → watts ≡ 0 → observation_if p watts ≡ []
unfolding observation_if keep is_written
no-observation p watts e = rw e

pub one-observation : (p watts : ℕ) → 0 < watts → observation_if p watts ≡ observed (p, watts) ∷ []
unfolding observation_if keep is_written
one-observation p watts h = rw (lt-ltb 0 watts h)

-- ---- one position more

pub observations-none : (l : List ℕ) → observations_in l 0 ≡ []
unfolding observations_in range keep
observations-none l = refl

pub observations-more : (l : List ℕ) (i : ℕ) → observations_in l (i + 1) ≡ observations_in l i ++ observation_if (i + 1) (get_or l i 0)
unfolding observations_in observation_if
observations-more l i =
    let f : ℕ → Observation = λ p. observed (p, cell_at l p) in
    let next : 1 + i ≡ suc i = omega arith in
    let last : f (1 + i) ≡ observed (i + 1, get_or l i 0) = ap f next ∙ ap (λ (p : ℕ). observed (p, get_or l i 0)) (sym (add-one i)) in
    let all : map f (range 1 (i + 1)) ≡ map f (range 1 i) ++ (observed (i + 1, get_or l i 0) ∷ []) =
    ap (map f) (range-more 1 i) ∙ map-append f (range 1 i) ((1 + i) ∷ []) ∙ ap (λ (o : Observation). map f (range 1 i) ++ (o ∷ [])) last in
    ap (keep is_written) all ∙ keep_append is_written (map f (range 1 i)) (observed (i + 1, get_or l i 0) ∷ [])

-- ---- the series' own

pub observations-are : (book : Book) (kind : Kind) (receiver : ℕ) (s : Series) (before l : List ℕ) (n : ℕ) → n ≡ month_quarters book.calendar → l ≡ by_position (series_watts book kind receiver s) n before
    → observations_in l n ≡ observations_of book kind receiver s
unfolding observations_in observations_of observations_by observation_by series_watts
observations-are book kind receiver s before l n month e =
    rw (← month)
    (ap (keep is_written) (map-range-cong (λ p. observed (p, cell_at l p)) (λ p. observed (p, series_watts book kind receiver s p)) 1 n (λ p low high.
    ap (λ (w : ℕ). observed (p, w)) (ap (λ (t : List ℕ). cell_at t p) e ∙ cell-is (series_watts book kind receiver s) n before p low (omega arith)))))

-- the same, of watts whose first positions only are lent
pub observations-taken : (book : Book) (kind : Kind) (receiver : ℕ) (s : Series) (before l : List ℕ) (n : ℕ) → n ≡ month_quarters book.calendar → l ≡ by_position (series_watts book kind receiver s) (month_quarters book.calendar) before
    → observations_in (take n l) (length (take n l)) ≡ observations_of book kind receiver s
observations-taken book kind receiver s before l n month e =
    let f = series_watts book kind receiver s in
    let own : List ℕ = map f (range 1 n) in
    let all : length own ≡ n = length-map (range 1 n) f ∙ length-range 1 n in
    let first : take n l ≡ own = ap (take n) (e ∙ ap (λ (k : ℕ). by_position f k before) (sym month)) ∙ take_at own (drop n before) n all in
    ap (observations_in (take n l)) (ap length first ∙ all) ∙ observations-are book kind receiver s [] (take n l) n month (first ∙ sym (ap (λ (r : List ℕ). own ++ r) (drop-nil n) ∙ append-nil own))

-- ---- the month

pub period-of : (c : Calendar) → Ranged c → IsPeriod c.year c.month
period-of c h = record { from = h.from; to = h.to; january = h.january; december = h.december }

-- what a book that refusals 1 to 9 pass says of its calendar
pub record Dated (bytes : List ℕ) : Type 0 where
  pub header : header_good bytes ≡ true
  pub ranged : Ranged (calendar_of bytes)
  pub own : calendar_of bytes ≡ (book_of bytes).calendar
  pub few : month_quarters (book_of bytes).calendar ≤ longest_month

pub dated : (bytes volumes : List ℕ) → DeliveredIn bytes volumes → Dated bytes
dated bytes volumes h =
    let p = parts-of bytes volumes h in
    let r = rw p.when at p.sound.ranged in
    record { header = bytes-headed bytes (passing bytes h.accepted).passed; ranged = r; own = sym p.when; few = month-quarters-most (book_of bytes).calendar p.sound.ranged }
