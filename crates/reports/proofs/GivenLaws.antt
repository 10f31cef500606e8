-- Books that are given byte by byte: one passes whose parts do, it says what they say, and its file carries its series' watts. A reading at a place of the bytes
-- is a function of the place, so that no list of readings is ever gone through.
use Rattle.std.specs.Prelude.{◌≡◌, refl, Bool, true, false, List, map, ℕ, zero, suc, ◌+◌, ◌*◌, ◌≤◌, ◌<◌, length, take, drop}
use Rattle.std.proofs.Common.{sym, ap, ◌∙◌, arith}
use Rattle.std.proofs.Math.Option.{none}
use Rattle.std.proofs.Math.Seq.{drop-nil}
use Rattle.integers.specs.First.{first}
use Rattle.integers.specs.Ranges.{range}
use Rattle.wire.specs.Readings.{Reading}
use Rattle.wire.specs.Numbers.{little}
use Rattle.quarters.specs.declared.Calendar.{Calendar}
use Rattle.quarters.specs.Quarters.{days_of, quarters_of, month_quarters}
use Rattle.book.specs.declared.Supply.TheVariants.{OffTake}
use Rattle.book.specs.declared.Direction.TheVariants.{Up}
use Rattle.book.specs.Header.{version_of, calendar_of, point_count, engagement_count, header_good, sizes, adjoining, layout_good, calendar_section, table_section, register_section, reading_section, engagement_section}
use Rattle.book.specs.Tables.{category_at, x_at, y_at, calendar_good, table_good}
use Rattle.book.specs.Register.{point_at, bad_point}
use Rattle.book.specs.Metering.{meter_at, bad_reading, first_bad_reading}
use Rattle.book.specs.Engagements.{engagement_at, bad_engagement}
use Rattle.book.specs.Judged.{rows_refusal, sections_refusal, refusal_of}
use Rattle.book.specs.Book.{Book, book_of}
use Rattle.volumes.specs.Settlement.{row_width, row_count, book_refusal, Accepted}
use Rattle.volumes.proofs.SettlementLaws.{settling-long}
use Rattle.volumes.specs.Series.{Kind, series_watts, series_of}
use Rattle.volumes.proofs.SoundLaws.{sound}
use Rattle.reports.specs.FileRows.{supply_number, delivery_number, file_rows}
use Rattle.reports.specs.Watts.{watts_in}
use Rattle.reports.proofs.CarryLaws.{carries}
use Rattle.reports.proofs.Demand3Laws.{carried-is}
use Rattle.reports.specs.Small.{Carries}
use Rattle.reports.specs.Pool.{words}

-- ---- readings

pub words-length : (f : ℕ → ℕ) (a n : ℕ) → length (words f a n) ≡ 4 * n
unfolding words
words-length f a zero = refl
words-length f a (suc n) = omega (arith, words-length f (suc a) n)

-- the number in the i-th place of four bytes; behind the last nothing stands, which is 0
pub word_at : (f : ℕ → ℕ) (a n i : ℕ) → ((j : ℕ) → a + n ≤ j → f j ≡ 0) → little (take 4 (drop (4 * i) (words f a n))) ≡ f (a + i)
unfolding words
word_at f a zero i h = ap (λ (l : List ℕ). little (take 4 l)) (drop-nil {A = ℕ} (4 * i)) ∙ sym (h (a + i) (omega arith))
word_at f a (suc n) zero h = let e : f (a + 0) ≡ f a = ap f (omega arith) in omega (arith, e)
word_at f a (suc n) (suc i) h =
    let e : 4 * suc i ≡ suc (suc (suc (suc (4 * i)))) = omega arith in
    let g : suc a + i ≡ a + suc i = omega arith in
    ap (λ (k : ℕ). little (take 4 (drop k (words f a (suc n))))) e ∙ word_at f (suc a) n i (λ j k. h j (omega arith)) ∙ ap f g

-- a search that names nothing
pub none_first : (test : ℕ → Bool) (a n : ℕ) → ((i : ℕ) → i < a + n → test i ≡ false) → first test a n ≡ none
unfolding first
none_first test a zero h = refl
none_first test a (suc n) h = rw (h a (omega arith)) (none_first test (suc a) n (λ i k. h i (omega arith)))

-- ---- refusals 1 to 7, and the book that the bytes say

-- what the header and the extents find in a book's bytes
pub record Parts (b : List ℕ) (version : ℕ) (c : Calendar) (points rows : ℕ) (calendar table register readings engagements : List ℕ) : Type 0 where
  pub version-of : version_of b ≡ version
  pub month : calendar_of b ≡ c
  pub points_of : point_count b ≡ points
  pub rows_of : engagement_count b ≡ rows
  pub calendar_is : calendar_section b ≡ calendar
  pub table_is : table_section b ≡ table
  pub register_is : register_section b ≡ register
  pub readings_is : reading_section b ≡ readings
  pub engagements_is : engagement_section b ≡ engagements

-- and that each of them is good
pub record Good (b : List ℕ) (version : ℕ) (c : Calendar) (points rows : ℕ) (calendar table register readings engagements : List ℕ) : Type 0 where
  pub header : header_good b ≡ true
  pub layout : adjoining b 0 56 (sizes c points rows) ≡ true
  pub categories : calendar_good calendar ≡ true
  pub numbers : table_good table ≡ true
  pub registered : first (bad_point version (days_of c) register) 0 points ≡ none
  pub read : first (bad_reading readings) 0 (quarters_of c * points) ≡ none
  pub engaged : first (bad_engagement c points engagements) 0 rows ≡ none

-- the book of such parts, readings by point and quarter-hour
abbrev pub book_by : ℕ → Calendar → ℕ → ℕ → List ℕ → List ℕ → List ℕ → (ℕ → ℕ → Reading) → List ℕ → Book
book_by version c points rows calendar table register reading engagements =
    record {
      version = version;
      calendar = c;
      category = category_at calendar;
      x = x_at table;
      y = y_at table;
      points = map (point_at register) (range 0 points);
      reading = reading;
      engagements = map (engagement_at engagements) (range 0 rows);
    }

module _ (b : List ℕ) (version : ℕ) (c : Calendar) (points rows : ℕ) (calendar table register readings engagements : List ℕ) (h : Parts b version c points rows calendar table register readings engagements) where
  layout-good : adjoining b 0 56 (sizes c points rows) ≡ true → layout_good b ≡ true
  unfolding layout_good
  layout-good e =
      let m = h.month in
      let p = h.points_of in
      let r = h.rows_of in
      (λ i. adjoining b 0 56 (sizes (m i) (p i) (r i))) ∙ e

  rows_pass : Good b version c points rows calendar table register readings engagements → sections_refusal version c points rows calendar table register readings engagements ≡ none
  unfolding sections_refusal rows_refusal first_bad_reading
  rows_pass g = rw (g.categories, g.numbers, g.registered, g.read, g.engaged)

  pub passes : Good b version c points rows calendar table register readings engagements → refusal_of b ≡ none
  unfolding refusal_of
  passes g =
      let v = h.version-of in
      let m = h.month in
      let p = h.points_of in
      let r = h.rows_of in
      let s₁ = h.calendar_is in
      let s₂ = h.table_is in
      let s₃ = h.register_is in
      let s₄ = h.readings_is in
      let s₅ = h.engagements_is in
      rw (g.header, layout-good g.layout) ((λ i. sections_refusal (v i) (m i) (p i) (r i) (s₁ i) (s₂ i) (s₃ i) (s₄ i) (s₅ i)) ∙ rows_pass g)

  pub says : (reading : ℕ → ℕ → Reading) → ((p k : ℕ) → meter_at c readings p k ≡ reading p k) → book_of b ≡ book_by version c points rows calendar table register reading engagements
  unfolding book_of
  says reading e =
      let v = h.version-of in
      let m = h.month in
      let n = h.points_of in
      let r = h.rows_of in
      let s₁ = h.calendar_is in
      let s₂ = h.table_is in
      let s₃ = h.register_is in
      let s₄ = h.readings_is in
      let s₅ = h.engagements_is in
      (λ i. book_by (v i) (m i) (n i) (r i) (s₁ i) (s₂ i) (s₃ i) (meter_at (m i) (s₄ i)) (s₅ i))
      ∙ (λ i. book_by version c points rows calendar table register (λ p k. e p k i) engagements)

-- ---- what it carries

-- a position's watts of a series that goes up, off-take, are what the file carries there
pub carries-by : (bytes : List ℕ) → refusal_of bytes ≡ none → book_refusal bytes ≡ none → (kind : Kind) (receiver partner p w : ℕ) → 1 ≤ p → p ≤ month_quarters (book_of bytes).calendar
    → series_watts (book_of bytes) kind receiver (series_of partner OffTake Up) p ≡ w → Carries bytes kind receiver partner p w
unfolding supply_number delivery_number
carries-by bytes passed good kind receiver partner p w low high e =
    let defined : watts_in (file_rows (book_of bytes) kind receiver) partner 0 0 p ≡ w = carries (book_of bytes) (λ d m. ((sound bytes passed).engagements d m).point) kind receiver partner OffTake Up p low high ∙ e in
    record {
      defined = defined;
      written = λ c wrote same. ap (λ l. watts_in l partner 0 0 p) (carried-is bytes good kind c wrote ∙ ap (file_rows (book_of bytes) kind) same) ∙ defined;
    }

pub accepted-by : (bytes : List ℕ) → book_refusal bytes ≡ none → Accepted bytes
unfolding Accepted
accepted-by bytes good = settling-long bytes (row_width * row_count (book_of bytes)) (omega arith) ∙ good
