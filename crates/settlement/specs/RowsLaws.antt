-- A book's rows are those made of its baselines and its readings.
use Rattle.std.specs.Prelude.{◌≡◌, refl, true, List, map, ℕ, ◌+◌, ◌-◌, ◌*◌, ◌<◌, min, ℤ, pos, negsuc, neg_ℤ, ◌-ℤ◌, length, get_or}
use Rattle.std.proofs.Common.{sym, ap, ◌∙◌, add_assoc, arith}
use Rattle.integers.proofs.TestsLaws.{both}
use Rattle.integers.specs.Ranges.{range}
use Rattle.integers.proofs.ZLaws.{up, Over, one-0, eq_z, neg, dif}
use Rattle.wire.specs.Readings.{reading_at}
use Rattle.grains.specs.Grains.{grains, grains_z}
use Rattle.book.specs.declared.Direction.{Direction}
use Rattle.book.specs.declared.Direction.TheVariants.{Up, Down}
use Rattle.book.specs.declared.Point.{Point}
use Rattle.book.specs.declared.Engagement.{Engagement}
use Rattle.quarters.specs.Quarters.{origin_of}
use Rattle.book.specs.Header.{calendar_of, reading_section}
use Rattle.book.specs.Book.{Book, book_of}
use Rattle.volumes.specs.Quarters.{quarter_hours, start}
use Rattle.volumes.specs.Baseline.{point_of, watts, complete, own_reading, baseline}
use Rattle.volumes.proofs.BaselineLaws.{complete-append}
use Rattle.volumes.specs.Settlement.{needed_by, needed, requested_at, limited, delivered_by, delivered, off_take_of, off_take_difference, off_take_share, signed, source_correction, fsp_correction, injection_correction, corrections, row_width, row, rows_of}
use Rattle.volumes.proofs.SettlementLaws.{Settles}
use Rattle.volumes.proofs.SplitLaws.{off-take-is}
use Rattle.wire.specs.ReadingsInner.{raise}
use Rattle.settlement.specs.RaisedInner.{bias, baseline_of, watts_of}
use Rattle.settlement.specs.RaisedLaws.{over-level, over-grains, is-level, above-up, above_down}
use Rattle.settlement.specs.RowsInner.{row_from, first_reading, readings_from, row_at, rows_from, largest}
use Rattle.settlement.specs.StoresLaws.{flat_map-range-cong}
use Rattle.integers.proofs.RangesLaws.{map-range-cong}

pub row-from : (book : Book) (e : Engagement) (k : ℕ) → row book e k ≡ row_from book.version e.direction (point_of book e) (requested_at e k) (baseline book e k) (watts (own_reading book e k))
unfolding row corrections source_correction fsp_correction injection_correction delivered row_from
row-from book e k = refl

pub from-length : (version : ℕ) (direction : Direction) (point : Point) (requested : ℕ) (baseline read : ℤ) → length (row_from version direction point requested baseline read) ≡ row_width
unfolding row_from
from-length version direction point requested baseline read = refl

-- where the raised baselines are the book's, and the readings
pub rows-from : (book : Book) (e : Engagement) (levels readings : List ℕ) (first : ℕ)
    → ((k : ℕ) → k < e.count → Over bias (baseline book e k) (get_or levels k 0))
    → ((k : ℕ) → k < e.count → reading_at readings (first + k) ≡ own_reading book e k)
    → rows_from book.version e (point_of book e) levels readings first ≡ rows_of book e
unfolding rows_from rows_of quarter_hours requested_at
rows-from book e levels readings first b w =
    flat_map-range-cong
    (row_at book.version e.direction (point_of book e) e.requested levels readings first)
    (row book e)
    0
    e.count
    (λ k _ h. let i : k < e.count = omega arith in rw (w k i, ← is-level (b k i)) (sym (row-from book e k)))

-- the readings of a book's bytes are its own, and none is missing where the engagement is not refused
pub own-reading : (bytes : List ℕ) (e : Engagement) (k : ℕ) → reading_at (reading_section bytes) (first_reading (calendar_of bytes) e + k) ≡ own_reading (book_of bytes) e k
unfolding own_reading book_of
own-reading bytes e k =
    ap (reading_at (reading_section bytes)) (add_assoc (origin_of (calendar_of bytes) e.point) (start (calendar_of bytes) e) k)

pub own-complete : (bytes : List ℕ) (e : Engagement) → Settles (book_of bytes) e → complete (readings_from e (reading_section bytes) (first_reading (calendar_of bytes) e)) ≡ true
unfolding needed quarter_hours
own-complete bytes e h =
    let book = book_of bytes in
    let own = map (own_reading book e) (range 0 e.count) in
    let other = needed_by (point_of book e).method book e in
    ap complete (map-range-cong (λ k. reading_at (reading_section bytes) (first_reading (calendar_of bytes) e + k)) (own_reading book e) 0 e.count (λ k _ _. own-reading bytes e k))
    ∙ (both (complete own) (complete other) (sym (complete-append own other) ∙ h.known)).0

-- a difference negated is the one of the two turned round
pub turned : (a b : ℤ) → neg_ℤ (a -ℤ b) ≡ b -ℤ a
turned a b = eq_z (neg_ℤ (a -ℤ b)) (b -ℤ a) (omega (arith, neg (a -ℤ b), dif a b, dif b a))

-- the delivered volume is one difference, negated downward and limited to the direction's largest watts
pub delivered-by : (direction : Direction) (point : Point) (baseline read : ℤ) → delivered_by direction point baseline read ≡ limited (signed direction (baseline -ℤ read)) (largest direction point)
unfolding delivered_by signed largest
delivered-by Up point baseline read = refl
delivered-by Down point baseline read = rw turned

-- limited in ℕ
pub limited-is : (z : ℤ) (most : ℕ) → limited z most ≡ min (up z) (grains most)
unfolding limited
limited-is (pos n) most = refl
limited-is (negsuc n) most = omega arith

-- and of a level and a reading in grains, whose bias is one
pub limited-share : (direction : Direction) (level raised most : ℕ)
    → limited (signed direction (baseline_of level -ℤ grains_z (watts_of raised))) most ≡ off_take_share direction (pos level) (pos (grains (raised + 2 * raise))) (grains most)
unfolding signed off_take_share off_take_difference off_take_of
limited-share Up level raised most = rw (limited-is, above-up level raised) refl
limited-share Down level raised most = rw (limited-is, above_down level raised) refl

-- a share of two numbers' off-take is one of what they are of it
pub share-of : (direction : Direction) (base read : ℤ) (volume : ℕ) → off_take_share direction base read volume ≡ off_take_share direction (pos (off_take_of base)) (pos (off_take_of read)) volume
unfolding off_take_share off_take_difference off_take_of
share-of Up base read volume = refl
share-of Down base read volume = refl

-- of two naturals that make up a third, the one is the third less the other
pub rest_of : (volume source rest : ℕ) → source + rest ≡ volume → pos volume -ℤ pos source ≡ pos rest
rest_of volume source rest h = eq_z (pos volume -ℤ pos source) (pos rest) (omega (arith, dif (pos volume) (pos source)))

-- what is off-take of a raised number is what it is above the bias
pub off-take-level : (level : ℕ) → off_take_of (baseline_of level) ≡ level - bias
off-take-level level = off-take-is (baseline_of level) ∙ omega (arith, over-level level, one-0 (baseline_of level))

pub off-take-reading : (raised : ℕ) → off_take_of (grains_z (watts_of raised)) ≡ grains (raised + 2 * raise) - bias
off-take-reading raised = off-take-is (grains_z (watts_of raised)) ∙ omega (arith, over-grains raised, one-0 (grains_z (watts_of raised)))
