-- Document 01, "Delivered volume, corrections", and what a settling sends back.
use Rattle.std.specs.Prelude.{◌≡◌, Bool, false, cond, ℕ, suc, ◌-◌, ◌*◌, min, ltb, ℤ, pos, negsuc, neg_ℤ, ◌-ℤ◌, length}
use mathlib.Core.List.{List, [], ◌∷◌, ◌++◌, map, flat_map}
use Rattle.std.proofs.Math.Option.{Option, none, some}
use Rattle.integers.specs.Sums.{sum_of}
use Rattle.wire.specs.Readings.{Reading}
use Rattle.grains.specs.Grains.{grains, grains_z}
use Rattle.book.specs.declared.Method.{Method}
use Rattle.book.specs.declared.Method.TheVariants.{LastQuarter, HighXOfY, Adjusted}
use Rattle.book.specs.declared.Direction.{Direction}
use Rattle.book.specs.declared.Direction.TheVariants.{Up, Down}
use Rattle.book.specs.declared.Point.{Point}
use Rattle.book.specs.declared.Engagement.{Engagement}
use Rattle.refusals.specs.Refusals.{Refusal, refused, or_else, short}
use Rattle.book.specs.Book.{Book, book_of}
use Rattle.book.specs.Header.{splits}
use Rattle.book.specs.Judged.{refusal_of}
use Rattle.volumes.specs.Quarters.{quarter_hours}
use Rattle.volumes.specs.Baseline.{point_of, watts, complete, own_reading, own_window, last_reading, eligible_days, y_of, baseline}

-- "a reading of A in the engagement's quarter-hours, of method 2's own 12, or of method 0"
unfoldable pub needed_by : Method → Book → Engagement → List Reading
needed_by LastQuarter book e = last_reading book e ∷ []
needed_by HighXOfY book e = []
needed_by Adjusted book e = own_window book e

unfoldable pub needed : Book → Engagement → List Reading
needed book e = map (own_reading book e) (quarter_hours e) ++ needed_by (point_of book e).method book e

-- "fewer than Y eligible days"; method 0 looks at none
unfoldable pub too_few : Method → ℕ → ℕ → Bool
too_few LastQuarter y days = false
too_few HighXOfY y days = ltb days y
too_few Adjusted y days = ltb days y

-- the number with which an engagement is refused: "8 before 9"
unfoldable pub refusal_number : Book → Engagement → Option ℕ
refusal_number book e =
    cond (complete (needed book e))
    (cond (too_few (point_of book e).method (y_of book e) (length (eligible_days book e))) (some 9) none)
    (some 8)

-- "by engagement": the first that is refused counts, with its row
unfoldable pub row_refusal : ℕ → Option ℕ → Option Refusal → Option Refusal
row_refusal row none later = later
row_refusal row (some number) later = refused number row

unfoldable pub refusal_from : Book → ℕ → List Engagement → Option Refusal
refusal_from book row [] = none
refusal_from book row (e ∷ es) = row_refusal row (refusal_number book e) (refusal_from book (suc row) es)

-- refusals 8 and 9 of a book
unfoldable pub settlement_refusal : Book → Option Refusal
settlement_refusal book = refusal_from book 0 book.engagements

-- the requested volume of quarter-hour k of an engagement
unfoldable pub requested_at : Engagement → ℕ → ℕ
requested_at e k = grains e.requested

-- "limited to 0 below and the register's largest watts above"
unfoldable pub limited : ℤ → ℕ → ℕ
limited (pos n) most = min n (grains most)
limited (negsuc n) most = 0

-- "Upward: baseline less reading; downward: reading less baseline"
unfoldable pub delivered_by : Direction → Point → ℤ → ℤ → ℕ
delivered_by Up point base read = limited (base -ℤ read) point.upward
delivered_by Down point base read = limited (read -ℤ base) point.downward

-- the delivered volume of quarter-hour k of an engagement, in grains
unfoldable pub delivered : Book → Engagement → ℕ → ℕ
delivered book e k = delivered_by e.direction (point_of book e) (baseline book e k) (grains_z (watts (own_reading book e k)))

-- 02, C-14: "raise baseline and reading each to at least 0": what they are of off-take
unfoldable pub off_take_of : ℤ → ℕ
off_take_of (pos n) = n
off_take_of (negsuc n) = 0

-- "and take the first less the second upward, the second less the first downward, a negative difference counting 0"
unfoldable pub off_take_difference : Direction → ℤ → ℤ → ℕ
off_take_difference Up base read = off_take_of base - off_take_of read
off_take_difference Down base read = off_take_of read - off_take_of base

-- "The off-take party gets the lesser of this and the delivered volume. The injection party gets the rest."
unfoldable pub off_take_share : Direction → ℤ → ℤ → ℕ → ℕ
off_take_share direction base read volume = min (off_take_difference direction base read) volume

unfoldable pub injection_share : Direction → ℤ → ℤ → ℕ → ℕ
injection_share direction base read volume = volume - off_take_share direction base read volume

-- of a delivered volume, by version: the source party's, which is the off-take party's from version 2 on, and the injection party's.
-- "A version 1 row keeps its four numbers, and its fifth is 0."
unfoldable pub source_by : ℕ → Direction → ℤ → ℤ → ℕ → ℕ
source_by version direction base read volume = cond (splits version) (off_take_share direction base read volume) volume

unfoldable pub injection_by : ℕ → Direction → ℤ → ℤ → ℕ → ℕ
injection_by version direction base read volume = cond (splits version) (injection_share direction base read volume) 0

-- "both negated downward"; 02, C-14: "Down negates both."
unfoldable pub signed : Direction → ℤ → ℤ
signed Up z = z
signed Down z = neg_ℤ z

-- "The source party's correction is the delivered volume, the FSP party's is requested less delivered", with C-14's split
unfoldable pub source_correction : Book → Engagement → ℕ → ℤ
source_correction book e k =
    signed e.direction (pos (source_by book.version e.direction (baseline book e k) (grains_z (watts (own_reading book e k))) (delivered book e k)))

unfoldable pub fsp_correction : Book → Engagement → ℕ → ℤ
fsp_correction book e k = signed e.direction (pos (requested_at e k) -ℤ pos (delivered book e k))

unfoldable pub injection_correction : Book → Engagement → ℕ → ℤ
injection_correction book e k =
    signed e.direction (pos (injection_by book.version e.direction (baseline book e k) (grains_z (watts (own_reading book e k))) (delivered book e k)))

-- the corrections of a quarter-hour, one a column of parties
unfoldable pub corrections : Book → Engagement → ℕ → List ℤ
corrections book e k = source_correction book e k ∷ fsp_correction book e k ∷ injection_correction book e k ∷ []

-- "four signed numbers: baseline, delivered, source and FSP correction"; 02, C-14: "a fifth number, the injection correction"
abbrev pub row_width : ℕ
row_width = 5

unfoldable pub row : Book → Engagement → ℕ → List ℤ
row book e k = baseline book e k ∷ pos (delivered book e k) ∷ corrections book e k

-- "Each engagement quarter-hour, in order"
unfoldable pub rows_of : Book → Engagement → List ℤ
rows_of book e = flat_map (row book e) (quarter_hours e)

unfoldable pub rows : Book → List ℤ
rows book = flat_map (rows_of book) book.engagements

-- "the number of rows"
unfoldable pub row_count : Book → ℕ
row_count book = sum_of (λ e. e.count) book.engagements

-- refusals 1 to 9 of a book's bytes: "1 to 7; then by engagement, 8 before 9"
unfoldable pub book_refusal : List ℕ → Option Refusal
book_refusal bytes = or_else (refusal_of bytes) (settlement_refusal (book_of bytes))

-- and 10 where the rows lent, so many numbers, are "shorter than the answer"
unfoldable pub settling_refusal : List ℕ → ℕ → Option Refusal
settling_refusal bytes lent = or_else (book_refusal bytes) (short 0 (row_width * row_count (book_of bytes)) lent)

-- "A book is accepted if settling with a long enough buffer doesn't refuse it."
unfoldable pub Accepted : List ℕ → Type 0
Accepted bytes = settling_refusal bytes (row_width * row_count (book_of bytes)) ≡ none
