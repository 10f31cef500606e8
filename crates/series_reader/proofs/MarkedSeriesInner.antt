-- Definitions for a reading of a partner's series that keeps a mark: the form of each, behind the one before it, and what is kept of them.
-- They stand for whoever reads so; the reader itself goes by `Reads` and `Filled`; MarkedFilledLaws leads from what its contracts say to these.
use Rattle.std.specs.Prelude.{◌≡◌, refl, Bool, ◌&&◌, List, ℕ, ◌+◌, ◌*◌, ◌≤◌, leb, length, Option, Some, None}
use Rattle.formats.specs.Format.{Format}
use Rattle.formats.specs.Rising.{from_low}
use Rattle.kinds.specs.declared.Kind.{Kind}
use Rattle.kinds.specs.declared.Kind.TheVariants.{Toe01, Toe02, Toe03}
use Rattle.message.specs.Contents.{TimeSeries, place}
use Rattle.message.specs.Bytes.{series_bytes}
use Rattle.message.specs.Valid.{month_of}
use Rattle.message.proofs.SeriesForm.{own_series, shared_series}
use Rattle.message.specs.Months.{follows}
use Rattle.message.proofs.SeriesListForm.{following, series_list}
use Rattle.message.proofs.PartnerForm.{own-01, own-02}
use Rattle.series_reader.proofs.MarkedReadingInner.{Outline}

-- a series with its own supply direction, or with x, that of its access point
unfoldable pub series_form : Kind → ℕ → Format TimeSeries
series_form Toe01 x = own_series Toe01 own-01.in_series
series_form Toe02 x = own_series Toe02 own-02.in_series
series_form Toe03 x = shared_series x

-- its bytes are the file's
pub series-bytes : (k : Kind) (x : ℕ) (s : TimeSeries) → (series_form k x).render s ≡ series_bytes k s
unfolding series_form
series-bytes Toe01 x s = refl
series-bytes Toe02 x s = refl
series-bytes Toe03 x s = refl

-- the next series of a partner: from place low on, of the month that was seen
abbrev pub item : Kind → ℕ → ℕ × (ℕ × ℕ) → Format TimeSeries
item k x = from_low (following (series_form k x) (series_bytes k) (series-bytes k x)) place (λ seen s. month_of s)

-- the place of a series, by what is kept of it
abbrev pub place_in : Outline → ℕ
place_in o = o.0.0 * 2 + o.0.1

-- whether a series at a place, of a month, may be the next
abbrev pub joins : ℕ → ℕ × ℕ → ℕ → ℕ × ℕ → Bool
joins low seen at month = leb low at && follows seen month

-- as many bytes as rows stand before the mark
abbrev pub Room : Option ℕ → ℕ → Type 0
Room (Some p) rows = rows ≤ p
Room None rows = Unit {0}

-- month and number of rows, one series on
abbrev pub counting : (ℕ × ℕ) × ℕ → TimeSeries → (ℕ × ℕ) × ℕ
counting t s = (month_of s, t.1 + length s.observations)

-- so many series behind the month that was seen
unfoldable pub list_form : Kind → ℕ → ℕ → ℕ × ℕ → Format (List TimeSeries)
list_form k x n seen = series_list (series_form k x) (series_bytes k) (series-bytes k x) n seen
