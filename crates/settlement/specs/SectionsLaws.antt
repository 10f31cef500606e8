-- The sections of a book that passes refusals 1 to 7 are parts of its bytes; with its own engagements it is itself.
use Rattle.std.specs.Prelude.{◌≡◌, refl, true, List, ℕ, ◌+◌, ◌≤◌, length}
use Rattle.std.proofs.Common.{ap, ◌∙◌, arith}
use Rattle.std.proofs.Math.Option.{none}
use Rattle.book.specs.Header.{calendar_of, point_count, engagement_count, offset_of, length_of, header_good, layout_good, register_section, engagement_section}
use Rattle.book.specs.declared.Section.{Section}
use Rattle.book.specs.declared.Section.TheVariants.{Calendar, Table, Register, Readings, Engagements}
use Rattle.book.specs.SectionsInner.{extent_of}
use Rattle.book.specs.HeaderLaws.{LaidOut, laid, headed}
use Rattle.book.specs.Book.{book_of}
use Rattle.book.specs.Judged.{refusal_of}
use Rattle.volumes.specs.Baseline.{engaged}
use Rattle.volumes.specs.Settlement.{settlement_refusal, row_count, book_refusal}
use Rattle.volumes.proofs.SoundLaws.{passes, sound}
use Rattle.volumes.proofs.SettlementLaws.{passing}
use Rattle.settlement.specs.SectionsInner.{point_count_in, engagement_count_in, engagements_in, engaged_in, row_count_in, book_with, Opened}

-- the sections, as a good layout says
pub all_held : (bytes : List ℕ) → refusal_of bytes ≡ none → LaidOut bytes (calendar_of bytes) (point_count bytes) (engagement_count bytes)
unfolding layout_good
all_held bytes e = laid bytes (calendar_of bytes) (point_count bytes) (engagement_count bytes) (passes bytes e).layout

pub bytes-headed : (bytes : List ℕ) → refusal_of bytes ≡ none → header_good bytes ≡ true
bytes-headed bytes e = (passes bytes e).header

pub bytes-long : (bytes : List ℕ) → refusal_of bytes ≡ none → 56 ≤ length bytes
bytes-long bytes e = (all_held bytes e).long

-- each section is a part of the book
pub section-inside : (bytes : List ℕ) → refusal_of bytes ≡ none → (section : Section) → offset_of bytes (extent_of section) + length_of bytes (extent_of section) ≤ length bytes
section-inside bytes e Calendar = (all_held bytes e).calendar.inside
section-inside bytes e Table = (all_held bytes e).table.inside
section-inside bytes e Register = (all_held bytes e).register.inside
section-inside bytes e Readings = (all_held bytes e).readings.inside
section-inside bytes e Engagements = (all_held bytes e).engagements.inside

-- the rows that the lengths tell are those that the header counts
pub points-counted : (bytes : List ℕ) → refusal_of bytes ≡ none → point_count_in (register_section bytes) ≡ point_count bytes
points-counted bytes e = omega (arith, (all_held bytes e).register.size)

pub rows-counted : (bytes : List ℕ) → refusal_of bytes ≡ none → engagement_count_in (engagement_section bytes) ≡ engagement_count bytes
rows-counted bytes e = omega (arith, (all_held bytes e).engagements.size)

-- with its own engagements a book is itself, opened, and has the rows that their section has
pub same-book : (bytes : List ℕ) → refusal_of bytes ≡ none → book_with bytes (engagement_section bytes) ≡ book_of bytes
unfolding book_with book_of engagements_in
same-book bytes e = rw (rows-counted bytes e)

pub opened : (bytes : List ℕ) → refusal_of bytes ≡ none → Opened bytes (engagement_section bytes)
opened bytes e = record { passed = e; sound = rw (same-book bytes e) (sound bytes e) }

pub count-with : (bytes engagements : List ℕ) → row_count_in engagements ≡ row_count (book_with bytes engagements)
unfolding row_count_in row_count book_with
count-with bytes engagements = refl

pub count-book : (bytes : List ℕ) → refusal_of bytes ≡ none → row_count_in (engagement_section bytes) ≡ row_count (book_of bytes)
count-book bytes e = count-with bytes (engagement_section bytes) ∙ ap row_count (same-book bytes e)

pub rows_few : (bytes : List ℕ) → refusal_of bytes ≡ none → engagement_count_in (engagement_section bytes) ≤ 512
rows_few bytes e = omega (arith, rows-counted bytes e, (headed bytes (passes bytes e).header).rows)

-- the days with an engagement are those of the section's
pub engaged-in : (bytes engagements : List ℕ) (p d : ℕ) → engaged (book_with bytes engagements) p d ≡ engaged_in engagements p d
unfolding engaged book_with engaged_in
engaged-in bytes engagements p d = refl

-- nor are its engagements refused, where the book is not
pub own-settled : (bytes : List ℕ) → book_refusal bytes ≡ none → settlement_refusal (book_with bytes (engagement_section bytes)) ≡ none
own-settled bytes e = let a = passing bytes e in ap settlement_refusal (same-book bytes a.passed) ∙ a.settled
