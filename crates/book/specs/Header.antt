-- Document 01, "The book": the header, the five extents, and the sections as parts of the book.
use Rattle.std.specs.Prelude.{Bool, ◌&&◌, List, [], ◌∷◌, ℕ, suc, ◌+◌, ◌*◌, eqb, leb, length, take, drop}
use Rattle.wire.specs.Numbers.{number_at}
use Rattle.calendar.specs.Clocks.{clock_of}
use Rattle.quarters.specs.declared.Calendar.{Calendar}
use Rattle.quarters.specs.Quarters.{days_of, quarters_of}

-- "Header: version u16 = 1; year u16 ..; month u8; lead days L u8 ..; points P u16 ..; engagements E u16 ..; six zero bytes."
abbrev pub version_of : List ℕ → ℕ
version_of book = number_at book 0 2

abbrev pub calendar_of : List ℕ → Calendar
calendar_of book =
    record {
      year = number_at book 2 2;
      month = number_at book 4 1;
      lead = number_at book 5 1;
      clock = clock_of (number_at book 2 2) (number_at book 4 1) (number_at book 5 1);
    }

abbrev pub point_count : List ℕ → ℕ
point_count book = number_at book 6 2

abbrev pub engagement_count : List ℕ → ℕ
engagement_count book = number_at book 8 2

abbrev pub between : ℕ → ℕ → ℕ → Bool
between least most n = leb least n && leb n most

-- "version u16 = 1"; 02, C-14: "Refusal 1 accepts versions 1 and 2."
abbrev pub version_taken : ℕ → Bool
version_taken v = between 1 2 v

-- 02, C-14: "one source party for off-take and one for injection", "From version 2 on": a book of this version has both
abbrev pub splits : ℕ → Bool
splits v = leb 2 v

-- "year u16, 2018 to 2099; month u8; lead days L u8, 1 to 33; points P u16, 1 to 256; engagements E u16, 0 to 512; six zero bytes"
unfoldable pub header_fields : List ℕ → Bool
header_fields book =
    version_taken (version_of book)
    && (between 2018 2099 (calendar_of book).year
    && (between 1 12 (calendar_of book).month
    && (between 1 33 (calendar_of book).lead
    && (between 1 256 (point_count book)
    && (leb (engagement_count book) 512
    && eqb (number_at book 10 6) 0)))))

-- "under 56 bytes, header out of range"
unfoldable pub header_good : List ℕ → Bool
header_good book = leb 56 (length book) && header_fields book

-- "At byte 16 stand five pairs of offset u32 and length u32.": such a pair is an extent, here extent k, counted from 0
abbrev pub offset_of : List ℕ → ℕ → ℕ
offset_of book k = number_at book (16 + 8 * k) 4

abbrev pub length_of : List ℕ → ℕ → ℕ
length_of book k = number_at book (20 + 8 * k) 4

-- extent k is this offset and this length
abbrev pub is_extent : List ℕ → ℕ → ℕ → ℕ → Bool
is_extent book k offset size = eqb (offset_of book k) offset && eqb (length_of book k) size

-- a register row, and an engagement, in bytes
abbrev pub point_width : ℕ
point_width = 64

abbrev pub engagement_width : ℕ
engagement_width = 16

-- the sections' lengths: calendar, table of X and Y, register, readings, engagements
abbrev pub sizes : Calendar → ℕ → ℕ → List ℕ
sizes c points rows =
    days_of c ∷ 8 ∷ point_width * points ∷ 4 * quarters_of c * points ∷ engagement_width * rows ∷ []

-- the extents from k on name sections of these sizes, each where the last ended, and the last ends with the book
abbrev pub adjoining : List ℕ → ℕ → ℕ → List ℕ → Bool
adjoining book k at [] = eqb (length book) at
adjoining book k at (n ∷ ns) = is_extent book k at n && adjoining book (suc k) (at + n) ns

-- "The first section starts at 56, each next where the last ended, the last ends with the book."
unfoldable pub layout_good : List ℕ → Bool
layout_good book = adjoining book 0 56 (sizes (calendar_of book) (point_count book) (engagement_count book))

-- "Each section is a part of the book and is read as such."
abbrev pub section_of : List ℕ → ℕ → List ℕ
section_of book k = take (length_of book k) (drop (offset_of book k) book)

abbrev pub calendar_section : List ℕ → List ℕ
calendar_section book = section_of book 0

abbrev pub table_section : List ℕ → List ℕ
table_section book = section_of book 1

abbrev pub register_section : List ℕ → List ℕ
register_section book = section_of book 2

abbrev pub reading_section : List ℕ → List ℕ
reading_section book = section_of book 3

abbrev pub engagement_section : List ℕ → List ℕ
engagement_section book = section_of book 4

-- row i of a section whose rows have w bytes
abbrev pub row_at : ℕ → List ℕ → ℕ → List ℕ
row_at w section i = take w (drop (w * i) section)
