-- Refusals 1 to 7 of a book's bytes, in the order of document 01, "What is sent back".
use Rattle.std.specs.Prelude.{◌&&◌, List, ℕ}
use Rattle.std.proofs.Math.Option.{Option, none}
use Rattle.integers.specs.First.{first}
use Rattle.refusals.specs.Refusals.{Refusal, unless, unless_found}
use Rattle.quarters.specs.declared.Calendar.{Calendar}
use Rattle.quarters.specs.Quarters.{days_of}
use Rattle.book.specs.Header.{version_of, calendar_of, point_count, engagement_count, header_good, layout_good, calendar_section, table_section, register_section, reading_section, engagement_section}
use Rattle.book.specs.Tables.{calendar_good, table_good}
use Rattle.book.specs.Register.{bad_point}
use Rattle.book.specs.Metering.{first_bad_reading}
use Rattle.book.specs.Engagements.{bad_engagement}

-- "first bad register row", "first reading out of range", "first bad engagement": of a book of a version, with so many points and engagements
unfoldable pub rows_refusal : ℕ → Calendar → ℕ → ℕ → List ℕ → List ℕ → List ℕ → Option Refusal
rows_refusal version c points rows register readings engagements =
    unless_found (first (bad_point version (days_of c) register) 0 points) 5
    (unless_found (first_bad_reading c readings points) 6
    (unless_found (first (bad_engagement c points engagements) 0 rows) 7 none))

-- "sections 1 or 2 out of range", then the rows
unfoldable pub sections_refusal : ℕ → Calendar → ℕ → ℕ → List ℕ → List ℕ → List ℕ → List ℕ → List ℕ → Option Refusal
sections_refusal version c points rows calendar table register readings engagements =
    unless (calendar_good calendar && table_good table) 4 (rows_refusal version c points rows register readings engagements)

-- "Order: 1 to 7"; "Refusal 3 then never occurs"
unfoldable pub refusal_of : List ℕ → Option Refusal
refusal_of book =
    unless (header_good book) 1
    (unless (layout_good book) 2
    (sections_refusal
    (version_of book)
    (calendar_of book)
    (point_count book)
    (engagement_count book)
    (calendar_section book)
    (table_section book)
    (register_section book)
    (reading_section book)
    (engagement_section book)))
