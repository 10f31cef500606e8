-- Definitions for a reading of a file's partners that keeps a mark: each behind the one before it, and what is kept of them.
-- They stand for whoever reads so; the reader itself goes by `Reads` and `Filled`; MarkedFilledLaws leads from what its contracts say to these.
use Rattle.std.specs.Prelude.{List, ℕ}
use Rattle.formats.specs.Format.{Format}
use Rattle.formats.specs.Rising.{from_low}
use Rattle.kinds.specs.declared.Kind.{Kind}
use Rattle.message.specs.Contents.{TimeSeries, Partner, number}
use Rattle.message.proofs.PartnerForm.{partner_form}
use Rattle.message.specs.Months.{next_months}
use Rattle.series_reader.proofs.MarkedReadingInner.{folded}
use Rattle.series_reader.proofs.MarkedSeriesInner.{counting}

-- its number and a view of its series
abbrev pub numbered : {T : Type 0} → (List TimeSeries → T) → Partner → ℕ × T
numbered view p = (p.number, view p.series)

-- what is kept of a partner behind the month and rows t: its number, and the month and rows with its own
abbrev pub partner_kept : (ℕ × ℕ) × ℕ → Partner → ℕ × ((ℕ × ℕ) × ℕ)
partner_kept t = numbered (folded counting t)

-- the next partner: a number from low on, series of the month that was seen
abbrev pub partner_item : Kind → ℕ × (ℕ × ℕ) → Format Partner
partner_item k = from_low (partner_form k) number next_months

-- month and number of rows, one partner on
abbrev pub adding : (ℕ × ℕ) × ℕ → Partner → (ℕ × ℕ) × ℕ
adding t p = folded counting t p.series
