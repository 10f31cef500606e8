-- The header's calendar is the book's.
use mathlib.Core.Path.{ap, ◌∙◌}
use Rattle.book.specs.Book.{book_of}
use Rattle.quarters.specs.Quarters.{month_quarters}
use Rattle.settlement.specs.SectionsLaws.{bytes-headed}
use Rattle.sheets.proofs.fill.sheet_length.Goals as goal

pub calendar_of-requires : goal.calendar_of-requires
calendar_of-requires c = bytes-headed c.args.book.now c.requires

pub returns : goal.returns
unfolding book_of
returns c = c.month_quarters.ensures ∙ ap month_quarters c.calendar_of.ensures
