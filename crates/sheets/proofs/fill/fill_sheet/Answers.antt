-- Opened, the book is the one that the bytes say, so its sheet is that of the bytes.
use mathlib.Core.Path.{◌≡◌, sym, ap, ap₂, ◌∙◌}
use mathlib.Core.List.{◌++◌}
use lib.ListN.{drop}
use native.Mathlib.Omega.{arith}
use Rattle.book.specs.Book.{Book, book_of}
use Rattle.quarters.specs.declared.Calendar.{Calendar}
use Rattle.quarters.specs.Quarters.{month_quarters}
use Rattle.volumes.specs.Settlement.{settlement_refusal}
use Rattle.volumes.specs.Sheets.{sheet}
use Rattle.volumes.proofs.SettlementLaws.{passing}
use Rattle.settlement.specs.SectionsInner.{book_with}
use Rattle.settlement.specs.OpenedInner.{book_in}
use Rattle.sheets.proofs.fill.fill_sheet.Goals as goal

pub of-requires : goal.of-requires
of-requires c = (passing c.args.book.now c.requires.0).passed

pub fill_cells-requires : goal.fill_cells-requires
unfolding book_with
fill_cells-requires c =
    let o = c.of.result in
    let whole = c.of.ensures.whole in
    let when : o.c.calendar ≡ (book_of c.args.book.now).calendar = o.spread.when ∙ ap (λ (b : Book). b.calendar) whole in
    (ap settlement_refusal whole ∙ (passing c.args.book.now c.requires.0).settled, omega (arith, ap month_quarters when, c.requires.1))

pub returns : goal.returns
unfolding book_with
returns c =
    let o = c.of.result in
    let whole = c.of.ensures.whole in
    let when : o.c.calendar ≡ (book_of c.args.book.now).calendar = o.spread.when ∙ ap (λ (b : Book). b.calendar) whole in
    c.fill_cells.ensures ∙ ap₂ (λ (b : Book) (k : Calendar). sheet b c.args.party ++ drop (month_quarters k) c.args.sums.now) whole when
