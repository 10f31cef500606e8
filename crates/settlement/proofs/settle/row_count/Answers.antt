-- The fifth section's rows are the book's.
use mathlib.Core.Path.{ap, ◌∙◌}
use Rattle.settlement.specs.SectionsInner.{row_count_in}
use Rattle.settlement.specs.SectionsLaws.{rows_few, count-book}
use Rattle.settlement.proofs.settle.row_count.Goals as goal

pub count_rows-requires : goal.count_rows-requires
count_rows-requires c = rw c.section.ensures (rows_few c.args.book.now c.requires)

pub returns : goal.returns
returns c =
    (c.count_rows.ensures.0 ∙ ap row_count_in c.section.ensures ∙ count-book c.args.book.now c.requires, c.count_rows.ensures.1)
