-- A book that passes refusals 1 and 2 has the part that the extent names.
use Rattle.settlement.specs.SectionsLaws.{bytes-long, section-inside}
use Rattle.settlement.proofs.sections.section.Goals as goal

pub section-requires : goal.section-requires
section-requires c =
    let bytes = c.args.book.now in
    (bytes-long bytes c.requires, section-inside bytes c.requires c.args.section)
