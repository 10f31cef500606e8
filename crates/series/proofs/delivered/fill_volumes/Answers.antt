-- Opened, the book is the one that the bytes say, so its volumes are those of the bytes.
use mathlib.Core.Path.{ap, ◌∙◌}
use lib.Seq.{sets}
use native.Mathlib.Omega.{arith}
use Rattle.book.specs.Book.{Book}
use Rattle.volumes.specs.Settlement.{settlement_refusal, row_count}
use Rattle.volumes.proofs.SettlementLaws.{passing}
use Rattle.series.specs.VolumesInner.{book_volumes}
use Rattle.series.proofs.delivered.fill_volumes.Goals as goal

pub of-requires : goal.of-requires
of-requires c = (passing c.args.book.now c.requires.0).passed

pub fill_engagements-requires : goal.fill_engagements-requires
fill_engagements-requires c =
    let whole = c.of.ensures.whole in
    (ap settlement_refusal whole ∙ (passing c.args.book.now c.requires.0).settled, omega (arith, ap row_count whole, c.requires.1))

pub returns : goal.returns
returns c = c.fill_engagements.ensures ∙ ap (λ (b : Book). sets c.args.volumes.now 0 (book_volumes b)) c.of.ensures.whole
