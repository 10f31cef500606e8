-- Opened, the book is the one that the bytes say, so its rows are those of the bytes.
use mathlib.Core.Path.{ap, ◌∙◌}
use lib.Seq.{sets}
use Rattle.book.specs.Book.{Book}
use Rattle.volumes.specs.Settlement.{rows, row_count, settlement_refusal}
use Rattle.volumes.proofs.SettlementLaws.{passing}
use native.Mathlib.Omega.{arith}
use Rattle.settlement.proofs.settle.fill_book.Goals as goal

pub of-requires : goal.of-requires
of-requires c = (passing c.args.book.now c.requires.0).passed

pub settle-requires : goal.settle-requires
settle-requires c =
    let whole = c.of.ensures.whole in
    (ap settlement_refusal whole ∙ (passing c.args.book.now c.requires.0).settled, omega (arith, ap row_count whole, c.requires.1))

pub returns : goal.returns
returns c = c.settle.ensures ∙ ap (λ (b : Book). sets c.args.out.now 0 (rows b)) c.of.ensures.whole
