-- The observation is read, held against the position before it, and its row stored.
use Rattle.std.proofs.Common.{arith, refl, le-leb}
use Rattle.std.proofs.lemmas.Bool.{lt-leb}
use Rattle.cursor.proofs.ReadsLaws.{reads-only, reads-fail, reads-only-stop}
use Rattle.series_reader.specs.RowsInner.{with_rows}
use Rattle.series_reader.proofs.RowsLaws.{lent-self}
use Rattle.series_reader.proofs.FillingLaws.{got-filled, none-filled}
use Rattle.series_reader.proofs.elements.observation.Goals as goal

pub returns-in_err-o : goal.returns-in_err-o
returns-in_err-o c = rw c.from_residual.ensures (none-filled (reads-only-stop _ c.in_err-o.ensures.reads) (lent-self _))

pub returns-then-o-behind : goal.returns-then-o-behind
returns-then-o-behind c = none-filled (reads-fail _ c.in_ok-o.ensures.reads (lt-leb _ _ (omega (arith, c.if-o-behind.true)))) (lent-self _)

pub returns : goal.returns
unfolding with_rows
returns c = got-filled (reads-only _ c.in_ok-o.ensures.reads (le-leb _ _ (omega (arith, c.if-o-behind.false)))) refl c.push.ensures.row c.push.ensures.lent
