-- What the party gets of the rows passed is added; the cell of the next is as it was, so that adding to it fits.
use mathlib.Core.Path.{◌≡◌}
use Rattle.sheets.specs.AddsInner.{adds}
use Rattle.sheets.specs.SharesInner.{gets_of}
use Rattle.sheets.proofs.cells.Share.add_rows.Given as goal

abbrev pub invariant-loop-k : goal.invariant-loop-k
invariant-loop-k l = l.sums ≡ adds l.initial.sums 0 (gets_of l.self.version l.self.party l.self.point l.fn.rows l.k)
