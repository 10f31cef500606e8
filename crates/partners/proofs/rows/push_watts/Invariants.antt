-- After i turns the rows of the first i positions are stored.
use Rattle.partners.specs.ObservationsInner.{observations_in}
use Rattle.partners.specs.PartnerRowsInner.{rows_by, FileRowsFilled}
use Rattle.partners.proofs.rows.push_watts.Given as goal

abbrev pub invariant-loop-i : goal.invariant-loop-i
invariant-loop-i l = FileRowsFilled (rows_by l.s (observations_in l.watts l.i)) l.initial.rows l.start l.rows l.at
