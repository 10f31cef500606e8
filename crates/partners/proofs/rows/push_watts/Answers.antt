-- After i turns the rows of the first i positions are stored.
use Rattle.std.proofs.Common.{arith}
use Rattle.partners.specs.PartnerRowsLaws.{filled_is, filled_none, filled-then, filled-length, positions-none, positions-more, positions-few}
use Rattle.partners.proofs.rows.push_watts.Goals as goal

pub loop-i-init : goal.loop-i-init
loop-i-init c = let a = c.args in filled_is _ (positions-none a.s a.watts.now) (filled_none _ _)

pub push_position-at-requires : goal.push_position-at-requires
push_position-at-requires c =
    let a = c.args in
    omega (arith, c.requires, c.loop-i.invariant.behind, filled-length c.loop-i.invariant, positions-few a.s a.watts.now c.loop-i.i)

pub loop-i-preserved : goal.loop-i-preserved
loop-i-preserved c =
    let a = c.args in
    filled_is _ (positions-more a.s a.watts.now c.loop-i.i) (filled-then c.loop-i.invariant c.push_position-at.ensures)
