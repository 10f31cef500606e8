-- The definition, by its test.
use Rattle.partners.specs.PartnersLaws.{nearer}
use Rattle.partners.proofs.NextLaws.{nearer-below}
use Rattle.partners.proofs.register.nearer.Goals as goal

pub returns-then-taken-low : goal.returns-then-taken-low
unfolding nearer
returns-then-taken-low c =
    let a = c.args in
    let e = rw c.unwrap_or.ensures at c.if-taken-low.true in
    (rw e, nearer-below a.taken a.low a.partner a.next c.requires e)

pub returns : goal.returns
unfolding nearer
returns c =
    let e = rw c.unwrap_or.ensures at c.if-taken-low.false in
    (rw e, c.requires)
