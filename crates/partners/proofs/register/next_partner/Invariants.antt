-- After i rows `next` is the least partner of those, as the scan's step says.
use Rattle.std.specs.Prelude.{unwrap_or, IfSome, ◌<◌}
use Rattle.partners.specs.PartnersInner.{no_partner}
use Rattle.partners.specs.PartnersLaws.{PartnersScanned}
use Rattle.partners.proofs.register.next_partner.Given as goal

abbrev pub invariant-loop-i : goal.invariant-loop-i
invariant-loop-i l = PartnersScanned l.register l.role.kind l.role.receiver l.low l.i (unwrap_or l.next no_partner) × IfSome l.next (λ n. n < no_partner)
