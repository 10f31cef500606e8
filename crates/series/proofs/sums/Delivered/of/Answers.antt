-- A book that refusals 1 to 9 pass has its sections and its calendar.
use Rattle.volumes.proofs.SettlementLaws.{passing}
use Rattle.settlement.specs.SectionsLaws.{bytes-headed}
use Rattle.series.proofs.sums.Delivered.of.Goals as goal

pub calendar_of-requires : goal.calendar_of-requires
calendar_of-requires c = bytes-headed c.args.book.now (passing c.args.book.now c.requires.accepted).passed

pub section-requires : goal.section-requires
section-requires c = (passing c.args.book.now c.requires.accepted).passed

pub section-requires-2 : goal.section-requires-2
section-requires-2 c = (passing c.args.book.now c.requires.accepted).passed

pub invariant_of-result : goal.invariant_of-result
invariant_of-result c = record { delivered = c.requires; parts = record { when = c.calendar_of.ensures; register = c.section.ensures; engagements = c.section-2.ensures } }
