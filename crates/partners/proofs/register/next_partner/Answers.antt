-- After i rows `next` is the least partner of those, as the scan's step says.
use Rattle.std.proofs.Common.{◌≡◌, rules}
use Rattle.std.specs.Prelude.{unwrap_or}
use Rattle.partners.specs.PartnersInner.{no_partner}
use Rattle.settlement.specs.SectionsInner.{point_count_in}
use Rattle.volumes.proofs.SeriesLaws.{told_at}
use Rattle.reports.specs.FileRows.{is_taken}
use Rattle.partners.specs.PartnersLaws.{scanned-none, scanned-more, scanned-all}
use Rattle.partners.proofs.register.next_partner.Goals as goal

pub loop-i-init : goal.loop-i-init
loop-i-init c = let a = c.args in (scanned-none a.register.now a.role.kind a.role.receiver a.low, tt)

pub takes-requires : goal.takes-requires
takes-requires c = rw c.point_at-point.ensures (told_at c.args.register.now c.loop-i.i)

pub loop-i-preserved : goal.loop-i-preserved
unfolding is_taken
loop-i-preserved c =
    let a = c.args in (
      rw (c.nearer-next.ensures.0, c.takes.ensures, c.partner_of-partner.ensures, c.point_at-point.ensures) (scanned-more a.register.now a.role.kind a.role.receiver a.low c.loop-i.i (unwrap_or c.loop-i.next no_partner) c.loop-i.invariant.0),
      c.nearer-next.ensures.1,
    )

pub returns : goal.returns
returns c =
    let a = c.args in
    let e : c.loop-i.i ≡ point_count_in a.register.now = search rules in
    record { least = scanned-all a.register.now a.role.kind a.role.receiver a.low (unwrap_or c.loop-i.next no_partner) (rw e at c.loop-i.invariant.0); below = c.loop-i.invariant.1 }
