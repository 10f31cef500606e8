-- The rows that are filled stand at the front, and are laid as the partner.
use Rattle.std.proofs.Common.{refl, ap}
use Rattle.filing.specs.LayingInner.{given}
use Rattle.filing.proofs.PartnersLaws.{told, filled-bytes, filled-count}
use Rattle.filing.proofs.laying.emit_partner.Goals as goal

pub returns-in_err-emit_partners-clause-laid : goal.returns-in_err-emit_partners-clause-laid
returns-in_err-emit_partners-clause-laid g c =
    let a = c.args in
    let f = c.fill_partner-end in
    told g.S.Sink.lays
    (filled-bytes a.delivered.now a.role.kind a.role.receiver a.partner c.requires.1 a.rows.now f.new.rows f.result f.ensures c.requires.0 _ refl)
    (ap given c.from_residual.ensures) c.in_err-emit_partners.ensures

pub returns-clause-laid : goal.returns-clause-laid
returns-clause-laid g c =
    let a = c.args in
    let f = c.fill_partner-end in
    told g.S.Sink.lays
    (filled-bytes a.delivered.now a.role.kind a.role.receiver a.partner c.requires.1 a.rows.now f.new.rows f.result f.ensures c.requires.0 _ refl)
    refl c.in_ok-emit_partners.ensures

pub returns-clause-count : goal.returns-clause-count
returns-clause-count g c =
    let a = c.args in
    let f = c.fill_partner-end in
    filled-count a.delivered.now a.role.kind a.role.receiver a.partner c.requires.1 a.rows.now f.new.rows f.result f.ensures c.requires.0 c.from.result c.from.ensures
