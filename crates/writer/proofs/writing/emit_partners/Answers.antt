-- Run by run: what is laid so far and the bytes of the rows left are the whole.
use Rattle.std.proofs.Common.{arith}
use Rattle.emitter.proofs.Laying.{laying-then, laying-stops, laying-all}
use Rattle.message.specs.Keys.{number_keys}
use Rattle.writer.specs.RowsInner.{row_in}
use Rattle.writer.proofs.RunsLaws.{behind-less}
use Rattle.writer.proofs.ContentsLaws.{partners-cut, partners-none}
use Rattle.writer.proofs.writing.emit_partners.Goals as goal

pub invariant_of-emit_partner : goal.invariant_of-emit_partner
invariant_of-emit_partner g c = record { is_period = c.requires (omega (arith, c.loop-partner.invariant.within, behind-less number_keys row_in c.in-Some.ensures)) }

pub loop-partner-preserved : goal.loop-partner-preserved
loop-partner-preserved g c =
    let t = c.args.title in
    let l = c.loop-partner.invariant in
    record {
      within = omega (arith, l.within, behind-less number_keys row_in c.in-Some.ensures);
      laying = laying-then g.met.S.Sink.laws _ l.laying c.in_ok-emit_partner.ensures (partners-cut t.kind (t.year, t.month) c.in-Some.ensures);
    }

pub loop-partner-smaller : goal.loop-partner-smaller
loop-partner-smaller g c = behind-less number_keys row_in c.in-Some.ensures

pub returns-in_err-emit_partner : goal.returns-in_err-emit_partner
returns-in_err-emit_partner g c =
    let t = c.args.title in
    laying-stops g.met.S.Sink.laws _ c.loop-partner.invariant.laying c.in_err-emit_partner.ensures (partners-cut t.kind (t.year, t.month) c.in-Some.ensures) c.from_residual.ensures

pub returns : goal.returns
returns g c =
    let t = c.args.title in
    laying-all g.met.S.Sink.laws c.loop-partner.invariant.laying (partners-none t.kind (t.year, t.month) c.loop-partner.rest.now c.in_default.ensures)
