-- Run by run: what is laid so far and the bytes of the rows left are the whole.
use Rattle.std.proofs.Common.{length, ◌≤◌}
use mathlib.Core.List.{flat_map}
use Rattle.message.specs.Bytes.{partner_bytes}
use Rattle.emitter.proofs.Laying.{Laying}
use Rattle.writer.specs.ContentsInner.{partners_in}
use Rattle.writer.proofs.writing.emit_partners.Given as goal

abbrev pub invariant-loop-partner : goal.invariant-loop-partner
invariant-loop-partner g l =
    record {
      within : length l.rest ≤ length l.rows;
      laying : Laying g.S.Sink.lays l.initial.sink (flat_map (partner_bytes l.kind) (partners_in (l.year, l.month) l.rows)) (flat_map (partner_bytes l.kind) (partners_in (l.year, l.month) l.rest)) l.sink;
    }

abbrev pub decreases-loop-partner : goal.decreases-loop-partner
decreases-loop-partner g l = length l.rest
