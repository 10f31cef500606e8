-- Run by run: what is laid so far and the bytes of the rows left are the whole.
use Rattle.emitter.proofs.Laying.{laying-then, laying-stops, laying-all}
use Rattle.message.specs.Keys.{directions_keys}
use Rattle.writer.specs.RunsInner.{directed_in}
use Rattle.writer.proofs.RunsLaws.{behind-less}
use Rattle.writer.proofs.ContentsLaws.{series-cut, series-none}
use Rattle.writer.proofs.writing.emit_series_list.Goals as goal

pub loop-series-preserved : goal.loop-series-preserved
loop-series-preserved g c =
    let t = c.args.title in
    laying-then g.met.S.Sink.laws _ c.loop-series.invariant c.in_ok-emit_series.ensures (series-cut t.kind (t.year, t.month) c.in-Some.ensures)

pub loop-series-smaller : goal.loop-series-smaller
loop-series-smaller g c = behind-less directions_keys directed_in c.in-Some.ensures

pub returns-in_err-emit_series : goal.returns-in_err-emit_series
returns-in_err-emit_series g c =
    let t = c.args.title in
    laying-stops g.met.S.Sink.laws _ c.loop-series.invariant c.in_err-emit_series.ensures (series-cut t.kind (t.year, t.month) c.in-Some.ensures) c.from_residual.ensures

pub returns : goal.returns
returns g c =
    let t = c.args.title in
    laying-all g.met.S.Sink.laws c.loop-series.invariant (series-none t.kind (t.year, t.month) c.loop-series.rest.now c.in_default.ensures)
