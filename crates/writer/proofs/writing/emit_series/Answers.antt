-- The series' head, its observations and its end; it has as many observations as rows.
use Rattle.emitter.proofs.Laying.{and_then, stops, laid_as}
use Rattle.writer.proofs.ContentsLaws.{series-laid}
use Rattle.writer.proofs.writing.emit_series.Goals as goal

pub returns-in_err-emit_series_head : goal.returns-in_err-emit_series_head
returns-in_err-emit_series_head g c =
    let e = g.met.S.Sink.laws in
    let a = c.args in
    laid_as e (series-laid a.title.kind (a.title.year, a.title.month) a.rows.now) (stops e _ c.in_err-emit_series_head.ensures c.from_residual.ensures)

pub returns-in_err-emit_observations : goal.returns-in_err-emit_observations
returns-in_err-emit_observations g c =
    let e = g.met.S.Sink.laws in
    let a = c.args in
    laid_as e (series-laid a.title.kind (a.title.year, a.title.month) a.rows.now) (and_then e c.in_ok-emit_series_head.ensures (stops e _ c.in_err-emit_observations.ensures c.from_residual-in_err-emit_observations.ensures))

pub returns : goal.returns
returns g c =
    let e = g.met.S.Sink.laws in
    let a = c.args in
    laid_as e (series-laid a.title.kind (a.title.year, a.title.month) a.rows.now) (and_then e c.in_ok-emit_series_head.ensures (and_then e c.in_ok-emit_observations.ensures c.emit_series_end.ensures))
