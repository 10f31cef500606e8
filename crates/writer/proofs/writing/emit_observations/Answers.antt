-- Row by row: what is laid so far and the observations of the rows left are the whole.
use Rattle.std.proofs.Common.{arith}
use Rattle.emitter.proofs.Laying.{laying-then, laying-stops, laying-all}
use Rattle.writer.proofs.ContentsLaws.{observations-step, observations-none}
use Rattle.writer.proofs.writing.emit_observations.Goals as goal

pub loop-row-preserved : goal.loop-row-preserved
loop-row-preserved g c =
    let l = c.loop-row in
    laying-then g.met.S.Sink.laws _ l.invariant c.in_ok-emit_observation.ensures (observations-step c.args.rows.now l.row-index (omega arith))

pub returns-in_err-emit_observation : goal.returns-in_err-emit_observation
returns-in_err-emit_observation g c =
    let l = c.loop-row in
    laying-stops g.met.S.Sink.laws _ l.invariant c.in_err-emit_observation.ensures (observations-step c.args.rows.now l.row-index (omega arith)) c.from_residual.ensures

pub returns : goal.returns
returns g c = let l = c.loop-row in laying-all g.met.S.Sink.laws l.invariant (observations-none c.args.rows.now l.row-index (omega arith))
