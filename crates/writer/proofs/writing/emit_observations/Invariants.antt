-- Row by row: what is laid so far and the observations of the rows left are the whole.
use Rattle.std.proofs.Common.{drop}
use mathlib.Core.List.{flat_map}
use Rattle.message.specs.Bytes.{observation_bytes}
use Rattle.emitter.proofs.Laying.{Laying}
use Rattle.writer.specs.ContentsInner.{observations_in}
use Rattle.writer.proofs.writing.emit_observations.Given as goal

abbrev pub invariant-loop-row : goal.invariant-loop-row
invariant-loop-row g l =
    Laying g.S.Sink.lays l.initial.sink (flat_map observation_bytes (observations_in l.rows)) (flat_map observation_bytes (observations_in (drop l.row-index l.rows))) l.sink
