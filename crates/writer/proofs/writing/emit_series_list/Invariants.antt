-- Run by run: what is laid so far and the bytes of the rows left are the whole.
use Rattle.std.proofs.Common.{length}
use mathlib.Core.List.{flat_map}
use Rattle.message.specs.Bytes.{series_bytes}
use Rattle.emitter.proofs.Laying.{Laying}
use Rattle.writer.specs.ContentsInner.{series_in}
use Rattle.writer.proofs.writing.emit_series_list.Given as goal

abbrev pub invariant-loop-series : goal.invariant-loop-series
invariant-loop-series g l = Laying g.S.Sink.lays l.initial.sink (flat_map (series_bytes l.title.kind) (series_in (l.title.year, l.title.month) l.rows)) (flat_map (series_bytes l.title.kind) (series_in (l.title.year, l.title.month) l.rest)) l.sink

abbrev pub decreases-loop-series : goal.decreases-loop-series
decreases-loop-series g l = length l.rest
