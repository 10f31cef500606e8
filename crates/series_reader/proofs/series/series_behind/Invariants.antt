-- What was read so far, and what is left.
use Rattle.std.specs.Prelude.{option_map}
use Rattle.passages.specs.ViewsInner.{bit}
use Rattle.series_reader.specs.RowsInner.{rows_of_series}
use Rattle.series_reader.specs.ViewsInner.{next_series, low_of}
use Rattle.series_reader.specs.TurnsInner.{Turned}
use Rattle.series_reader.proofs.SeriesLaws.{on}
use Rattle.series_reader.proofs.series.series_behind.Given as goal

abbrev pub invariant-loop-i : goal.invariant-loop-i
invariant-loop-i l =
    Turned (next_series (option_map bit l.shared)) on (rows_of_series l.partner) l.count l._i (0, l.fn.before) (low_of l.behind, l.seen) l.initial.d l.d l.initial.rows l.rows
