-- What was read so far, and what is left.
use Rattle.series_reader.specs.RowsInner.{rows_of_partner}
use Rattle.series_reader.specs.ViewsInner.{low_of, month_seen}
use Rattle.series_reader.specs.TurnsInner.{Turned}
use Rattle.reader.specs.PartnersInner.{next_partner}
use Rattle.reader.proofs.PartnersLaws.{on}
use Rattle.reader.proofs.partners.partners.Given as goal

abbrev pub invariant-loop-i : goal.invariant-loop-i
invariant-loop-i l =
    Turned (next_partner l.kind) on rows_of_partner l.count l._i (0, (0, 0)) (low_of l.behind, month_seen l.seen.month) l.initial.d l.d l.initial.rows l.rows
