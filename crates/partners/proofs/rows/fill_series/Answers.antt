-- The watts that are written are the series' observations, and their rows the series'.
use Rattle.std.proofs.Common.{sym, ap, ◌∙◌, arith, ◌≤◌}
use Rattle.std.proofs.lemmas.List.{length-take-le}
use Rattle.std.specs.Prelude.{length, take}
use Rattle.book.specs.Book.{book_of}
use Rattle.quarters.specs.Quarters.{month_quarters}
use Rattle.series.proofs.DeliveredLaws.{parts}
use Rattle.partners.specs.ObservationsLaws.{observations-taken, dated}
use Rattle.partners.specs.PartnerRowsLaws.{filled_is, positions-few, series-rows-are}
use Rattle.partners.proofs.rows.fill_series.Goals as goal

pub series_watts-requires : goal.series_watts-requires
series_watts-requires c = let d = c.args.delivered.now in (dated d.book.now d.volumes.now d.delivered).few

pub slice_bounds-watts-end : goal.slice_bounds-watts-end
slice_bounds-watts-end c =
    let d = c.args.delivered.now in
    omega (arith, c.month_quarters.ensures ∙ ap month_quarters (sym (parts d.delivered d.parts).when), (dated d.book.now d.volumes.now d.delivered).few, c.series_watts.auto.watts)

pub slice_bounds-push_watts-end : goal.slice_bounds-push_watts-end
slice_bounds-push_watts-end c =
    let d = c.args.delivered.now in
    sym (length-take-le c.month_quarters.result c.series_watts.new.watts (omega (arith, c.month_quarters.ensures ∙ ap month_quarters (sym (parts d.delivered d.parts).when), (dated d.book.now d.volumes.now d.delivered).few, c.series_watts.auto.watts)))

pub returns : goal.returns
returns c =
    let a = c.args in
    let d = a.delivered.now in
    let r = a.s.role in
    let s = a.s.series in
    let n = c.month_quarters.result in
    let l = c.series_watts.new.watts in
    let book = book_of d.book.now in
    let month = c.month_quarters.ensures ∙ ap month_quarters (sym (parts d.delivered d.parts).when) in
    let few = (dated d.book.now d.volumes.now d.delivered).few in
    let room : n ≤ length l = omega (arith, month, few, c.series_watts.auto.watts) in (
      filled_is _ (series-rows-are book r.kind r.receiver s _ (observations-taken book r.kind r.receiver s _ l n month c.series_watts.ensures)) c.push_watts.ensures,
      omega (arith, c.push_watts.ensures.behind, month, few, length-take-le n l room, positions-few s (take n l) (length (take n l))),
    )
