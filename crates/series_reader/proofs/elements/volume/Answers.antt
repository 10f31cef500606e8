-- The parts of a series from its delivery direction on, one behind the other.
use Rattle.std.proofs.Common.{refl, ap, subst, ◌∙◌}
use Rattle.std.specs.Prelude.{◌≡◌, ℕ, Some}
use Rattle.cursor.specs.ReadsInner.{Reads}
use Rattle.text.specs.Ascii.{bytes}
use Rattle.cursor.proofs.ReadsLaws.{reads-pre, reads-seq, reads-post}
use Rattle.message.specs.Bytes.{opening, ending, closing}
use Rattle.message.specs.Reading.{observations_parse, volume_parse, counted_parse, plain_parse, of_volume}
use Rattle.passages.specs.ViewsInner.{bit}
use Rattle.series_reader.specs.RowsInner.{rows_of_observations, with_rows, held}
use Rattle.series_reader.proofs.RowsLaws.{bit_told}
use Rattle.series_reader.proofs.FillingLaws.{filled-got, got-filled}
use Rattle.series_reader.proofs.elements.volume.Goals as goal

pub returns-clause-filled : goal.returns-clause-filled
unfolding volume_parse counted_parse plain_parse of_volume opening ending closing bytes
returns-clause-filled c =
    let e : c.from.result ≡ bit c.in_ok-down.down = c.from.ensures ∙ bit_told c.in_ok-down.down in
    let g = filled-got c.in_ok-observations.ensures.filled in
    let rows = g.rows ∙ ap (λ (n : ℕ). with_rows (rows_of_observations c.args.partner (c.args.supply, n) g.value) (held c.args.rows.now)) e in
    let l = subst (λ (last : ℕ). Reads (observations_parse last c.in_ok-count.count) c.period.new.c c.observations.new.c (Some g.value)) c.last_position-last.ensures g.read in
    got-filled (reads-pre _ c.in_ok-tag.ensures.reads (reads-seq _ (reads-post _ c.in_ok-down.ensures c.in_ok-tag-2.ensures.reads)
    (reads-seq _ (reads-post _ c.in_ok-count.ensures.reads c.in_ok-tag-3.ensures.reads) (reads-seq _ c.in_ok-month.ensures.reads (reads-post _ l c.in_ok-tag-4.ensures.reads))))) refl rows g.lent
