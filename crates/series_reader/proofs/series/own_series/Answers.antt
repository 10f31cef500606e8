-- The parts of a series with its own supply direction, one behind the other.
use Rattle.std.specs.Prelude.{◌≡◌, ℕ}
use Rattle.std.proofs.Common.{ap, ◌∙◌}
use Rattle.text.specs.Ascii.{bytes}
use Rattle.cursor.proofs.ReadsLaws.{reads-map, reads-pre, reads-seq, reads-post}
use Rattle.message.specs.Bytes.{opening, ending, closing}
use Rattle.message.specs.Reading.{own_series_parse, of_volume}
use Rattle.passages.specs.ViewsInner.{bit}
use Rattle.series_reader.specs.RowsInner.{rows_of_series, with_rows, held}
use Rattle.series_reader.proofs.RowsLaws.{bit_told}
use Rattle.series_reader.proofs.FillingLaws.{filled-got, got-filled}
use Rattle.series_reader.proofs.series.own_series.Goals as goal

pub returns-clause-filled : goal.returns-clause-filled
unfolding own_series_parse of_volume opening ending closing bytes
returns-clause-filled c =
    let x = bit c.in_ok-injection.injection in
    let e : c.from.result ≡ x = c.from.ensures ∙ bit_told c.in_ok-injection.injection in
    let g = filled-got c.in_ok-v.ensures.filled in
    let rows = g.rows ∙ ap (λ (n : ℕ). with_rows (rows_of_series c.args.partner (of_volume n g.value)) (held c.args.rows.now)) e in
    got-filled (reads-map _ (reads-pre _ c.in_ok-tag.ensures.reads (reads-seq _ (reads-post _ c.in_ok-injection.ensures.reads c.in_ok-tag-2.ensures.reads) (reads-post _ g.read c.in_ok-tag-3.ensures.reads))))
    (ap (λ (k : ℕ × (ℕ × ℕ)). ((x, k.0), (k.1.0, k.1.1))) g.is) rows g.lent
