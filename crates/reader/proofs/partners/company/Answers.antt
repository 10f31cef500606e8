-- The parts of a supplier or an FSP, one behind the other.
use Rattle.std.specs.Prelude.{ℕ}
use Rattle.std.proofs.Common.{ap}
use Rattle.text.specs.Ascii.{bytes}
use Rattle.formats.specs.Exactly.{fixed_parse}
use Rattle.cursor.proofs.ReadsLaws.{reads-map, reads-map-stop, reads-pre, reads-seq, reads-seq-stop₂, reads-post, reads-post-stop₂}
use Rattle.message.specs.Bytes.{ending}
use Rattle.message.specs.Reading.{counted_parse, plain_parse}
use Rattle.reader.specs.PartnersInner.{company_parse}
use Rattle.series_reader.proofs.FillingLaws.{filled-got, filled-stays, got-filled, none-filled}
use Rattle.reader.proofs.partners.company.Goals as goal

pub returns-in_err-tag-4-clause-filled : goal.returns-in_err-tag-4-clause-filled
unfolding company_parse counted_parse plain_parse fixed_parse ending bytes
returns-in_err-tag-4-clause-filled c =
    let g = filled-got c.in_ok-seen.ensures.filled in
    rw c.from_residual-in_err-tag-4.ensures (filled-stays (none-filled (reads-map-stop _ (reads-pre _ c.in_ok-tag.ensures.reads (reads-seq-stop₂ _ (reads-post _ c.in_ok-number.ensures.reads c.in_ok-tag-2.ensures.reads)
    (reads-seq-stop₂ _ (reads-post _ c.in_ok-count.ensures.reads c.in_ok-tag-3.ensures.reads) (reads-post-stop₂ _ g.read c.in_err-tag-4.ensures.reads))))) g.lent))

pub returns-clause-filled : goal.returns-clause-filled
unfolding company_parse counted_parse plain_parse fixed_parse ending bytes
returns-clause-filled c =
    let g = filled-got c.in_ok-seen.ensures.filled in
    got-filled (reads-map _ (reads-pre _ c.in_ok-tag.ensures.reads (reads-seq _ (reads-post _ c.in_ok-number.ensures.reads c.in_ok-tag-2.ensures.reads) (reads-seq _ (reads-post _ c.in_ok-count.ensures.reads c.in_ok-tag-3.ensures.reads) (reads-post _ g.read c.in_ok-tag-4.ensures.reads))))) (ap (λ (m : ℕ × ℕ). (c.in_ok-number.number, m)) g.is) g.rows g.lent
