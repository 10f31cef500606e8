-- The parts of an access point, one behind the other.
use Rattle.std.specs.Prelude.{ℕ}
use Rattle.std.proofs.Common.{ap}
use Rattle.text.specs.Ascii.{bytes}
use Rattle.formats.specs.Exactly.{fixed_parse}
use Rattle.cursor.proofs.ReadsLaws.{reads-map, reads-pre, reads-seq, reads-post}
use Rattle.message.specs.Bytes.{group, partner, digits, opening, ending, closing}
use Rattle.message.specs.Reading.{partner_parse, shared_partner_parse, counted_parse, plain_parse}
use Rattle.series_reader.proofs.FillingLaws.{filled-got, got-filled}
use Rattle.reader.proofs.partners.access.Goals as goal

pub returns-clause-filled : goal.returns-clause-filled
unfolding partner_parse shared_partner_parse counted_parse plain_parse fixed_parse group partner digits opening ending closing bytes
returns-clause-filled c =
    let g = filled-got c.in_ok-seen.ensures.filled in
    got-filled (reads-map _ (reads-pre _ c.in_ok-tag.ensures.reads (reads-seq _ (reads-post _ c.in_ok-number.ensures.reads c.in_ok-tag-2.ensures.reads) (reads-seq _ (reads-post _ c.in_ok-injection.ensures.reads c.in_ok-tag-3.ensures.reads) (reads-seq _ (reads-post _ c.in_ok-count.ensures.reads c.in_ok-tag-4.ensures.reads) (reads-post _ g.read c.in_ok-tag-5.ensures.reads)))))) (ap (λ (m : ℕ × ℕ). (c.in_ok-number.number, m)) g.is) g.rows g.lent
