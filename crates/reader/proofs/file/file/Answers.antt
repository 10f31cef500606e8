-- The parts of a file, one behind the other; ID and moment stand behind the tags before them.
use Rattle.std.specs.Prelude.{length}
use Rattle.std.proofs.Common.{sym, ◌∙◌}
use Rattle.text.specs.Ascii.{bytes}
use Rattle.formats.specs.Exactly.{fixed_parse}
use Rattle.cursor.proofs.ReadsLaws.{reads-seq, reads-seq-stop, reads-seq-stop₂, reads-post, reads-post-stop, reads-post-stop₂}
use Rattle.message.specs.Bytes.{opening, ending, closing}
use Rattle.message.specs.Reading.{plain_parse, file_of}
use Rattle.series_reader.proofs.RowsLaws.{lent-self}
use Rattle.series_reader.proofs.FillingLaws.{filled-got, filled-none, got-filled, none-filled}
use Rattle.reader.proofs.PartsLaws.{no-partners, all-parts}
use Rattle.reader.proofs.PlacesLaws.{id-placed, moment-placed}
use Rattle.reader.proofs.file.file.Goals as goal

pub returns-in_err-behind_counter : goal.returns-in_err-behind_counter
unfolding plain_parse fixed_parse file_of opening ending closing bytes
returns-in_err-behind_counter c =
    rw c.from_residual-in_err-behind_counter.ensures (none-filled (no-partners c.in_ok-kind.ensures c.in_ok-tag.ensures.reads c.in_ok-name.ensures.reads c.in_ok-tag-2.ensures.reads c.in_ok-moment.ensures.reads c.in_ok-tag-3.ensures.reads c.in_ok-receiver.ensures.reads c.in_ok-before_counter.ensures
    (reads-seq-stop _ (reads-post-stop₂ _ c.in_ok-count.ensures.reads c.in_err-behind_counter.ensures))) (lent-self _))

pub returns-in_err-seen : goal.returns-in_err-seen
unfolding plain_parse fixed_parse file_of opening ending closing bytes
returns-in_err-seen c =
    let h = c.in_err-seen.ensures.filled in
    rw c.from_residual-in_err-seen.ensures (none-filled (no-partners c.in_ok-kind.ensures c.in_ok-tag.ensures.reads c.in_ok-name.ensures.reads c.in_ok-tag-2.ensures.reads c.in_ok-moment.ensures.reads c.in_ok-tag-3.ensures.reads c.in_ok-receiver.ensures.reads c.in_ok-before_counter.ensures
    (reads-seq-stop₂ _ (reads-post _ c.in_ok-count.ensures.reads c.in_ok-behind_counter.ensures) (reads-post-stop _ (filled-none h)))) h.lent)

pub returns-in_err-end : goal.returns-in_err-end
unfolding plain_parse fixed_parse file_of opening ending closing bytes
returns-in_err-end c =
    let g = filled-got c.in_ok-seen.ensures.filled in
    rw c.from_residual-in_err-end.ensures (none-filled (no-partners c.in_ok-kind.ensures c.in_ok-tag.ensures.reads c.in_ok-name.ensures.reads c.in_ok-tag-2.ensures.reads c.in_ok-moment.ensures.reads c.in_ok-tag-3.ensures.reads c.in_ok-receiver.ensures.reads c.in_ok-before_counter.ensures
    (reads-seq-stop₂ _ (reads-post _ c.in_ok-count.ensures.reads c.in_ok-behind_counter.ensures) (reads-post-stop₂ _ g.read c.in_err-end.ensures))) g.lent)

pub returns : goal.returns
unfolding plain_parse fixed_parse file_of opening ending closing bytes
returns c =
    let g = filled-got c.in_ok-seen.ensures.filled in
    let k = c.in_ok-kind.kind in
    let n = c.in_ok-name.name.now in
    let id = id-placed k c.in_ok-kind.ensures c.in_ok-tag.ensures.reads in
    let moment = moment-placed k c.in_ok-kind.ensures c.in_ok-tag.ensures.reads n c.in_ok-name.ensures.reads c.in_ok-tag-2.ensures.reads in
    let month = g.is ∙ sym c.numbers-year.ensures in
    got-filled (all-parts c.in_ok-kind.ensures c.in_ok-tag.ensures.reads c.in_ok-name.ensures.reads c.in_ok-tag-2.ensures.reads c.in_ok-moment.ensures.reads c.in_ok-tag-3.ensures.reads c.in_ok-receiver.ensures.reads c.in_ok-before_counter.ensures
    (reads-seq _ (reads-post _ c.in_ok-count.ensures.reads c.in_ok-behind_counter.ensures) (reads-post _ g.read c.in_ok-end.ensures)))
    (λ i. ((k, c.in_ok-receiver.receiver), (month i, (sym id i, (length n, sym moment i))))) g.rows g.lent
