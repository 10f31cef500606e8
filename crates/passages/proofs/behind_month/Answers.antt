-- Four tags, one behind the other.
use Rattle.std.proofs.Common.{ap, ◌∙◌}
use Rattle.text.specs.Ascii.{bytes}
use Rattle.moments.specs.Moments.{moment_bytes}
use Rattle.passages.proofs.PeriodLaws.{from-eighth, no-start, no-between, no-end, to-last}
use Rattle.passages.proofs.behind_month.Goals as goal

pub returns-in_err-tag : goal.returns-in_err-tag
returns-in_err-tag c =
    let m = c.args.month in
    let s = from-eighth m.year m.month c.moment_text-start.result (c.moment_text-start.ensures ∙ ap moment_bytes c.period_start.ensures) in
    rw c.from_residual.ensures (no-start (m.year, m.month) (rw s at c.in_err-tag.ensures.reads))

pub returns-in_err-tag-2 : goal.returns-in_err-tag-2
unfolding bytes
returns-in_err-tag-2 c =
    let m = c.args.month in
    let s = from-eighth m.year m.month c.moment_text-start.result (c.moment_text-start.ensures ∙ ap moment_bytes c.period_start.ensures) in
    rw c.from_residual-in_err-tag-2.ensures (no-between (m.year, m.month) (rw s at c.in_ok-tag.ensures.reads) c.in_err-tag-2.ensures.reads)

pub returns-in_err-tag-3 : goal.returns-in_err-tag-3
unfolding bytes
returns-in_err-tag-3 c =
    let m = c.args.month in
    let s = from-eighth m.year m.month c.moment_text-start.result (c.moment_text-start.ensures ∙ ap moment_bytes c.period_start.ensures) in
    let e = c.moment_text-end.ensures ∙ ap moment_bytes c.period_end.ensures in
    rw c.from_residual-in_err-tag-3.ensures (no-end (m.year, m.month) (rw s at c.in_ok-tag.ensures.reads) c.in_ok-tag-2.ensures.reads (rw e at c.in_err-tag-3.ensures.reads))

pub returns : goal.returns
unfolding bytes
returns c =
    let m = c.args.month in
    let s = from-eighth m.year m.month c.moment_text-start.result (c.moment_text-start.ensures ∙ ap moment_bytes c.period_start.ensures) in
    let e = c.moment_text-end.ensures ∙ ap moment_bytes c.period_end.ensures in
    to-last (m.year, m.month) (rw s at c.in_ok-tag.ensures.reads) c.in_ok-tag-2.ensures.reads (rw e at c.in_ok-tag-3.ensures.reads) c.tag-4.ensures.reads
