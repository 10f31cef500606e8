-- Of a book that has passed 1 and 2, what its sections say by its header's own numbers is what the bytes say.
use Rattle.std.proofs.Common.{sym, ◌∙◌}
use Rattle.book.specs.Header.{sizes, adjoining, layout_good, calendar_section, table_section, register_section, reading_section, engagement_section}
use Rattle.book.specs.Judged.{sections_refusal, refusal_of}
use Rattle.judging.proofs.judge.judge_book.Goals as goal

pub returns : goal.returns
unfolding refusal_of layout_good
returns c =
    let book = c.args.book.now in
    let h = c.of-header.ensures in
    let laid = sym (c.layout_good.ensures ∙ (λ i. adjoining book 0 56 (sizes (h.calendar i) (h.points i) (h.rows i)))) ∙ c.if-not-layout_good.false in
    rw (sym c.header_good.ensures ∙ c.if-not-header_good.false, laid)
    (c.judge_sections.ensures
    ∙ (λ i. sections_refusal (h.version i) (h.calendar i) (h.points i) (h.rows i) (calendar_section book) (table_section book) (register_section book) (reading_section book) (engagement_section book)))
