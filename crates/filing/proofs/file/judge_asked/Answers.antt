-- The tests in their order, each as the definition has it.
use Rattle.std.proofs.Common.{◌≡◌, sym, ◌∙◌}
use Rattle.book.specs.Book.{book_of}
use Rattle.volumes.proofs.SettlementLaws.{passing}
use Rattle.reports.specs.Roles.{receivers}
use Rattle.reports.specs.Calls.{stands}
use Rattle.partners.specs.PartnersLaws.{role-in}
use Rattle.filing.specs.FileCallLaws.{asked-other, asked-malformed, asked-short, asked-well}
use Rattle.filing.proofs.file.judge_asked.Goals.{After-in_role}
use Rattle.filing.proofs.file.judge_asked.Goals as goal

pub section-requires : goal.section-requires
section-requires c = (passing _ c.requires).passed

-- the receiver's role, by the book
role : (c : After-in_role) → let a = c.args in c.in_role.result ≡ stands a.role.receiver (receivers (book_of a.book.now) a.role.kind)
role c =
    c.in_role.ensures ∙ role-in c.args.book.now c.section.result.now c.args.role.kind c.args.role.receiver (passing _ c.requires).passed c.section.ensures

pub returns-then-not-in_role : goal.returns-then-not-in_role
returns-then-not-in_role c = asked-other _ _ _ _ _ _ (sym (role (goal.at.returns-then-not-in_role c).After-in_role) ∙ c.if-not-in_role.true)

pub returns-then-not-in_form : goal.returns-then-not-in_form
returns-then-not-in_form c = asked-malformed _ _ _ _ _ _ (sym (role (goal.at.returns-then-not-in_form c).After-in_role) ∙ c.if-not-in_role.false) (sym c.in_form.ensures ∙ c.if-not-in_form.true)

pub row_count-requires : goal.row_count-requires
row_count-requires c = (passing _ c.requires).passed

pub returns-then-lent-row_count : goal.returns-then-lent-row_count
returns-then-lent-row_count c =
    asked-short _ _ _ _ _ _ (sym (role (goal.at.returns-then-lent-row_count c).After-in_role) ∙ c.if-not-in_role.false) (sym c.in_form.ensures ∙ c.if-not-in_form.false) (rw (← c.row_count.ensures.0) c.if-lent-row_count.true)

pub returns : goal.returns
returns c =
    asked-well _ _ _ _ _ _ (sym (role (goal.at.returns c).After-in_role) ∙ c.if-not-in_role.false) (sym c.in_form.ensures ∙ c.if-not-in_form.false) (rw (← c.row_count.ensures.0) c.if-lent-row_count.false)
