-- The file is read from its first byte on, and nothing is left behind it.
use Rattle.std.specs.Prelude.{Some}
use Rattle.std.proofs.Common.{rules, refl, sym, ap, ◌∙◌, arith}
use Rattle.reader.specs.FileInner.{facts_in}
use Rattle.reader.proofs.FactsLaws.{none-read, some-left, some-all}
use Rattle.reader.proofs.facts.Goals as goal

pub returns-in_err-said-clause-facts : goal.returns-in_err-said-clause-facts
returns-in_err-said-clause-facts c = c.from_residual.ensures ∙ sym (ap facts_in (none-read c.args.file.now c.new-c.ensures.start c.new-c.ensures.of c.in_err-said.ensures))

pub returns-in_err-said-clause-rows : goal.returns-in_err-said-clause-rows
returns-in_err-said-clause-rows c = rw (none-read c.args.file.now c.new-c.ensures.start c.new-c.ensures.of c.in_err-said.ensures) (search rules)

pub returns-then-c-file-clause-facts : goal.returns-then-c-file-clause-facts
returns-then-c-file-clause-facts c = sym (ap facts_in (some-left c.args.file.now c.new-c.ensures.start c.new-c.ensures.of _ c.in_ok-said.ensures c.if-c-file.true))

pub returns-then-c-file-clause-rows : goal.returns-then-c-file-clause-rows
returns-then-c-file-clause-rows c = rw (some-left c.args.file.now c.new-c.ensures.start c.new-c.ensures.of _ c.in_ok-said.ensures c.if-c-file.true) (search rules)

pub returns-clause-facts : goal.returns-clause-facts
returns-clause-facts c =
    let r = some-all c.args.file.now c.new-c.ensures.start c.new-c.ensures.of c.in_ok-said.said refl (omega arith) c.in_ok-said.ensures c.if-c-file.false in
    sym (ap facts_in r.read ∙ ap Some r.facts)

pub returns-clause-rows : goal.returns-clause-rows
returns-clause-rows c =
    let r = some-all c.args.file.now c.new-c.ensures.start c.new-c.ensures.of c.in_ok-said.said refl (search rules) c.in_ok-said.ensures c.if-c-file.false in
    rw r.read (λ room. search (rules, c.in_ok-said.ensures.lent.same) ∙ r.rows room)
