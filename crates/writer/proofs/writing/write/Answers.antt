-- A number that is no kind's is refused; else the file is written of its kind.
use Rattle.std.proofs.Common.{◌≡◌, Err, sym, ap, ◌∙◌, subst, arith}
use Rattle.std.proofs.lemmas.Grind.{common_steps}
use Rattle.refusals.specs.declared.Refused.TheVariants.{Malformed}
use Rattle.kinds.specs.Numbers.{kind_numbered}
use Rattle.kinds.specs.NumbersInner.{kind_in}
use Rattle.writer.specs.WriteCalls.{WriteCalled}
use Rattle.writer.proofs.WriteCallsLaws.{wrote-no-kind}
use Rattle.writer.proofs.writing.write.Goals as goal

pub returns-in_err-try_from : goal.returns-in_err-try_from
returns-in_err-try_from c =
    let a = c.args in
    let sent : c.from_residual.result ≡ Err Malformed = grind (arith, common_steps) in
    subst (WriteCalled a.kind a.receiver a.year a.month a.rows.now a.id.now a.moment.now a.file.now a.file.now) (sym sent)
    (wrote-no-kind a.kind a.receiver a.year a.month a.rows.now a.id.now a.moment.now a.file.now
    (sym (ap kind_numbered c.from.ensures) ∙ sym c.try_from.ensures ∙ ap kind_in c.in_err-try_from.was))
