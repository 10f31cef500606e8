-- Fewer than eight facts leave all as it is. Else, accepted, the facts are put; refused, nothing is.
use Rattle.std.proofs.Common.{◌≡◌, Ok, Err, rules}
use Rattle.toe_c.proofs.CodesLaws.{facts-read, facts-refused, judged-refused, judged-short}
use Rattle.toe_c.proofs.read.Goals as goal

pub returns-in_err-judge : goal.returns-in_err-judge
returns-in_err-judge c =
    let same : c.from_residual.result ≡ Err c.in_err-judge.field-0.0 = search rules in
    rw same (judged-refused c.args.file.now c.args.rows.now c.args.facts.now c.in_err-judge.field-0.0 c.in_err-judge.ensures)

pub returns-then-facts-lt8 : goal.returns-then-facts-lt8
returns-then-facts-lt8 c = judged-short c.args.file.now c.args.rows.now c.args.facts.now _ c.if-facts-lt8.true c.in_ok-judge.ensures

pub returns-in_err-told : goal.returns-in_err-told
returns-in_err-told c =
    let same : c.from_residual-in_err-told.result ≡ Err c.in_err-told.field-0.0 = search rules in
    rw same (facts-refused c.args.file.now c.args.rows.now _ c.args.facts.now c.in_err-told.field-0.0 c.if-facts-lt8.false c.in_err-told.ensures)

pub returns : goal.returns
returns c = rw c.put_facts.ensures (facts-read c.args.file.now c.args.rows.now _ c.args.facts.now c.in_ok-told.told c.if-facts-lt8.false c.in_ok-told.ensures)
