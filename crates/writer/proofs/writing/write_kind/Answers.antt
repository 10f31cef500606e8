-- Each refusal in its turn, then the file.
use Rattle.std.proofs.Common.{sym, ◌∙◌}
use Rattle.kinds.specs.Numbers.{kind_number}
use Rattle.kinds.specs.NumbersLaws.{kind-numbered}
use Rattle.writer.proofs.WriteCallsLaws.{wrote-no-rows, wrote-malformed}
use Rattle.writer.proofs.writing.write_kind.Goals as goal

pub returns-then-not-judge_rows : goal.returns-then-not-judge_rows
returns-then-not-judge_rows c =
    let t = c.args.title in
    wrote-no-rows (kind_number t.kind) t.receiver t.year t.month c.args.numbers.now c.args.stamp.id.now c.args.stamp.moment.now c.args.file.now t.kind (kind-numbered t.kind)
    (sym c.judge_rows.ensures ∙ c.if-not-judge_rows.true)

pub returns-then-not-in_form : goal.returns-then-not-in_form
returns-then-not-in_form c =
    let t = c.args.title in
    wrote-malformed (kind_number t.kind) t.receiver t.year t.month c.args.numbers.now c.args.stamp.id.now c.args.stamp.moment.now c.args.file.now t.kind (kind-numbered t.kind)
    (sym c.judge_rows.ensures ∙ c.if-not-judge_rows.false) (sym c.in_form.ensures ∙ c.if-not-in_form.true)
