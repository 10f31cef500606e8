-- Refused, the rows and the file are as they were; else both are filled, where the file has room.
use Rattle.std.proofs.Common.{◌≡◌, sym, ap, ◌∙◌, rules, arith}
use Rattle.std.proofs.lemmas.Grind.{common_steps}
use Rattle.std.specs.Prelude.{Err}
use Rattle.std.proofs.Math.Option.{none, some}
use Rattle.refusals.specs.declared.Refused.TheVariants.{Malformed}
use Rattle.refusals.specs.SentInner.{refusal_in}
use Rattle.kinds.specs.Numbers.{kind_numbered}
use Rattle.kinds.specs.NumbersInner.{kind_in}
use Rattle.volumes.specs.Settlement.{book_refusal}
use Rattle.filing.specs.FileCallLaws.{asked-room, call-refused, call-unknown, call-asked, call-filled}
use Rattle.filing.proofs.file.file.Goals.{In_ok-judge_settlement, In_ok-kind}
use Rattle.filing.proofs.file.file.Goals as goal

pub returns-in_err-judge_settlement : goal.returns-in_err-judge_settlement
returns-in_err-judge_settlement c =
    let same : c.from_residual.result ≡ Err c.in_err-judge_settlement.field-0.0 = search rules in
    rw same (call-refused _ _ _ _ _ _ _ _ (ap refusal_in (sym c.in_err-judge_settlement.was) ∙ c.judge_settlement.ensures))

-- the book is accepted
passed : (c : In_ok-judge_settlement) → book_refusal c.args.book.now ≡ none
passed c = sym c.judge_settlement.ensures ∙ ap refusal_in c.in_ok-judge_settlement.was

pub returns-in_err-kind : goal.returns-in_err-kind
returns-in_err-kind c =
    let same : c.from_residual-in_err-kind.result ≡ Err Malformed = grind (arith, common_steps) in
    rw same (call-unknown _ _ _ _ _ _ _ (passed (goal.at.returns-in_err-kind c).In_ok-judge_settlement) (sym (ap kind_in c.in_err-kind.was) ∙ c.try_from.ensures ∙ ap kind_numbered c.from.ensures))

-- it is of a kind that there is
known : (c : In_ok-kind) → some c.in_ok-kind.kind ≡ kind_numbered c.args.kind
known c = sym (ap kind_in c.in_ok-kind.was) ∙ c.try_from.ensures ∙ ap kind_numbered c.from.ensures

pub returns-in_err-judge_asked : goal.returns-in_err-judge_asked
returns-in_err-judge_asked c =
    let same : c.from_residual-in_err-judge_asked.result ≡ Err c.in_err-judge_asked.field-0.0 = search rules in
    rw same (call-asked _ _ _ _ _ _ _ _ (passed (goal.at.returns-in_err-judge_asked c).In_ok-judge_settlement) (known (goal.at.returns-in_err-judge_asked c).In_ok-kind) _ (ap refusal_in (sym c.in_err-judge_asked.was) ∙ c.judge_asked.ensures))

pub fill_file-requires : goal.fill_file-requires
fill_file-requires c =
    (passed (goal.at.fill_file-requires c).In_ok-judge_settlement, asked-room _ _ _ _ _ _ (sym c.judge_asked.ensures ∙ ap refusal_in c.in_ok-judge_asked.was))

pub returns : goal.returns
returns c =
    call-filled _ _ _ _ _ _ _ _ (passed (goal.at.returns c).In_ok-judge_settlement) (known (goal.at.returns c).In_ok-kind) _ _ _ (sym c.judge_asked.ensures ∙ ap refusal_in c.in_ok-judge_asked.was) c.fill_file.ensures
