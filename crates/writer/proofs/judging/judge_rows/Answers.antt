-- The receiver, whole rows, the month, and each row.
use Rattle.std.proofs.Common.{◌≤◌, length, sym, ◌∙◌, arith}
use Rattle.std.proofs.lemmas.Grind.{common_steps}
use Rattle.writer.proofs.SixesLaws.{rows-far, rows-odd, rows_none, rows-some}
use Rattle.writer.proofs.judging.judge_rows.Goals as goal

pub returns-then-receiver-gt9999999999 : goal.returns-then-receiver-gt9999999999
returns-then-receiver-gt9999999999 c = let a = c.args in sym (rows-far a.kind a.receiver a.year a.month a.numbers.now c.if-receiver-gt9999999999.true)

pub returns-then-not-is_empty : goal.returns-then-not-is_empty
returns-then-not-is_empty c = let a = c.args in sym (rows-odd a.kind a.receiver a.year a.month a.numbers.now (omega arith) (λ h. grind (arith, common_steps)))

pub returns-then-is_empty : goal.returns-then-is_empty
returns-then-is_empty c = let a = c.args in sym (rows_none a.kind a.receiver a.year a.month a.numbers.now (omega arith) (grind (arith, common_steps)))

pub returns-then-not-is_period : goal.returns-then-not-is_period
returns-then-not-is_period c =
    let a = c.args in
    let some : 1 ≤ length c.as_chunks.result.0.now = grind (arith, common_steps) in
    sym (rows-some a.kind a.receiver a.year a.month a.numbers.now c.as_chunks.ensures.front some (omega arith) (grind (arith, common_steps)) ∙ rw (sym c.is_period.ensures ∙ c.if-not-is_period.true))

pub returns : goal.returns
returns c =
    let a = c.args in
    let some : 1 ≤ length c.as_chunks.result.0.now = grind (arith, common_steps) in
    let is = rows-some a.kind a.receiver a.year a.month a.numbers.now c.as_chunks.ensures.front some (omega arith) (grind (arith, common_steps)) in
    sym (is ∙ rw (sym c.is_period.ensures ∙ c.if-not-is_period.false, ← c.last_position.ensures, ← c.in_rows.ensures))
