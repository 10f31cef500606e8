-- What was measured has room, or not; what was measured is written.
use Rattle.std.proofs.Common.{◌≡◌, Err, sym, ◌∙◌, rules, subst, arith}
use Rattle.std.proofs.lemmas.Grind.{common_steps}
use Rattle.refusals.specs.declared.Refused.TheVariants.{Short}
use Rattle.kinds.specs.Numbers.{kind_number}
use Rattle.writer.specs.WriteCalls.{WriteCalled}
use Rattle.writer.proofs.CalledLaws.{called-short, called-file, same-buffer, was-some, was-none, measured-at, written-at}
use Rattle.writer.proofs.ContentsLaws.{rows-period, message-is}
use Rattle.writer.proofs.writing.write_file.Goals as goal

pub emit_file-requires : goal.emit_file-requires
emit_file-requires c = let t = c.args.title in rows-period t.kind t.receiver t.year t.month c.args.numbers.now c.as_chunks.ensures.front c.requires.0

pub emit_file-requires-2 : goal.emit_file-requires-2
emit_file-requires-2 c = let t = c.args.title in rows-period t.kind t.receiver t.year t.month c.args.numbers.now c.as_chunks.ensures.front c.requires.0

pub returns-in_err-ok_or : goal.returns-in_err-ok_or
returns-in_err-ok_or c =
    let t = c.args.title in
    let is = message-is t c.args.stamp.id.now c.args.stamp.moment.now c.args.numbers.now c.as_chunks.ensures.front in
    let none = was-none c.emit_file.result _ _ (sym c.ok_or.ensures.value ∙ c.in_err-ok_or.was) in
    let sent : c.from_residual.result ≡ Err (Short 1) = grind (arith, common_steps, none.1) in
    subst (WriteCalled (kind_number t.kind) t.receiver t.year t.month c.args.numbers.now c.args.stamp.id.now c.args.stamp.moment.now c.args.file.now c.args.file.now) (sym sent)
    (called-short t.kind t.receiver t.year t.month c.args.numbers.now c.args.stamp.id.now c.args.stamp.moment.now c.args.file.now c.requires.0 c.requires.1
    c.new-measure.result c.emit_file.new.sink c.new-measure.ensures.laid c.new-measure.ensures.room (measured-at c.new-measure.result c.emit_file.new.sink _ _ _ _ is none.0 c.emit_file.ensures))

pub returns : goal.returns
returns c =
    let t = c.args.title in
    let is = message-is t c.args.stamp.id.now c.args.stamp.moment.now c.args.numbers.now c.as_chunks.ensures.front in
    let name = same-buffer c.new-write.result c.emit_file-2.new.sink _ _ c.emit_file-2.ensures in
    let some = was-some c.emit_file.result _ (sym c.ok_or.ensures.value ∙ c.in_ok-ok_or.was) in
    called-file t.kind t.receiver t.year t.month c.args.numbers.now c.args.stamp.id.now c.args.stamp.moment.now c.args.file.now c.requires.0 c.requires.1
    c.new-measure.result c.emit_file.new.sink c.new-write.result c.emit_file-2.new.sink tt c.emit_file-2.result (search rules) c.new-measure.ensures.laid c.new-measure.ensures.room
    (measured-at c.new-measure.result c.emit_file.new.sink _ _ _ _ is some c.emit_file.ensures) c.new-write.ensures.untouched c.new-write.ensures.at (written-at c.new-write.result c.emit_file-2.new.sink _ _ _ is c.emit_file-2.ensures)
