-- The row's six numbers are copied behind those of the rows before it, where the test left room.
use Rattle.std.proofs.Common.{refl}
use Rattle.series_reader.proofs.RowsLaws.{added-none, added-row}
use Rattle.series_reader.proofs.rows.Rows.push.Goals as goal
use Rattle.series_reader.proofs.rows.Rows.push.Goals.{then-self, else-self}

pub returns : goal.returns
returns c = elim c.if-self.branch [
  | then-self w ↦ rw w.self-is (added-row c.args.key c.args.o c.args.self.now _ _ w.if-self.true w.copy_from_slice.ensures.after refl refl refl)
  | else-self w ↦ rw w.self-is (added-none c.args.key c.args.o c.args.self.now _ w.if-self.false refl refl refl)
]
