-- The output lies in the buffer that it was written to.
-- By name, since the law's conclusion doesn't show the input that it is about: `using` a ruleset of it was tried in `program`.
use Rattle.std.proofs.Common.{sym, length-take-le, arith}
use Rattle.outputs.proofs.OutputLaws.{printed-fits}
use Rattle.program.proofs.run.Goals as goal

pub slice_bounds-out-end : goal.slice_bounds-out-end
slice_bounds-out-end g c = omega (arith, printed-fits c.answer-count.ensures)

pub slice_bounds-print-end : goal.slice_bounds-print-end
slice_bounds-print-end g c = sym (length-take-le c.answer-count.result c.answer-count.new.out (printed-fits c.answer-count.ensures))
