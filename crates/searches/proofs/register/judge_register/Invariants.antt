-- Rows passed are good, and no access EAN of theirs is above the top.
use Rattle.std.proofs.Common.{◌≡◌, ◌-◌}
use Rattle.book.specs.Register.{bad_point}
use Rattle.integers.specs.First.{first}
use Rattle.searches.specs.RegisterInner.{Topped}
use Rattle.searches.proofs.register.judge_register.Given as goal

abbrev pub invariant-loop-i : goal.invariant-loop-i
invariant-loop-i l = (first (bad_point l.version l.days l.register) 0 l.n ≡ first (bad_point l.version l.days l.register) l.i (l.n - l.i)) × Topped l.register l.i l.top
