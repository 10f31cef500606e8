-- With no more values than were tried is the file read.
use Rattle.std.proofs.Common.{◌≤◌}
use Rattle.message_vectors.proofs.changes.values_at.Given as goal

abbrev pub invariant-loop-value : goal.invariant-loop-value
invariant-loop-value g l = l.count ≤ l.value
