-- What was put stands in the buffer; each turn takes words off the line.
use Rattle.std.proofs.Common.{◌≤◌, length}
use Rattle.message_vectors.proofs.reading.edited.Given as goal

abbrev pub invariant-loop-words : goal.invariant-loop-words
invariant-loop-words l = l.n ≤ length l.out

abbrev pub decreases-loop-words : goal.decreases-loop-words
decreases-loop-words l = length l.words.rest.now
