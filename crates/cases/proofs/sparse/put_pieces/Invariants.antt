-- What the words that are left put in behind what is put, all words put in.
use Rattle.std.proofs.Common.{List, ℕ, length}
use Rattle.cases.specs.SparseInner.{Pieces}
use Rattle.cases.proofs.sparse.put_pieces.Given as goal

abbrev pub invariant-loop-words : goal.invariant-loop-words
invariant-loop-words l = (after : List ℕ) → Pieces l.words.rest.now l.out after → Pieces l.initial.words.rest.now l.initial.out after

abbrev pub decreases-loop-words : goal.decreases-loop-words
decreases-loop-words l = length l.words.rest.now
