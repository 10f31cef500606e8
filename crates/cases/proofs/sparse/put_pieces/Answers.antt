-- What the words that are left put in behind what is put, all words put in.
use Rattle.std.proofs.Common.{rules, refl}
use Rattle.std.proofs.lemmas.List.{nil_from_length}
use Rattle.cases.specs.SparseInner.{none, more}
use Rattle.cases.proofs.sparse.put_pieces.Goals as goal

pub loop-words-preserved : goal.loop-words-preserved
loop-words-preserved c = λ after rest. c.loop-words.invariant after (more c.in_ok-put_piece.ensures.piece (rw (← c.in_ok-put_piece.ensures.behind refl) rest))

pub returns : goal.returns
returns c = c.loop-words.invariant c.loop-words.out (rw (nil_from_length c.loop-words.words.rest.now (search rules)) none)
