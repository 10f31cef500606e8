-- The word of that number in the list of the two.
use Rattle.std.proofs.Common.{arith}
use Rattle.formats.specs.Words.{word_at}
use Rattle.emitter.proofs.PartsLaws.{no-word}
use Rattle.emitter.proofs.parts.word.Goals as goal

pub returns-in-0 : goal.returns-in-0
unfolding word_at
returns-in-0 c = rw c.in-0.is

pub returns-in-1 : goal.returns-in-1
unfolding word_at
returns-in-1 c = rw c.in-1.is

pub returns-in_default : goal.returns-in_default
returns-in_default c = no-word _ _ c.args.which (omega arith)
