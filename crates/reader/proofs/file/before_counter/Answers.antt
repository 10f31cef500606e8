-- The kind's tag.
use Rattle.text.specs.Ascii.{bytes}
use Rattle.message.specs.Bytes.{opening, ending, closing, counter}
use Rattle.reader.proofs.file.before_counter.Goals as goal

pub returns-in-Toe01 : goal.returns-in-Toe01
unfolding opening ending closing counter bytes
returns-in-Toe01 c = rw c.in-Toe01.is c.tag.ensures.reads

pub returns-in-Toe02 : goal.returns-in-Toe02
unfolding opening ending closing counter bytes
returns-in-Toe02 c = rw c.in-Toe02.is c.tag-in-Toe02.ensures.reads

pub returns-in-Toe03 : goal.returns-in-Toe03
unfolding opening ending closing counter bytes
returns-in-Toe03 c = rw c.in-Toe03.is c.tag-in-Toe03.ensures.reads
