-- The name, kind by kind.
use Rattle.text.specs.Ascii.{bytes}
use Rattle.message.specs.Bytes.{root}
use Rattle.emitter.proofs.parts.root.Goals as goal

pub returns-in-Toe01 : goal.returns-in-Toe01
unfolding root bytes
returns-in-Toe01 c = rw c.in-Toe01.is

pub returns-in-Toe02 : goal.returns-in-Toe02
unfolding root bytes
returns-in-Toe02 c = rw c.in-Toe02.is

pub returns-in-Toe03 : goal.returns-in-Toe03
unfolding root bytes
returns-in-Toe03 c = rw c.in-Toe03.is
