-- The first root, or one of the others.
use Rattle.text.specs.Ascii.{bytes}
use Rattle.message.specs.Bytes.{opening, root}
use Rattle.message.specs.Reading.{kind_of}
use Rattle.reader.proofs.RootLaws.{root-first, root-none, root-other, third}
use Rattle.reader.proofs.file.opening.Goals as goal

pub returns-in-Some : goal.returns-in-Some
unfolding opening root bytes
returns-in-Some c = root-first c.in-Some.ensures.reads

pub returns-in_err-n : goal.returns-in_err-n
unfolding opening root bytes
returns-in_err-n c = rw c.from_residual.ensures (root-none c.in_default.ensures.reads (rw c.in_default.ensures.stays at c.in_err-n.ensures.reads))

pub returns-then-n-eq0 : goal.returns-then-n-eq0
unfolding opening root bytes kind_of
returns-then-n-eq0 c = rw c.if-n-eq0.true at (root-other c.in_default.ensures.reads (rw c.in_default.ensures.stays at c.in_ok-n.ensures.reads))

pub returns : goal.returns
unfolding opening root bytes
returns c = rw (third c.in_ok-n.n c.if-n-eq0.false) at (root-other c.in_default.ensures.reads (rw c.in_default.ensures.stays at c.in_ok-n.ensures.reads))
