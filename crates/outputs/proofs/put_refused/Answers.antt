-- Five writes, one behind the other.
use Rattle.text.specs.Ascii.{bytes}
use Rattle.text.proofs.WrittenLaws.{and_then}
use Rattle.outputs.specs.Output.{refused_line}
use Rattle.outputs.proofs.put_refused.Goals as goal

pub returns : goal.returns
unfolding refused_line bytes
returns c = and_then (and_then (and_then (and_then c.put-a.ensures c.put_plain-b.ensures) c.put-c.ensures) c.put_plain-d.ensures) c.put.ensures
