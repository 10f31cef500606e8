-- `write` meets its contract: three writes, one behind the other.
use Rattle.text.proofs.WrittenLaws.{and_then}
use Rattle.moments.specs.Moments.{moment_bytes}
use Rattle.moments.proofs.Moment.write.Goals as goal

pub returns : goal.returns
unfolding moment_bytes
returns c =
    and_then (and_then c.write_date-a.ensures c.write_time-b.ensures) c.write_tail.ensures
