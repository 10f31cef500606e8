-- What comes off first is a run, and the rest stands behind it.
use Rattle.writer.proofs.RunsLaws.{split-run}
use Rattle.writer.proofs.runs.split_run.Goals as goal

pub next-requires : goal.next-requires
next-requires g c = rw (← c.chunk_by.ensures.closure) at c.requires

pub returns : goal.returns
returns g c =
    λ e k. split-run g.F.FnMut e c.chunk_by.result c.next.new.self c.in_ok-run.run' (rw (← c.chunk_by.ensures.closure) at k) c.in_ok-run.ensures.steps c.chunk_by.ensures.rest c.split_at.ensures.front c.split_at.ensures.back
