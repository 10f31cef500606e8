-- The first run of rows that go with each other is their first group.
use Rattle.std.proofs.Common.{rules}
use Rattle.std.proofs.lemmas.Fn.{always_returns_same}
use Rattle.message.specs.Keys.{directions_keys}
use Rattle.writer.specs.RunsInner.{directed_in}
use Rattle.writer.specs.RunsInner.{goes_with}
use Rattle.writer.proofs.RunsLaws.{split-first}
use Rattle.writer.proofs.runs.split_series.Goals as goal

pub returns : goal.returns
returns c = split-first directions_keys directed_in _ _ c.split_run.result (c.split_run.ensures (goes_with directions_keys directed_in) (always_returns_same _ _ _ (λ a r f' k. search rules)))
