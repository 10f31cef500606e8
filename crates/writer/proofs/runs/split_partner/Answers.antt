-- The first run of rows that go with each other is their first group.
use Rattle.std.proofs.Common.{rules}
use Rattle.std.proofs.lemmas.Fn.{always_returns_same}
use Rattle.message.specs.Keys.{number_keys}
use Rattle.writer.specs.RowsInner.{row_in}
use Rattle.writer.specs.RunsInner.{goes_with}
use Rattle.writer.proofs.RunsLaws.{split-first}
use Rattle.writer.proofs.runs.split_partner.Goals as goal

pub returns : goal.returns
returns c = split-first number_keys row_in _ _ c.split_run.result (c.split_run.ensures (goes_with number_keys row_in) (always_returns_same _ _ _ (λ a r f' k. search rules)))
