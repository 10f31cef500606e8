-- Each run is one group.
use Rattle.std.proofs.Common.{◌∙◌, ap, length, map, rules, ℕ, List}
use Rattle.std.proofs.lemmas.Fn.{always_returns_same}
use Rattle.message.specs.Keys.{number_keys}
use Rattle.message.specs.Group.{group}
use Rattle.writer.specs.RowsInner.{row_in}
use Rattle.writer.proofs.RunsLaws.{count-runs}
use Rattle.writer.proofs.runs.count_partners.Goals as goal

pub returns : goal.returns
returns c =
    let ran = c.count.ensures.ran in
    ran.2 ∙ count-runs number_keys row_in _ ran.0 _ ran.1.0 (always_returns_same _ _ _ (λ a r f' k. search rules)) ran.1.1
    ∙ ap (λ (l : List (List ℕ)). length (group number_keys (map row_in l))) c.chunk_by.ensures.rest
