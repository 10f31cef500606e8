-- Each run is one group.
use Rattle.std.proofs.Common.{◌∙◌, sym, ap, length, map, rules, ℕ, List}
use Rattle.std.proofs.lemmas.Fn.{always_returns_same}
use mathlib.Core.List.{map-map}
use Rattle.message.specs.Contents.{Observation}
use Rattle.message.specs.Keys.{directions_keys}
use Rattle.message.specs.Group.{group}
use Rattle.writer.specs.RowsInner.{row_in}
use Rattle.writer.specs.RunsInner.{directed_in}
use Rattle.writer.proofs.RunsLaws.{count-runs}
use Rattle.writer.proofs.runs.count_series.Goals as goal

pub returns : goal.returns
returns c =
    let ran = c.count.ensures.ran in
    ran.2 ∙ count-runs directions_keys directed_in _ ran.0 _ ran.1.0 (always_returns_same _ _ _ (λ a r f' k. search rules)) ran.1.1
    ∙ ap (λ (l : List (List ℕ)). length (group directions_keys (map directed_in l))) c.chunk_by.ensures.rest
    ∙ ap (λ (l : List ((ℕ × ℕ) × Observation)). length (group directions_keys l)) (sym (map-map (λ r. r.1) row_in c.args.rows.now))
