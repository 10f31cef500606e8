-- The first row by itself, then what std's `is_sorted_by` answers of each and the next.
use Rattle.std.proofs.Common.{◌&&◌, rules, sym, ap, ◌∙◌, List, [], ℕ, Bool}
use Rattle.std.proofs.lemmas.Fn.{always_returns_same}
use Rattle.std.specs.List.{list_all}
use Rattle.writer.specs.RowsInner.{row_in, is_six, row_earlier}
use Rattle.writer.proofs.OrderLaws.{adjacent-ordered, ordered-map, first-bad, first-good}
use Rattle.writer.proofs.judging.in_rows.Goals as goal

pub returns-then-not-is_row : goal.returns-then-not-is_row
returns-then-not-is_row c =
    let a = c.args in
    let good = is_six a.kind a.last in
    let e : List ℕ → List ℕ → Bool = λ x y. row_earlier a.kind (row_in x) (row_in y) in
    first-bad good e [] a.rows.now c.requires (sym c.if-not-is_row.true ∙ c.is_row.ensures)
    ∙ ap (λ (o : Bool). list_all good a.rows.now && o) (sym (ordered-map row_in (row_earlier a.kind) a.rows.now))

pub returns : goal.returns
returns c =
    let a = c.args in
    let good = is_six a.kind a.last in
    let e : List ℕ → List ℕ → Bool = λ x y. row_earlier a.kind (row_in x) (row_in y) in
    let behind : List ℕ → List ℕ → Bool = λ x y. good y && e x y in
    let judged = adjacent-ordered behind a.rows.now c.is_sorted_by.result (c.is_sorted_by.ensures.cases behind (always_returns_same _ _ _ (λ b r f' k. search rules))) in
    first-good good e [] a.rows.now c.is_sorted_by.result c.requires (sym c.if-not-is_row.false ∙ c.is_row.ensures) judged
    ∙ ap (λ (o : Bool). list_all good a.rows.now && o) (sym (ordered-map row_in (row_earlier a.kind) a.rows.now))
