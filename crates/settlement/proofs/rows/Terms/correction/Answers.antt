-- Downward the two numbers are turned round, which negates their difference.
use mathlib.Core.Path.{◌≡◌, sym, ◌∙◌}
use lib.IntN.{pos}
use mir.Syntax.{w64}
use mir.Val.{to_z, of_z}
use borrow.Author.Rules.{rules}
use Rattle.volumes.specs.Settlement.{signed}
use Rattle.settlement.specs.RowsLaws.{turned}
use Rattle.settlement.proofs.rows.Terms.correction.Goals as goal

pub returns-in-Up : goal.returns-in-Up
unfolding signed
returns-in-Up c =
    let back : to_z w64 (of_z w64 c.difference.result) ≡ c.difference.result = search rules in
    rw c.in-Up.is (back ∙ c.difference.ensures)

pub returns-in-Down : goal.returns-in-Down
unfolding signed
returns-in-Down c =
    let back : to_z w64 (of_z w64 c.difference-in-Down.result) ≡ c.difference-in-Down.result = search rules in
    let a = c.args in
    rw c.in-Down.is (back ∙ c.difference-in-Down.ensures ∙ sym (turned (pos a.a) (pos a.b)))
