-- The difference of the raised baseline and the bias is the baseline; both are far below 2^63.
use mathlib.Core.Path.{◌≡◌, ap, ◌∙◌}
use lib.IntN.{pos, ◌-ℤ◌}
use borrow.Author.Rules.{rules}
use mir.Syntax.{w64}
use mir.Val.{to_z, of_z}
use Rattle.settlement.specs.RaisedLaws.{level-is}
use Rattle.settlement.proofs.rows.baseline_of.Goals as goal

pub returns : goal.returns
returns c =
    let back : to_z w64 (of_z w64 c.difference.result) ≡ c.difference.result = search rules in
    let level = c.args.level in
    back ∙ c.difference.ensures ∙ ap (λ b. pos level -ℤ pos b) c.bias.ensures ∙ level-is level
