-- The party stands in the register where it stands in a column of one of its rows: what `any` of the rows answers.
use Rattle.std.proofs.Common.{rules, ◌∙◌}
use Rattle.std.proofs.iter.runs.Sources.{ranges}
use Rattle.integers.proofs.FoundLaws.{any-is}
use Rattle.settlement.specs.SectionsInner.{point_count_in}
use Rattle.sheets.specs.PartiesInner.{in_row}
use Rattle.sheets.specs.PartiesLaws.{party-below}
use Rattle.sheets.proofs.parties.is_party.Goals as goal

pub returns : goal.returns
returns c =
    let a = c.args in
    let n = point_count_in a.register.now in
    any-is (in_row a.version a.register.now a.party) n c.any.result (search (rules, ranges)) ∙ party-below a.version a.register.now a.party n
