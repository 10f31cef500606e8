-- The volume is the one delivered in the point's direction, and what the source party doesn't get of it is the injection party's; the five numbers are stored one behind the other.
use native.Mathlib.Omega.{arith}
use borrow.Author.Rules.{rules}
use mathlib.Core.Path.{◌≡◌, sym, ap, ◌∙◌}
use Prim.Native.Nat.{◌<◌}
use lib.IntN.{pos, ◌-ℤ◌, +ℤ_idr}
use mir.Syntax.{w64}
use mir.Val.{to_z, of_z}
use Rattle.grains.specs.Grains.{grains, grains_z}
use Rattle.volumes.specs.Settlement.{delivered_by, source_by, injection_by, signed}
use Rattle.volumes.proofs.SplitLaws.{shares_whole, source-most}
use Rattle.settlement.specs.RaisedInner.{baseline_of, watts_of}
use Rattle.settlement.specs.RowsInner.{row_from}
use Rattle.settlement.specs.RowsLaws.{delivered-by, rest_of}
use Rattle.settlement.specs.StoresLaws.{five-sets}
use Rattle.settlement.proofs.rows.Terms.write_row.Goals as goal

pub correction-requires : goal.correction-requires
correction-requires c =
    let a = c.args in
    let source-small : c.source_volume-source.result < 9223372036854775808 =
    omega (arith, c.source_volume-source.ensures, source-most a.self.version a.self.e.direction (baseline_of a.level) (grains_z (watts_of a.raised)) c.delivered-volume.result, c.delivered-volume.ensures.1) in
    (source-small, search rules)

pub correction-requires-3 : goal.correction-requires-3
correction-requires-3 c =
    let a = c.args in
    let source-small : c.source_volume-source.result < 9223372036854775808 =
    omega (arith, c.source_volume-source.ensures, source-most a.self.version a.self.e.direction (baseline_of a.level) (grains_z (watts_of a.raised)) c.delivered-volume.result, c.delivered-volume.ensures.1) in
    (search rules, source-small)

pub returns : goal.returns
unfolding row_from
returns c =
    let a = c.args in
    let t = a.self in
    let z = baseline_of a.level in
    let r = grains_z (watts_of a.raised) in
    let volume-is : c.delivered-volume.result ≡ delivered_by t.e.direction t.point z r = c.delivered-volume.ensures.0 ∙ sym (delivered-by t.e.direction t.point z r) in
    let volume = c.delivered-volume.result in
    let level = c.baseline_of in
    let whole = c.difference in
    let source = c.correction in
    let fsp = c.correction-2 in
    let rest = c.correction-3 in
    let shares = shares_whole t.version t.e.direction z r volume in
    let one : to_z w64 (of_z w64 level.result) ≡ z = (search rules) ∙ level.ensures in
    let two : to_z w64 (of_z w64 whole.result) ≡ pos volume = (search rules) ∙ whole.ensures ∙ +ℤ_idr (pos volume) in
    let three : to_z w64 (of_z w64 source.result) ≡ signed t.e.direction (pos (source_by t.version t.e.direction z r volume)) = (search rules) ∙ source.ensures ∙ ap (signed t.e.direction) (+ℤ_idr (pos c.source_volume-source.result) ∙ ap pos c.source_volume-source.ensures) in
    let four : to_z w64 (of_z w64 fsp.result) ≡ signed t.e.direction (pos (grains t.e.requested) -ℤ pos volume) = (search rules) ∙ fsp.ensures ∙ ap (λ n. signed t.e.direction (pos n -ℤ pos volume)) c.from_watts-asked.ensures in
    let five : to_z w64 (of_z w64 rest.result) ≡ signed t.e.direction (pos (injection_by t.version t.e.direction z r volume)) = (search rules) ∙ rest.ensures ∙ ap (λ n. signed t.e.direction (pos volume -ℤ pos n)) c.source_volume-source.ensures ∙ ap (signed t.e.direction) (rest_of volume _ _ shares) in
    rw (one, two, three, four, five, ← volume-is) (five-sets a.row.now 0 _ _ _ _ _)
