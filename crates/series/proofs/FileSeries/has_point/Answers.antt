-- The four tests of the definition.
use mathlib.Core.Path.{ap, ap₂, ◌∙◌}
use mathlib.Core.Bool.{◌&&◌, and_assoc}
use Prim.Native.Nat.{ℕ}
use lib.Dec.{eqb}
use Rattle.volumes.specs.Series.{is_point, takes, receiver_of, partner_of, same_supply}
use Rattle.series.proofs.SameLaws.{supply-same}
use Rattle.series.proofs.FileSeries.has_point.Goals as goal

pub returns : goal.returns
unfolding is_point
returns c =
    let role = c.args.self.role in
    let s = c.args.self.series in
    let p = c.args.point in
    ap₂ ◌&&◌ c.takes.ensures (ap₂ ◌&&◌ (ap (λ (n : ℕ). eqb n s.partner) c.partner_of.ensures) (c.eq.ensures ∙ supply-same p.supply s.supply))
    ∙ and_assoc (takes role.kind p.situation) (eqb (receiver_of role.kind p) role.receiver) (eqb (partner_of role.kind p) s.partner && same_supply p.supply s.supply)
