-- The raised reading in grains, and two raises more.
use Rattle.std.proofs.Common.{◌≡◌, ◌+◌, ◌-◌, ◌*◌, ℕ, ap₂, arith, le-leb}
use Rattle.grains.specs.Grains.{grains}
use Rattle.volumes.specs.Quarters.{start}
use Rattle.wire.specs.ReadingsInner.{raise, Raised}
use Rattle.wire.specs.ReadingsLaws.{or-none}
use Rattle.baseline.specs.TallyLaws.{there}
use Rattle.baseline.specs.LevelLaws.{lifted}
use Rattle.baseline.proofs.case.Case.last_level.Goals as goal

pub returns : goal.returns
returns c =
    let r = c.unwrap_or-raised.result in
    let told : Raised c.args.self.now.readings.now (c.start.result - (c.args.self.now.shown.e.notice + 1)) r = rw c.unwrap_or-raised.ensures (or-none _ _ c.raised_at.result c.raised_at.ensures) in
    let here = there _ r told.range told.is in
    let case = c.args.self.now in
    let at : ℕ = start case.shown.c case.shown.e - (case.shown.e.notice + 1) in
    let sum : c.from_watts.result.count + c.raises.result ≡ grains r + grains (2 * raise) = ap₂ ◌+◌ c.from_watts.ensures c.raises.ensures in
    rw (le-leb (case.shown.e.notice + 1) (start case.shown.c case.shown.e) c.requires, ← c.start.ensures, sum) (record { level = λ h. lifted _ r (here.sum h); small = omega arith })
