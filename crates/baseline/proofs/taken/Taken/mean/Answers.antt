-- A mean of X raised readings is raised by one reading.
use Rattle.std.proofs.Common.{ℕ, ◌*◌, arith, subst, length}
use native.Mathlib.Nat.{mul-one}
use Rattle.integers.specs.Sums.{sum_z}
use Rattle.integers.proofs.ZLaws.{Over}
use Rattle.grains.specs.GrainsLaws.{shares-x, mean-over, mean-small}
use Rattle.wire.specs.ReadingsInner.{raise}
use Rattle.volumes.specs.Baseline.{watts}
use Rattle.baseline.specs.RunsInner.{start_runs}
use Rattle.baseline.specs.TallyInner.{Summed}
use Rattle.baseline.proofs.taken.Taken.mean.Goals as goal

pub returns : goal.returns
returns c =
    let self = c.args.self.now in
    let x = length self.starts.now in
    let sum = c.tally.result.1 in
    let days = start_runs self.readings.now c.args.place 0 1 self.starts.now in
    let total = sum_z watts days in
    let summed : Summed days (x * 1) sum = c.tally.ensures.sum in
    let shares = shares-x x self.some self.few in
    rw self.shared
    (record {
      level = λ h. mean-over x raise total sum shares (subst (λ (n : ℕ). Over (raise * n) total sum) (mul-one x) (summed.over h));
      small = mean-small x sum 4294967295 shares (omega (arith, summed.small, mul-one x));
    })
