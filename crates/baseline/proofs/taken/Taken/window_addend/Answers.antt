-- A's window and the days' windows have one bias, which falls out of the difference.
use Rattle.std.proofs.Common.{◌≡◌, subst, ap₂, ℕ, ◌+◌, ◌-◌, ◌*◌, ◌≤◌, arith, length}
use Rattle.std.proofs.Math.IntN.{pos, ◌*ℤ◌}
use native.Mathlib.Nat.{mul_comm}
use Rattle.integers.specs.Sums.{sum_z}
use Rattle.integers.proofs.ZLaws.{Over}
use Rattle.grains.specs.Grains.{grains, share}
use Rattle.grains.specs.GrainsInner.{Shares}
use Rattle.grains.specs.GrainsLaws.{shares-12x, mean-over, mean-small}
use Rattle.wire.specs.ReadingsInner.{raise}
use Rattle.volumes.specs.Baseline.{watts}
use Rattle.baseline.specs.ShownInner.{window_in}
use Rattle.baseline.specs.RunsInner.{start_runs}
use Rattle.baseline.specs.TallyInner.{Summed}
use Rattle.baseline.specs.TallyLaws.{sum-of}
use Rattle.baseline.specs.LevelLaws.{difference}
use Rattle.baseline.proofs.taken.Taken.window_addend.Goals as goal

twelve : Shares 12
twelve = shares-12x 1 (omega arith) (omega arith)

-- neither mean is more than the greatest raised reading
less-small : (x sum : ℕ) → 1 ≤ x → x ≤ 10 → sum ≤ 4294967295 * (x * 12) → sum * share (12 * x) ≤ grains 4294967295
less-small x sum some few small = mean-small (12 * x) sum 4294967295 (shares-12x x some few) (omega (arith, small, mul_comm x 12))

pub mean-less-requires : goal.mean-less-requires
mean-less-requires c = let x = length c.args.self.now.starts.now in
    let summed = sum-of _ _ c.sum.result c.sum.ensures in
    (shares-12x x c.args.self.now.some c.args.self.now.few, omega (arith, c.unwrap_or-days.ensures, summed.small, mul_comm x 12))

pub overflow_sub-result : goal.overflow_sub-result
overflow_sub-result c =
    let self = c.args.self.now in
    let x = length self.starts.now in
    let days = start_runs self.readings.now c.args.place 24 12 self.starts.now in
    let summed : Summed days (x * 12) c.unwrap_or-days.result = rw c.unwrap_or-days.ensures (sum-of days (x * 12) c.sum.result c.sum.ensures) in
    omega (arith, c.mean-less.ensures, less-small x c.unwrap_or-days.result self.some self.few summed.small, c.raises.ensures)

pub returns : goal.returns
returns c =
    let self = c.args.self.now in
    let x = length self.starts.now in
    let own = c.unwrap_or-own.result in
    let window = window_in self.readings.now c.args.q in
    let days = start_runs self.readings.now c.args.place 24 12 self.starts.now in
    let summed : Summed window 12 own = rw c.unwrap_or-own.ensures (sum-of window 12 c.window.result c.window.ensures) in
    let sum = c.unwrap_or-days.result in
    let others : Summed days (x * 12) sum = rw c.unwrap_or-days.ensures (sum-of days (x * 12) c.sum.result c.sum.ensures) in
    let less = less-small x sum self.some self.few others.small in
    let answer : c.mean-mean.result.count + c.raises.result - c.mean-less.result.count ≡ own * share 12 + grains (2 * raise) - sum * share (12 * x) = ap₂ ◌-◌ (ap₂ ◌+◌ c.mean-mean.ensures c.raises.ensures) c.mean-less.ensures in
    rw answer
    (record {
      level = λ h k. difference (grains raise) (grains (2 * raise)) (sum_z watts window *ℤ pos (share 12)) (sum_z watts days *ℤ pos (share (12 * x))) (own * share 12) (sum * share (12 * x))
          (mean-over 12 raise (sum_z watts window) own twelve (summed.over h))
          (mean-over (12 * x) raise (sum_z watts days) sum (shares-12x x self.some self.few) (subst (λ (n : ℕ). Over (raise * n) (sum_z watts days) sum) (mul_comm x 12) (others.over k)))
          (omega arith);
      small = omega (arith, mean-small 12 own 4294967295 twelve summed.small);
    })
