-- A mean of X readings, and of X days' 12, is a whole number of grains: 1 to 10 and 12 to 120 by twelves divide 30,240.
use Rattle.std.specs.Prelude.{◌≡◌, ℕ, zero, suc, ◌*◌, ◌≤◌, eqb, ℤ, pos, ◌*ℤ◌}
use Rattle.std.proofs.Common.{sym, ap, ◌∙◌, mul_assoc, mul_comm, zero-mul, mul-le-mul_right, arith, eqb→eq}
use Rattle.integers.proofs.TestsLaws.{all-below}
use Rattle.integers.proofs.ZLaws.{Over, over-mul}
use Rattle.grains.specs.Grains.{per_watt, grains, share}
use Rattle.grains.specs.GrainsInner.{Shares}

-- "X 1 to 10"
pub shares-x : (x : ℕ) → 1 ≤ x → x ≤ 10 → Shares x
shares-x zero h k = absurd (omega arith)
shares-x (suc x) h k = record { whole = eqb→eq _ _ (all-below (λ (n : ℕ). eqb (suc n * share (suc n)) per_watt) 10 tt x (omega arith)) }

-- the 12 of each of X days
pub shares-12x : (x : ℕ) → 1 ≤ x → x ≤ 10 → Shares (12 * x)
shares-12x zero h k = absurd (omega arith)
shares-12x (suc x) h k = record { whole = eqb→eq _ _ (all-below (λ (n : ℕ). eqb (12 * suc n * share (12 * suc n)) per_watt) 10 tt x (omega arith)) }

-- the mean times n is the sum, in grains: nothing is rounded
pub exact : (n : ℕ) → Shares n → (sum : ℕ) → sum * share n * n ≡ grains sum
exact n h sum = mul_assoc sum (share n) n ∙ ap (λ (k : ℕ). sum * k) (mul_comm (share n) n ∙ h.whole)

-- what is shared is not nothing
pub some_share : (n : ℕ) → Shares n → 1 ≤ n
some_share zero h = absurd (omega (arith, h.whole, zero-mul (share zero)))
some_share (suc n) h = omega arith

-- a mean of numbers that are at most `most` is at most that, in grains
pub mean-small : (n sum most : ℕ) → Shares n → sum ≤ most * n → sum * share n ≤ grains most
mean-small n sum most h k =
    let e : most * n * share n ≡ grains most = mul_assoc most n (share n) ∙ ap (λ (j : ℕ). most * j) h.whole in
    rw (← e) (mul-le-mul_right (share n) k)

-- the mean of raised readings is raised by one reading's
pub mean-over : (n bias : ℕ) (z : ℤ) (sum : ℕ) → Shares n → Over (bias * n) z sum → Over (grains bias) (z *ℤ pos (share n)) (sum * share n)
mean-over n bias z sum h o =
    over-mul (share n) (grains bias) o (sym (mul_assoc bias n (share n) ∙ ap (λ (j : ℕ). bias * j) h.whole))

-- the same of numbers of 32 bits, as the check cites it
pub mean-fits : (n sum : ℕ) → Shares n → sum ≤ 4294967295 * n → sum * share n ≤ grains 4294967295
mean-fits n sum h k = mean-small n sum 4294967295 h k

pub ruleset means = (mean-fits)
