-- What each position adds to the floor of a running sum adds up to the floor of the whole.
use Rattle.std.specs.Prelude.{◌≡◌, refl, ℕ, zero, suc, pred, ◌+◌, ◌/◌, ◌≤◌}
use Rattle.std.proofs.Common.{sym, ap₂, le-div_iff_mul-le, div-mul-le_self, arith}
use Rattle.std.proofs.Math.Nat.{zero-div, div-zero}
use Rattle.integers.specs.Running.{up_to, floor_at}

-- a greater number has no lesser floor
pub floor-mono : (n a b : ℕ) → a ≤ b → a / n ≤ b / n
floor-mono zero a b h = rw (div-zero a, div-zero b) (omega arith)
floor-mono (suc n) a b h = (le-div_iff_mul-le {k = suc n} {x = a / suc n} {y = b} (omega arith)).1 (omega (arith, div-mul-le_self a (suc n)))

-- summed up to p, these are the running sum rounded down once
pub telescope : (n : ℕ) (g : ℕ → ℕ) (p : ℕ) → up_to (floor_at n g) p ≡ up_to g p / n
unfolding up_to floor_at
telescope n g zero = sym (zero-div n)
telescope n g (suc p) =
    let grows : up_to g p / n ≤ (up_to g p + g (suc p)) / n = floor-mono n (up_to g p) (up_to g p + g (suc p)) (omega arith) in
    rw (telescope n g p) (omega arith)

-- functions that agree from 1 to p
pub up_to-cong : (f g : ℕ → ℕ) (p : ℕ) → ((k : ℕ) → 1 ≤ k → k ≤ p → f k ≡ g k) → up_to f p ≡ up_to g p
unfolding up_to
up_to-cong f g zero h = refl
up_to-cong f g (suc p) h = ap₂ ◌+◌ (up_to-cong f g p (λ k a b. h k a (omega arith))) (h (suc p) (omega arith) (omega arith))

pub up_to-zero : (g : ℕ → ℕ) (p : ℕ) → ((k : ℕ) → g k ≡ 0) → up_to g p ≡ 0
unfolding up_to
up_to-zero g zero h = refl
up_to-zero g (suc p) h = omega (arith, up_to-zero g p h, h (suc p))

pub up_to-add : (f g : ℕ → ℕ) (p : ℕ) → up_to (λ k. f k + g k) p ≡ up_to f p + up_to g p
unfolding up_to
up_to-add f g zero = refl
up_to-add f g (suc p) = omega (arith, up_to-add f g p)

-- nothing comes of nothing
pub floor_at-zero : (n : ℕ) (g : ℕ → ℕ) (p : ℕ) → ((k : ℕ) → g k ≡ 0) → floor_at n g p ≡ 0
unfolding floor_at
floor_at-zero n g p h = rw (up_to-zero g p h, up_to-zero g (pred p) h) (omega arith)

-- series that agree have the same floors
pub floor_at-cong : (n : ℕ) (f g : ℕ → ℕ) (p : ℕ) → ((k : ℕ) → 1 ≤ k → k ≤ p → f k ≡ g k) → floor_at n f p ≡ floor_at n g p
unfolding floor_at
floor_at-cong n f g p h = rw (up_to-cong f g p h, up_to-cong f g (pred p) (λ k a b. h k a (omega arith)))
