-- The running sum of a series, and its floor taken once: what each position adds to the floor sums up to the floor of the whole.
use Rattle.std.specs.Prelude.{ℕ, zero, suc, pred, ◌+◌, ◌-◌, ◌/◌}

-- g 1 + .. + g p
unfoldable pub up_to : (ℕ → ℕ) → ℕ → ℕ
up_to g zero = 0
up_to g (suc p) = up_to g p + g (suc p)

-- what position p adds to the floor of the running sum over n: G(p) / n less G(p - 1) / n
unfoldable pub floor_at : ℕ → (ℕ → ℕ) → ℕ → ℕ
floor_at n g p = up_to g p / n - up_to g (pred p) / n
