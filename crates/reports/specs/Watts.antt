-- The watts that a file's rows carry. "A series or position that isn't written counts zero" (demand 3).
use Rattle.std.specs.Prelude.{Bool, cond, ◌&&◌, List, ℕ, eqb}
use Rattle.integers.specs.Sums.{sum_of}
use Rattle.message.specs.Rows.{Row}

-- of the rows that a test takes
unfoldable pub watts_of : (Row → Bool) → List Row → ℕ
watts_of test rows = sum_of (λ r. cond (test r) r.1.1.watts 0) rows

-- at a position, in one supply and delivery direction, of one partner
unfoldable pub watts_in : List Row → ℕ → ℕ → ℕ → ℕ → ℕ
watts_in rows partner supply delivery p =
    watts_of (λ r. eqb partner r.0 && (eqb supply r.1.0.0 && (eqb delivery r.1.0.1 && eqb p r.1.1.position))) rows

-- of all partners
unfoldable pub directed_in : List Row → ℕ → ℕ → ℕ → ℕ
directed_in rows supply delivery p =
    watts_of (λ r. eqb supply r.1.0.0 && (eqb delivery r.1.0.1 && eqb p r.1.1.position)) rows

-- of all partners and directions
unfoldable pub total_in : List Row → ℕ → ℕ
total_in rows p = watts_of (λ r. eqb p r.1.1.position) rows
