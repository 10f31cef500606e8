-- The first number that a test names, and whether it names one at all.
use Rattle.std.specs.Prelude.{Bool, false, cond, ◌||◌, List, [], ◌∷◌, ℕ, zero, suc}
use Rattle.std.proofs.Math.Option.{Option, none, some}

-- the first of the n numbers a, a + 1, .. that the test names
unfoldable pub first : (ℕ → Bool) → ℕ → ℕ → Option ℕ
first test a zero = none
first test a (suc n) = let later : Option ℕ = first test (suc a) n in cond (test a) (some a) later

-- the test names one of a list
unfoldable pub any_of : {A : Type 0} → (A → Bool) → List A → Bool
any_of test [] = false
any_of test (a ∷ l) = test a || any_of test l

-- the test names some number below n
unfoldable pub any_below : (ℕ → Bool) → ℕ → Bool
any_below test zero = false
any_below test (suc n) = any_below test n || test n
