-- Readings of a form at a place of a list of bytes, as the code answers them.
use Rattle.std.specs.Prelude.{◌≡◌, List, ℕ, ◌≤◌, length, drop, Option, Some, None}
use Rattle.formats.specs.Format.{Res, got, bad}
use Rattle.formats.specs.declared.Val.{Val}

-- f, read in s from `at` on, finds v, and the answer is the place behind it; or f isn't there, and there is none
abbrev pub Parsed : {A : Type 0} → (List ℕ → Res A) → List ℕ → ℕ → A → Option ℕ → Type 0
Parsed f s at v (Some next) = (f (drop at s) ≡ got v (drop next s)) × (next ≤ length s)
Parsed f s at v None = f (drop at s) ≡ bad

-- the same of an answer that tells the value that was found
abbrev pub Valued : (List ℕ → Res ℕ) → List ℕ → ℕ → Option Val → Type 0
Valued f s at (Some found) = (f (drop at s) ≡ got found.value (drop found.next s)) × (found.next ≤ length s)
Valued f s at None = f (drop at s) ≡ bad
