-- The first i bytes stand in the list, and those from i on are as they were.
use Rattle.std.proofs.Common.{◌≡◌, ℕ, ◌<◌, ◌≤◌, get_or, Some}
use Rattle.cases.specs.SparseInner.{hex_byte_at}
use Rattle.cases.proofs.hex.unhex.Given as goal

abbrev pub invariant-loop-i : goal.invariant-loop-i
invariant-loop-i l = ((k : ℕ) → k < l.i → hex_byte_at l.word k ≡ Some (get_or l.out k 0)) × ((k : ℕ) → l.i ≤ k → get_or l.out k 0 ≡ get_or l.initial.out k 0)
