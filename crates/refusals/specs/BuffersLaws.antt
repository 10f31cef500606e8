-- An answer stands at the first places of its buffer; stores from the first place on put it there.
use Rattle.std.specs.Prelude.{◌≡◌, List, ◌++◌, ℕ, ◌≤◌, length, take, drop}
use Rattle.std.proofs.Common.{ap, ◌∙◌, take_at, zero-add, arith}
use Rattle.std.proofs.lemmas.List.Edits.{sets, sets-eq}
use Rattle.refusals.specs.Buffers.{over}

pub over_first : {A : Type 0} (new old : List A) (n : ℕ) → length new ≡ n → take n (over new old) ≡ new
unfolding over
over_first new old n e = take_at new (drop (length new) old) n e

pub sets_over : {A : Type 0} (new old : List A) → length new ≤ length old → sets old 0 new ≡ over new old
unfolding over
sets_over new old h = sets-eq new old 0 (omega arith) ∙ ap (λ (n : ℕ). new ++ drop n old) (zero-add (length new))
