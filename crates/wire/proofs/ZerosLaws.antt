-- The number of some bytes is 0 exactly where all of them are: what `all` answers, as the definitions say it.
use Rattle.std.specs.Prelude.{◌≡◌, refl, ℕ, zero, suc, ◌+◌, ◌*◌, ◌<◌, List, [], ◌∷◌, ◌==◌, ◌&&◌, Bool, true, false, MatchBool, length, slice_index}
use Rattle.std.proofs.Common.{sym, ap, ◌∙◌, arith, eq-eqb, ne_eqb}
use Rattle.std.proofs.Math.Bool.{and-false}
use Rattle.wire.specs.Numbers.{little}

-- a number is 0 where both of its parts are
both_zero : (x n : ℕ) → (x + 256 * n == 0) ≡ (x == 0 && n == 0)
both_zero zero zero = eq-eqb (0 + 256 * 0) 0 (omega arith)
both_zero zero (suc n) = ne_eqb (0 + 256 * suc n) 0 (λ e. omega arith) ∙ sym (ne_eqb (suc n) 0 (λ e. omega arith))
both_zero (suc x) n = ne_eqb (suc x + 256 * n) 0 (λ e. omega arith) ∙ sym (ap (λ b. b && n == 0) (ne_eqb (suc x) 0 (λ e. omega arith)))

all_zero : (l : List ℕ) → ((i : ℕ) → i < length l → (slice_index l i == 0) ≡ true) → (little l == 0) ≡ true
all_zero [] h = eq-eqb 0 0 refl
all_zero (x ∷ l) h = rw (both_zero x (little l), h 0 (omega arith), all_zero l (λ i k. h (suc i) (omega arith)))

one_not : (l : List ℕ) (i : ℕ) → i < length l → (slice_index l i == 0) ≡ false → (little l == 0) ≡ false
one_not [] i h e = absurd (omega arith)
one_not (x ∷ l) zero h e = rw (both_zero x (little l), e)
one_not (x ∷ l) (suc i) h e = rw (both_zero x (little l), one_not l i (omega arith) e) (and-false (x == 0))

pub zeros_are : (l : List ℕ) (all : Bool) → MatchBool all ((i : ℕ) → i < length l → (slice_index l i == 0) ≡ true) ((i : ℕ) × (i < length l) × ((slice_index l i == 0) ≡ false)) → all ≡ (little l == 0)
zeros_are l true h = sym (all_zero l h)
zeros_are l false h = sym (one_not l h.0 h.1 h.2)
