-- Little-endian numbers, whatever their width: a number of m + n bytes is that of its first m, and 256 ^ m times that of the n after them;
-- and a part of a list says what the whole says.
use Rattle.std.specs.Prelude.{◌≡◌, ℕ, zero, suc, ◌+◌, ◌*◌, ◌^◌, ◌<◌, ◌≤◌, ◌&&◌, List, [], ◌∷◌, ◌++◌, length, take, drop, ◌==◌, slice_index, refl}
use Rattle.std.proofs.Common.{sym, ap, ◌∙◌, pow-suc, mul_assoc, mul_comm, mul-suc, arith, eq-eqb, ne_eqb, length-drop, take-add, take-take, drop-drop, length-take-le, drop-cons}
use Rattle.std.proofs.Math.Nat.{one-le-pow}
use Rattle.wire.specs.Numbers.{little, number_at}

little-append : (a b : List ℕ) → little (a ++ b) ≡ little a + 256 ^ length a * little b
little-append [] b = omega arith
little-append (x ∷ a) b =
    omega (arith, little-append a b, ap (λ (n : ℕ). n * little b) (pow-suc 256 (length a) ∙ mul_comm (256 ^ length a) 256), mul_assoc 256 (256 ^ length a) (little b))

pub halves : (xs : List ℕ) (at m n : ℕ) → at + m ≤ length xs → number_at xs at (m + n) ≡ number_at xs at m + 256 ^ m * number_at xs (at + m) n
halves xs at m n h =
    ap little (take-add m n (drop at xs)) ∙ little-append (take m (drop at xs)) (take n (drop m (drop at xs)))
    ∙ simp (length-take-le m (drop at xs) (simp length-drop (omega arith)), drop-drop)

pub one_byte : (xs : List ℕ) (at : ℕ) → at < length xs → number_at xs at 1 ≡ slice_index xs at
one_byte xs at h = rw (drop-cons xs at 0) (omega arith)

take-drop-take : (k at n : ℕ) (l : List ℕ) → at + k ≤ n → take k (drop at (take n l)) ≡ take k (drop at l)
take-drop-take k zero n l h = take-take k n l (omega arith)
take-drop-take k (suc at) zero l h = absurd (omega arith)
take-drop-take k (suc at) (suc n) [] h = refl
take-drop-take k (suc at) (suc n) (x ∷ l) h = take-drop-take k at n l (omega arith)

pub in-part : (xs : List ℕ) (a n at k : ℕ) → at + k ≤ n → number_at (take n (drop a xs)) at k ≡ number_at xs (a + at) k
in-part xs a n at k h = ap little (take-drop-take k at n (drop a xs) h ∙ ap (take k) (drop-drop at a xs))

-- a number is 0 where both of its parts are
sum-zero : (a k b : ℕ) → 1 ≤ k → (a + k * b == 0) ≡ (a == 0 && b == 0)
sum-zero zero k zero h = eq-eqb (0 + k * 0) 0 (omega arith)
sum-zero zero k (suc b) h = ne_eqb (0 + k * suc b) 0 (λ e. omega (arith, mul-suc k b)) ∙ sym (ne_eqb (suc b) 0 (λ e. omega arith))
sum-zero (suc a) k b h = rw (ne_eqb (suc a + k * b) 0 (λ e. omega arith), ne_eqb (suc a) 0 (λ e. omega arith))

pub zero-halves : (xs : List ℕ) (at m n : ℕ) → at + m ≤ length xs → (number_at xs at (m + n) == 0) ≡ (number_at xs at m == 0 && number_at xs (at + m) n == 0)
zero-halves xs at m n h = rw (halves xs at m n h) (sum-zero (number_at xs at m) (256 ^ m) (number_at xs (at + m) n) (one-le-pow m 256 (omega arith)))
