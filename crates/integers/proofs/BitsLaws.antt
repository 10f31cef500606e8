-- The bits of a number, counted from the lowest: bit d + 1 is bit d of the half, so `bit_or`, a power of two and 0 are told digit by digit.
use Rattle.std.specs.Prelude.{◌≡◌, refl, Bool, false, ◌||◌, ℕ, zero, suc, ◌/◌, ◌%◌, ◌^◌, ◌<◌, max, eqb}
use Rattle.std.proofs.Common.{sym, ap, ap₂, ◌∙◌, pow-suc, div-one, mod-lt, mul-div_cancel, mul_comm, arith}
use Rattle.std.proofs.Math.Nat.{zero-div, mul-mod_left, div-div-eq-div-mul}
use Rattle.std.proofs.Math.Arith.{digits_div, digits_mod}
use Rattle.std.specs.Int.Bits.{bit_or, or_step}
use Rattle.std.proofs.Math.Dec.{eqb-zero-suc, eqb-suc-zero, eqb-suc-suc}

-- bit d is set
abbrev pub bit : ℕ → ℕ → Bool
bit n d = eqb (n / 2 ^ d % 2) 1

bit-first : (n : ℕ) → bit n 0 ≡ eqb (n % 2) 1
bit-first n = ap (λ (m : ℕ). eqb (m % 2) 1) (div-one n)

bit-next : (n d : ℕ) → bit n (suc d) ≡ bit (n / 2) d
bit-next n d = ap (λ (m : ℕ). eqb (m % 2) 1) (ap (λ (m : ℕ). n / m) (pow-suc 2 d ∙ mul_comm (2 ^ d) 2) ∙ sym (div-div-eq-div-mul n 2 (2 ^ d)))

-- of two digits one is 1
either : (r s : ℕ) → r < 2 → s < 2 → (max r s < 2) × (eqb (max r s) 1 ≡ (eqb r 1 || eqb s 1))
either zero zero h k = (omega arith, refl)
either zero (suc zero) h k = (omega arith, refl)
either (suc zero) zero h k = (omega arith, refl)
either (suc zero) (suc zero) h k = (omega arith, refl)
either (suc (suc r)) s h k = absurd (omega arith)
either zero (suc (suc s)) h k = absurd (omega arith)
either (suc zero) (suc (suc s)) h k = absurd (omega arith)

-- a bit of `a | b` is set where one of theirs is
pub bit-or : (a b d : ℕ) → bit (bit_or a b) d ≡ (bit a d || bit b d)
bit-or a b zero =
    let r = either (a % 2) (b % 2) (mod-lt a (omega arith)) (mod-lt b (omega arith)) in
    bit-first (bit_or a b)
    ∙ ap (λ (m : ℕ). eqb (m % 2) 1) (or_step a b)
    ∙ ap (λ (m : ℕ). eqb m 1) (digits_mod (bit_or (a / 2) (b / 2)) r.0)
    ∙ r.1
    ∙ sym (ap₂ ◌||◌ (bit-first a) (bit-first b))
bit-or a b (suc d) =
    let r = either (a % 2) (b % 2) (mod-lt a (omega arith)) (mod-lt b (omega arith)) in
    bit-next (bit_or a b) d
    ∙ ap (λ (m : ℕ). bit (m / 2) d) (or_step a b)
    ∙ ap (λ (m : ℕ). bit m d) (digits_div (bit_or (a / 2) (b / 2)) r.0)
    ∙ bit-or (a / 2) (b / 2) d
    ∙ sym (ap₂ ◌||◌ (bit-next a d) (bit-next b d))

-- 0 has no bits, and 2^k has bit k alone
pub bit-none : (d : ℕ) → bit 0 d ≡ false
bit-none d = ap (λ (m : ℕ). eqb (m % 2) 1) (zero-div (2 ^ d))

pub bit-one : (k d : ℕ) → bit (2 ^ k) d ≡ eqb k d
bit-one zero zero = refl
bit-one zero (suc d) = bit-next 1 d ∙ bit-none d ∙ sym (eqb-zero-suc d)
bit-one (suc k) zero = bit-first (2 ^ suc k) ∙ ap (λ (m : ℕ). eqb (m % 2) 1) (pow-suc 2 k) ∙ ap (λ (m : ℕ). eqb m 1) (mul-mod_left (2 ^ k) 2) ∙ sym (eqb-suc-zero k)
bit-one (suc k) (suc d) =
    bit-next (2 ^ suc k) d
    ∙ ap (λ (m : ℕ). bit (m / 2) d) (pow-suc 2 k)
    ∙ ap (λ (m : ℕ). bit m d) (mul-div_cancel (2 ^ k) (omega arith))
    ∙ bit-one k d
    ∙ sym (eqb-suc-suc k d)
