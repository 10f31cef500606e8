-- A reading's range, told from the raised reading: 10^9 each way of the raise, or 0.
use Rattle.std.specs.Prelude.{◌≡◌, refl, Bool, true, false, not, ◌&&◌, ◌||◌, List, ℕ, suc, ◌+◌, ◌-◌, ◌^◌, ◌≤◌, eqb, leb, ltb, ℤ, pos, negsuc, Some}
use Rattle.std.proofs.Common.{arith, ap, sym, ◌∙◌, eqb-true, eq-eqb, ne_eqb, leb-true, leb-false, lt-ltb, le-ltb}
use Rattle.std.proofs.lemmas.Bool.{eqb-false}
use Rattle.integers.proofs.ZLaws.{Within}
use Rattle.wire.specs.Readings.{reading_of, missing_if}
use Rattle.wire.specs.ReadingsLaws.{raised-over}
use Rattle.book.specs.Metering.{reading_good, bad_reading}
use Rattle.searches.specs.MeteringInner.{is_outside}
use Rattle.wire.specs.ReadingsInner.{Raised, raised, raise}

pub outside-is : (z : ℤ) (r : ℕ) → Within z raise → r ≡ raised (reading_of z) → is_outside r ≡ not (reading_good (reading_of z))
unfolding reading_good reading_of
outside-is (pos w) r h e = go (leb w 1000000000) refl
  where
    go : (b : Bool) → leb w 1000000000 ≡ b → is_outside r ≡ not b
    go true q = let o = raised-over (pos w) h in let l = leb-true w 1000000000 q in rw (ne_eqb r 0 (λ z. omega arith), le-ltb r 1147483648 (omega arith), le-ltb 3147483648 r (omega arith))
    go false q = let o = raised-over (pos w) h in let l = leb-false w 1000000000 q in rw (ne_eqb r 0 (λ z. omega arith), le-ltb r 1147483648 (omega arith), lt-ltb 3147483648 r (omega arith))
outside-is (negsuc w) r h e = go (eqb (suc w) 2147483648) refl (leb w 999999999) refl
  where
    go : (b : Bool) → eqb (suc w) 2147483648 ≡ b → (d : Bool) → leb w 999999999 ≡ d → is_outside r ≡ not (reading_good (missing_if b (Some (negsuc w))))
    go true q d k = let o = raised-over (negsuc w) h in let l = eqb-true (suc w) 2147483648 q in rw (eq-eqb r 0 (omega arith))
    go false q true k = let o = raised-over (negsuc w) h in let l = leb-true w 999999999 k in rw (ne_eqb r 0 (λ z. omega arith), le-ltb r 1147483648 (omega arith), le-ltb 3147483648 r (omega arith), k)
    go false q false k = let o = raised-over (negsuc w) h in let l = leb-false w 999999999 k in let m = eqb-false (suc w) 2147483648 q in rw (ne_eqb r 0 (λ z. m (omega arith)), lt-ltb r 1147483648 (omega arith), k)

pub outside_is : (readings : List ℕ) (i r : ℕ) → Raised readings i r → is_outside r ≡ bad_reading readings i
outside_is readings i r h = outside-is _ r h.range h.is

-- the same of one that is there, and of none
pub outside-there : (readings : List ℕ) (i r : ℕ) → Raised readings i r → 1 ≤ r → (ltb r (raise - 10 ^ 9) || ltb (raise + 10 ^ 9) r) ≡ bad_reading readings i
outside-there readings i r h some = ap (λ (b : Bool). not b && (ltb r (raise - 10 ^ 9) || ltb (raise + 10 ^ 9) r)) (sym (ne_eqb r 0 (λ z. omega (arith, some)))) ∙ outside_is readings i r h

pub outside-none : (readings : List ℕ) (i : ℕ) → Raised readings i 0 → false ≡ bad_reading readings i
outside-none readings i h = outside_is readings i 0 h

pub ruleset outside_cases = (outside-there, outside-none)
