-- What the register's code finds of a row is what the definitions say of it.
use Rattle.std.specs.Prelude.{◌≡◌, refl, Bool, true, false, List, ℕ, zero, suc, ◌/◌, ◌^◌, ◌≤◌, ◌<◌, eqb, leb, ltb}
use Rattle.std.proofs.Common.{sym, div-lt_iff_lt-mul, arith, ltb-true, ltb-false, eq-eqb, ne_eqb, le-leb}
use Rattle.std.proofs.Math.Nat.{one-le-pow}
use Rattle.std.proofs.lemmas.Bool.{lt-leb}
use Rattle.integers.specs.First.{any_below}
use Rattle.integers.proofs.FirstLaws.{first-here, first-later, first-end}
use Rattle.book.specs.Register.{takers_of, register_row, access_in, differs}
use Rattle.searches.specs.RegisterInner.{is_known, differs_from, Topped}

-- the situations that are taken or not are 0 to 3
pub known_is : (n : ℕ) → is_known (takers_of n) ≡ leb n 3
known_is zero = sym (le-leb 0 3 (omega arith))
known_is (suc zero) = sym (le-leb 1 3 (omega arith))
known_is (suc (suc zero)) = sym (le-leb 2 3 (omega arith))
known_is (suc (suc (suc zero))) = sym (le-leb 3 3 (omega arith))
known_is (suc (suc (suc (suc n)))) = sym (lt-leb (suc (suc (suc (suc n)))) 3 (omega arith))

pub differs-earlier : (register : List ℕ) (i n : ℕ) → any_below (differs_from register i) n ≡ any_below (differs register i) n
unfolding differs_from
differs-earlier register i n = refl

-- nothing is left above bit d
pub bits_above : (mask d : ℕ) → eqb (mask / 2 ^ d) 0 ≡ ltb mask (2 ^ d)
bits_above mask d = go (ltb mask (2 ^ d)) refl
  where
    some : 1 ≤ 2 ^ d
    some = one-le-pow d 2 (omega arith)

    go : (b : Bool) → ltb mask (2 ^ d) ≡ b → eqb (mask / 2 ^ d) 0 ≡ b
    go true e = eq-eqb (mask / 2 ^ d) 0 (omega (arith, (div-lt_iff_lt-mul {k = 2 ^ d} {x = mask} {y = 1} some).1 (omega (arith, ltb-true mask (2 ^ d) e))))
    go false e = ne_eqb (mask / 2 ^ d) 0 (λ z. omega (arith, ltb-false mask (2 ^ d) e, (div-lt_iff_lt-mul {k = 2 ^ d} {x = mask} {y = 1} some).0 (omega arith)))

-- row i, whose own is above it, has an access point with none of them
pub none-shared : (register : List ℕ) (i top : ℕ) → Topped register i top → top < access_in (register_row register i) → (n : ℕ) → n ≤ i → any_below (differs register i) n ≡ false
unfolding any_below
none-shared register i top h k zero m = refl
none-shared register i top h k (suc n) m =
    let other : eqb (access_in (register_row register i)) (access_in (register_row register n)) ≡ false = ne_eqb (access_in (register_row register i)) (access_in (register_row register n)) (λ e. omega (arith, e, h n (omega arith))) in
    rw (none-shared register i top h k n (omega arith), other)

pub none_earlier : (register : List ℕ) (i top : ℕ) → Topped register i top → top < access_in (register_row register i) → false ≡ any_below (differs register i) i
none_earlier register i top h k = sym (none-shared register i top h k i (omega arith))

-- what a loop over the rows goes by, as the check cites it
pub ruleset register_steps = (first-here, first-later, first-end)
