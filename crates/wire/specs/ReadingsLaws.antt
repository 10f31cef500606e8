-- What 4 bytes say as a reading, and what the raised reading tells of it: its watts plus 2^31, and 0 only where it is missing.
use Rattle.std.specs.Prelude.{◌≡◌, ℕ, suc, ◌+◌, ◌%◌, ◌^◌, ◌<◌, Bool, true, false, ℤ, pos, negsuc, ◌==◌, nat_lt, refl, List, Option, Some, None, unwrap_or}
use Rattle.std.proofs.Common.{arith, to_z, eqb-true, ltb-true, ltb-false}
use Rattle.std.specs.Int.{w32}
use Rattle.std.proofs.lemmas.Bool.{eqb-false}
use Rattle.integers.proofs.ZLaws.{sum, Over, Within, low, high}
use Rattle.wire.specs.Readings.{reading_of, missing_if}
use Rattle.wire.specs.ReadingsInner.{raised, raise, Raised, RaisedIf}

-- the raised reading of z is z + 2^31
pub raised-over : (z : ℤ) → Within z raise → Over raise z (raised (reading_of z))
unfolding reading_of raised
raised-over (pos w) h = record { law = omega (arith, sum (pos w) (pos raise)) }
raised-over (negsuc w) h = go (suc w == 2147483648) refl
  where
    go : (b : Bool) → (suc w == 2147483648) ≡ b → Over raise (negsuc w) (raised (missing_if b (Some (negsuc w))))
    go true e = record { law = omega (arith, eqb-true (suc w) 2147483648 e) }
    go false e = record { law = omega (arith, h.below, sum (negsuc w) (pos raise)) }

-- a number of 32 bits, with its sign
pub in-range : (n : ℕ) → n < 4294967296 → Within (to_z w32 n) raise
in-range n h = go (nat_lt n 2147483648) refl
  where
    go : (b : Bool) → nat_lt n 2147483648 ≡ b → Within (to_z w32 n) raise
    go true e = let l = low w32 n (ltb-true n 2147483648 e) in record { above = omega (arith, ltb-true n 2147483648 e); below = omega arith }
    go false e = let l = high w32 n (ltb-false n 2147483648 e) h in record { above = omega arith; below = omega (arith, ltb-false n 2147483648 e) }

-- and raised: 2^31 added, what passes 2^32 left out
pub raised-bits : (n : ℕ) → n < 4294967296 → (n + raise) % 2 ^ 32 ≡ raised (reading_of (to_z w32 n))
raised-bits n h = go (nat_lt n 2147483648) refl
  where
    go : (b : Bool) → nat_lt n 2147483648 ≡ b → (n + raise) % 4294967296 ≡ raised (reading_of (to_z w32 n))
    go true e = let l = ltb-true n 2147483648 e in omega (arith, raised-over (to_z w32 n) (in-range n h), low w32 n l)
    go false e = let l = ltb-false n 2147483648 e in omega (arith, raised-over (to_z w32 n) (in-range n h), high w32 n l h)

-- a reading that is raised to 0 is missing, and no other is
pub missing-raised : (z : ℤ) → Within z raise → raised (reading_of z) ≡ 0 → reading_of z ≡ None
unfolding reading_of raised
missing-raised (pos w) h e = absurd (omega (arith, sum (pos w) (pos raise)))
missing-raised (negsuc w) h e = go (suc w == 2147483648) refl e
  where
    go : (b : Bool) → (suc w == 2147483648) ≡ b → raised (missing_if b (Some (negsuc w))) ≡ 0 → missing_if b (Some (negsuc w)) ≡ None
    go true q e = refl
    go false q e = absurd (eqb-false (suc w) 2147483648 q (omega (arith, h.below, sum (negsuc w) (pos raise))))

-- of a reading that is there or none, its raised number: 0 where there is none
pub or-none : (xs : List ℕ) (i : ℕ) (o : Option ℕ) → RaisedIf xs i o → Raised xs i (unwrap_or o 0)
or-none xs i (Some r) h = h.0
or-none xs i None h = h
