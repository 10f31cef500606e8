-- 02, C-14: the two source parties' shares make up the delivered volume, in every version; and where the register's limit doesn't cut the volume,
-- they are those of source document 000, 13.2.2, by its four cases.
use Rattle.std.specs.Prelude.{◌≡◌, refl, Bool, true, false, cond, ℕ, suc, ◌+◌, ◌-◌, ◌≤◌, min, ℤ, pos, negsuc, neg_ℤ, ◌-ℤ◌}
use Rattle.std.proofs.Common.{arith}
use Rattle.integers.proofs.ZLaws.{up, dif, neg}
use Rattle.book.specs.declared.Direction.{Direction}
use Rattle.book.specs.declared.Direction.TheVariants.{Up, Down}
use Rattle.book.specs.Header.{splits}
use Rattle.volumes.specs.Settlement.{off_take_of, off_take_difference, off_take_share, injection_share, source_by, injection_by, signed}

-- 0 negated is 0
pub signed-zero : (d : Direction) → signed d (pos 0) ≡ pos 0
unfolding signed
signed-zero Up = refl
signed-zero Down = refl

-- off-take is what a number is above 0
pub off-take-is : (z : ℤ) → off_take_of z ≡ up z
unfolding off_take_of
off-take-is (pos n) = refl
off-take-is (negsuc n) = refl

-- the shares make up the volume, from version 2 on and before
pub parts_whole : (d : Direction) (base read : ℤ) (volume : ℕ) → off_take_share d base read volume + injection_share d base read volume ≡ volume
unfolding off_take_share injection_share
parts_whole d base read volume = omega arith

pub shares_whole : (version : ℕ) (d : Direction) (base read : ℤ) (volume : ℕ) → source_by version d base read volume + injection_by version d base read volume ≡ volume
unfolding source_by injection_by
shares_whole version d base read volume = go (splits version)
  where
    go : (t : Bool) → cond t (off_take_share d base read volume) volume + cond t (injection_share d base read volume) 0 ≡ volume
    go true = parts_whole d base read volume
    go false = omega arith

-- so neither is more than the volume
pub source-most : (version : ℕ) (d : Direction) (base read : ℤ) (volume : ℕ) → source_by version d base read volume ≤ volume
source-most version d base read volume = omega (arith, shares_whole version d base read volume)

pub injection-most : (version : ℕ) (d : Direction) (base read : ℤ) (volume : ℕ) → injection_by version d base read volume ≤ volume
injection-most version d base read volume = omega (arith, shares_whole version d base read volume)

-- 000, 13.2.2, of a delivered volume the off-take party's: baseline and reading are both off-take, both injection, or one of each, where the party of the
-- reading's own sign comes first, "à concurrence de" the reading
unfoldable pub ruled : ℤ → ℤ → ℕ → ℕ
ruled (pos base) (pos read) volume = volume
ruled (negsuc base) (negsuc read) volume = 0
ruled (negsuc base) (pos read) volume = min volume read
ruled (pos base) (negsuc read) volume = volume - min volume (suc read)

-- our rule is the same where the volume is the whole difference
pub as-ruled : (d : Direction) (base read : ℤ) (volume : ℕ) → volume ≡ up (signed d (base -ℤ read)) → off_take_share d base read volume ≡ ruled base read volume
unfolding off_take_share off_take_difference off_take_of signed ruled
as-ruled Up (pos b) (pos r) volume h = omega (arith, dif (pos b) (pos r))
as-ruled Up (pos b) (negsuc r) volume h = omega (arith, dif (pos b) (negsuc r))
as-ruled Up (negsuc b) (pos r) volume h = omega (arith, dif (negsuc b) (pos r))
as-ruled Up (negsuc b) (negsuc r) volume h = omega arith
as-ruled Down (pos b) (pos r) volume h = omega (arith, dif (pos b) (pos r), neg (pos b -ℤ pos r))
as-ruled Down (pos b) (negsuc r) volume h = omega (arith, dif (pos b) (negsuc r), neg (pos b -ℤ negsuc r))
as-ruled Down (negsuc b) (pos r) volume h = omega (arith, dif (negsuc b) (pos r), neg (negsuc b -ℤ pos r))
as-ruled Down (negsuc b) (negsuc r) volume h = omega arith

-- and where the limit cuts it, in all but the last case
pub as-ruled-cut : (d : Direction) (base read : ℤ) (volume : ℕ) → volume ≤ up (signed d (base -ℤ read)) → min (off_take_of base) (up (neg_ℤ read)) ≡ 0 → off_take_share d base read volume ≡ ruled base read volume
unfolding off_take_share off_take_difference off_take_of signed ruled
as-ruled-cut Up (pos b) (pos r) volume h k = omega (arith, dif (pos b) (pos r))
as-ruled-cut Up (pos b) (negsuc r) volume h k = omega (arith, dif (pos b) (negsuc r))
as-ruled-cut Up (negsuc b) (pos r) volume h k = omega (arith, dif (negsuc b) (pos r))
as-ruled-cut Up (negsuc b) (negsuc r) volume h k = omega arith
as-ruled-cut Down (pos b) (pos r) volume h k = omega (arith, dif (pos b) (pos r), neg (pos b -ℤ pos r))
as-ruled-cut Down (pos b) (negsuc r) volume h k = omega (arith, dif (pos b) (negsuc r), neg (pos b -ℤ negsuc r))
as-ruled-cut Down (negsuc b) (pos r) volume h k = omega (arith, dif (negsuc b) (pos r), neg (negsuc b -ℤ pos r))
as-ruled-cut Down (negsuc b) (negsuc r) volume h k = omega arith
