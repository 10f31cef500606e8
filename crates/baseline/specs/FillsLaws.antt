-- One place more is filled; a mean and an addend are a raised baseline.
use Rattle.std.specs.Prelude.{List, ℕ, ◌+◌, ◌≤◌, ◌<◌, ◌*◌, length, get_or, set}
use Rattle.std.proofs.Common.{sym, subst, arith, below_more, get_or-set_same, get_or-set_other}
use Rattle.integers.proofs.ZLaws.{over_add}
use Rattle.grains.specs.Grains.{grains}
use Rattle.wire.specs.Readings.{Reading}
use Rattle.baseline.specs.LevelsInner.{Means}
use Rattle.baseline.specs.FillsInner.{Raises, Fills}
use Rattle.wire.specs.ReadingsInner.{raise}

-- one place more
pub fills-more : (P : ℕ → ℕ → Type 0) (l : List ℕ) (k v : ℕ) → k < length l → Fills P k l → P k v → Fills P (k + 1) (set l k v)
fills-more P l k v h f p =
    below_more (λ (j : ℕ). P j (get_or (set l k v) j 0)) k
    (λ j i. subst (P j) (sym (get_or-set_other l k j v 0 (λ e. omega arith))) (f j i))
    (subst (P k) (sym (get_or-set_same l k v 0 h)) p)

pub raises : (list : List Reading) (n mean add : ℕ) → Means list n mean → add ≤ grains (4 * raise) → Raises list n add (mean + add)
raises list n mean add m h = record { level = λ z w o. over_add (grains (3 * raise)) (m.level w) o (omega arith); small = omega (arith, m.small) }
