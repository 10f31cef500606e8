-- Blocks that have no bad reading are passed: the first one is the first from behind them on.
use Rattle.std.specs.Prelude.{◌≡◌, List, ℕ, zero, suc, ◌+◌, ◌-◌, ◌*◌, ◌≤◌, ◌<◌, Bool, false, Option, Some, None, MatchOption, unwrap_or}
use Rattle.std.proofs.Common.{ap, ◌∙◌, arith}
use Rattle.integers.specs.First.{first}
use Rattle.integers.proofs.FirstLaws.{first-behind}
use Rattle.std.proofs.iter.runs.Sources.{ranges}
use Rattle.integers.proofs.FoundLaws.{NoneBelow, told, first-is}
use Rattle.book.specs.Metering.{bad_reading}
use Rattle.searches.specs.MeteringInner.{any_bad}

module _ (readings : List ℕ) where
  -- a block of 1,024 readings, the first being 1024 * k, has a bad one
  abbrev pub bad_block : ℕ → Bool
  bad_block k = any_bad readings (1024 * k) 1024

  passed : (k n : ℕ) → 1024 * k ≤ n → NoneBelow bad_block k → first (bad_reading readings) 0 n ≡ first (bad_reading readings) (1024 * k) (n - 1024 * k)
  unfolding any_bad
  passed zero n h p = let e : n - 1024 * 0 ≡ n = omega arith in rw e
  passed (suc k) n h p =
      let rest : n - 1024 * k ≡ 1024 + (n - 1024 * suc k) = omega arith in
      let place : 1024 * k + 1024 ≡ 1024 * suc k = omega arith in
      passed k n (omega arith) (λ j l. p j (omega arith))
      ∙ ap (first (bad_reading readings) (1024 * k)) rest
      ∙ first-behind (bad_reading readings) (1024 * k) 1024 (n - 1024 * suc k) (told bad_block false k (p k (omega arith)))
      ∙ ap (λ (a : ℕ). first (bad_reading readings) a (n - 1024 * suc k)) place

  pub behind : (blocks n : ℕ) (found : Option ℕ) → 1024 * blocks ≤ n → MatchOption found (NoneBelow bad_block blocks) (λ k. (k < blocks) × NoneBelow bad_block k)
      → (1024 * unwrap_or found blocks ≤ n) × (first (bad_reading readings) 0 n ≡ first (bad_reading readings) (1024 * unwrap_or found blocks) (n - 1024 * unwrap_or found blocks))
  behind blocks n None h p = (h, passed blocks n h p)
  behind blocks n (Some k) h p = let l : 1024 * k ≤ n = omega (arith, p.0) in (l, passed k n l p.1)

-- what `find` answers, as the check cites it
pub ruleset finds = (first-is, ranges)

pub ruleset blocks = (behind, ranges)
