-- The raised baselines of an engagement that is not refused.
use Rattle.std.specs.Prelude.{◌≡◌, List, ℕ, ◌≤◌, ◌<◌, ◌*◌, get_or, drop}
use Rattle.std.proofs.Math.Option.{none}
use Rattle.integers.proofs.ZLaws.{Over}
use Rattle.grains.specs.Grains.{grains}
use Rattle.book.specs.Book.{Book}
use Rattle.volumes.specs.Baseline.{baseline}
use Rattle.volumes.specs.Settlement.{refusal_number}
use Rattle.baseline.specs.declared.shown.Shown.{Shown}
use Rattle.baseline.specs.ShownInner.{Shows, Fits}
use Rattle.wire.specs.ReadingsInner.{raise}

-- the sections are those of a book that does not refuse the engagement
pub record Unrefused (shown : Shown) (calendar readings : List ℕ) (book : Book) : Type 0 where
  pub shows : Shows shown calendar readings book
  pub good : refusal_number book shown.e ≡ none

-- there is such a book, and the engagement fits its sections
pub record Accepts (shown : Shown) (calendar readings : List ℕ) : Type 0 where
  pub fits : Fits shown calendar readings
  pub book : Book
  pub settled : Unrefused shown calendar readings book

-- each quarter-hour's level, its baseline and three raises
pub record Levels (shown : Shown) (calendar readings all : List ℕ) : Type 0 where
  pub small : (k : ℕ) → k < shown.e.count → get_or all k 0 ≤ grains 12884901887
  pub levels : (book : Book) → Unrefused shown calendar readings book → (k : ℕ) → k < shown.e.count → Over (grains (3 * raise)) (baseline book shown.e k) (get_or all k 0)

-- the first places hold them; those behind them are as they were
pub record LevelsFilled (shown : Shown) (calendar readings : List ℕ) (before after : List ℕ) : Type 0 where
  pub small : (k : ℕ) → k < shown.e.count → get_or after k 0 ≤ grains 12884901887
  pub levels : (book : Book) → Unrefused shown calendar readings book → (k : ℕ) → k < shown.e.count → Over (grains (3 * raise)) (baseline book shown.e k) (get_or after k 0)
  pub rest : drop shown.e.count after ≡ drop shown.e.count before
