-- The days that are taken, as the keys tell them.
use Rattle.std.specs.Prelude.{◌≡◌, true, List, ℕ, ◌<◌}
use Rattle.integers.specs.All.{All}
use Rattle.book.specs.declared.Engagement.{Engagement}
use Rattle.book.specs.Book.{Book}
use Rattle.volumes.specs.Baseline.{eligible, taken}
use Rattle.baseline.specs.RunsInner.{days_in}

-- an eligible day before A
pub record Serves (book : Book) (e : Engagement) (d : ℕ) : Type 0 where
  pub early : d < e.day
  pub small : d < 64
  pub good : eligible book e d ≡ true

-- the keys tell the X days that are taken
pub record Took (book : Book) (e : Engagement) (keys : List ℕ) : Type 0 where
  pub days : days_in keys ≡ taken book e
  pub each : All (Serves book e) (taken book e)
