-- What a scan of the days before the engagement's has ranked.
use Rattle.std.specs.Prelude.{◌≡◌, Option, Some, None, List, map, ℕ, ◌+◌, ◌*◌, take}
use Rattle.book.specs.declared.Engagement.{Engagement}
use Rattle.book.specs.Book.{Book}
use Rattle.volumes.specs.Ranking.{ranked}
use Rattle.volumes.specs.Baseline.{eligible_days, day_sum}
use Rattle.baseline.specs.RankingInner.{inserted}
use Rattle.baseline.specs.SortingLaws.{key_of, Days}
use Rattle.wire.specs.ReadingsInner.{raise}

-- a day that is whole goes into the keys; another leaves them
abbrev pub Considered : List ℕ → List ℕ → Option ℕ → ℕ → Type 0
Considered before after (Some sum) d = after ≡ inserted (sum * 64 + d) before
Considered before after None d = after ≡ before

-- a day's sum over the engagement's quarter-hours has a raise more for each reading
abbrev pub bias : Engagement → ℕ
bias e = raise * e.count

abbrev pub key_in : Book → Engagement → ℕ → ℕ
key_in book e = key_of (bias e) (day_sum book e)

-- the keys are those of these days, ranked; each day is earlier than the one before it, and than A
pub record KeysOf (book : Book) (e : Engagement) (days keys : List ℕ) : Type 0 where
  pub falling : Days (bias e) (day_sum book e) e.day days
  pub list : keys ≡ map (key_in book e) (ranked (day_sum book e) days)

-- the y latest eligible days, ranked
abbrev pub RankedTo : Book → Engagement → ℕ → List ℕ → Type 0
RankedTo book e y = KeysOf book e (take y (eligible_days book e))
