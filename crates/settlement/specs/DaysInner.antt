-- The days with an engagement, by point: a list of masks, of which bit d of number p tells whether point p has one on day d.
use Rattle.std.specs.Prelude.{◌≡◌, ◌||◌, List, ℕ, ◌≤◌, ◌<◌, length, get_or}
use Rattle.book.specs.Register.{excludes}
use Rattle.book.specs.Engagements.{engagement_at}
use Rattle.settlement.specs.SectionsInner.{engagement_count_in, engaged_in}

-- each engagement's point has a number, and its day a bit
pub record Gatherable (engagements : List ℕ) (n : ℕ) : Type 0 where
  pub point : (i : ℕ) → i < engagement_count_in engagements → (engagement_at engagements i).point < n
  pub day : (i : ℕ) → i < engagement_count_in engagements → (engagement_at engagements i).day < 64

-- the days of the engagements have come to those before
pub record Gathers (engagements before after : List ℕ) : Type 0 where
  pub each : (p d : ℕ) → p < length before → excludes (get_or after p 0) d ≡ (excludes (get_or before p 0) d || engaged_in engagements p d)

-- of every point that a book can have, the days are those with an engagement
pub record Gathered (engagements masks : List ℕ) : Type 0 where
  pub long : 256 ≤ length masks
  pub each : (p d : ℕ) → p < 256 → excludes (get_or masks p 0) d ≡ engaged_in engagements p d
