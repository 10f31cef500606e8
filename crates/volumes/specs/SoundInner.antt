-- What a book has that passes refusals 1 to 7 (document 01, "The book"): the ranges on which its volumes rest.
use mathlib.Core.List.{Memᴰ}
use Rattle.std.specs.Prelude.{ℕ, ◌+◌, ◌^◌, ◌≤◌, ◌<◌, length, ℤ}
use Rattle.integers.proofs.ZLaws.{up, dn}
use Rattle.quarters.specs.declared.Calendar.{Calendar}
use Rattle.book.specs.declared.Point.{Point}
use Rattle.book.specs.declared.Engagement.{Engagement}
use Rattle.quarters.specs.Quarters.{days_of, quarters}
use Rattle.book.specs.Book.{Book}
use Rattle.volumes.specs.Baseline.{watts}
use Rattle.quarters.specs.QuartersInner.{Ranged}

-- z is between -n and n
pub record Bounded (n : ℕ) (z : ℤ) : Type 0 where
  pub above : up z ≤ n
  pub below : dn z ≤ n

-- "X 1 to 10, Y from X to 20"
pub record XOfY (x y : ℕ) : Type 0 where
  pub one : 1 ≤ x
  pub ten : x ≤ 10
  pub order : x ≤ y
  pub twenty : y ≤ 20

-- "largest upward and downward watts (u32, at most 10^9)"
pub record Limited (point : Point) : Type 0 where
  pub upward : point.upward ≤ 10 ^ 9
  pub downward : point.downward ≤ 10 ^ 9

-- "point index u16 (below P)", "Days are settled days.", "count (1 or more ..)", "first + count at most" the day's number of quarter-hours
pub record Placed (c : Calendar) (points : ℕ) (e : Engagement) : Type 0 where
  pub point : e.point < points
  pub settled : c.lead ≤ e.day
  pub inside : e.day < days_of c
  pub some : 1 ≤ e.count
  pub ends : e.first + e.count ≤ quarters c e.day

-- "notice (0 to 96)", "requested watts u32 (1 to 10^9)"
pub record OnTerms (e : Engagement) : Type 0 where
  pub notice : e.notice ≤ 96
  pub asked : 1 ≤ e.requested
  pub most : e.requested ≤ 10 ^ 9

-- a reading that is missing, or that there is none of, counts as 0 watts here
pub record Sound (book : Book) : Type 0 where
  pub ranged : Ranged book.calendar
  pub table : (d : ℕ) → XOfY (book.x (book.category d)) (book.y (book.category d))
  pub points : (point : Point) → Memᴰ point book.points → Limited point
  pub readings : (p q : ℕ) → Bounded (10 ^ 9) (watts (book.reading p q))
  pub engagements : (e : Engagement) → Memᴰ e book.engagements → Placed book.calendar (length book.points) e
  pub terms : (e : Engagement) → Memᴰ e book.engagements → OnTerms e
  pub few : length book.engagements ≤ 512
