-- A small pool that is accepted, and whose files have watts that no point has alone: February 2021, two lead days, X and Y 2, three points by method 1,
-- one of them passed through.
use Rattle.std.specs.Prelude.{◌≡◌, cond, ◌||◌, List, [], ◌∷◌, ◌++◌, ℕ, zero, suc, eqb, replicate}
use Rattle.book.specs.Engagements.{engagement_at}
use Rattle.book.specs.Book.{book_of}
use Rattle.volumes.specs.Settlement.{delivered, Accepted}
use Rattle.volumes.specs.Series.{Toe01, Toe02, Toe03}
use Rattle.reports.specs.Small.{Carries}

-- version 1, 2021, February, L 2, P 3, E 3; sections at 56, 86, 94, 286 and 34,846
unfoldable pub header : List ℕ
header =
    1 ∷ 0 ∷ 229 ∷ 7 ∷ 2 ∷ 2 ∷ 3 ∷ 0 ∷ 3 ∷ 0 ∷ 0 ∷ 0 ∷ 0 ∷ 0 ∷ 0 ∷ 0
    ∷ 56 ∷ 0 ∷ 0 ∷ 0 ∷ 30 ∷ 0 ∷ 0 ∷ 0
    ∷ 86 ∷ 0 ∷ 0 ∷ 0 ∷ 8 ∷ 0 ∷ 0 ∷ 0
    ∷ 94 ∷ 0 ∷ 0 ∷ 0 ∷ 192 ∷ 0 ∷ 0 ∷ 0
    ∷ 30 ∷ 1 ∷ 0 ∷ 0 ∷ 0 ∷ 135 ∷ 0 ∷ 0
    ∷ 30 ∷ 136 ∷ 0 ∷ 0 ∷ 48 ∷ 0 ∷ 0 ∷ 0
    ∷ []

-- all days of category 0, X and Y 2
unfoldable pub calendar : List ℕ
calendar = replicate 30 0

unfoldable pub table : List ℕ
table = 2 ∷ 2 ∷ 2 ∷ 2 ∷ 2 ∷ 2 ∷ 2 ∷ 2 ∷ []

-- a delivery point, its access point and situation; supplier 3, FSP 7, 5,000 W each way, parties 1 and 2, off-take, method 1
abbrev pub register_row : ℕ → ℕ → ℕ → List ℕ
register_row delivery access situation =
    delivery ∷ 0 ∷ 0 ∷ 0 ∷ 0 ∷ 0 ∷ 0 ∷ 0
    ∷ access ∷ 0 ∷ 0 ∷ 0 ∷ 0 ∷ 0 ∷ 0 ∷ 0
    ∷ 3 ∷ 0 ∷ 0 ∷ 0 ∷ 0 ∷ 0 ∷ 0 ∷ 0
    ∷ 7 ∷ 0 ∷ 0 ∷ 0 ∷ 0 ∷ 0 ∷ 0 ∷ 0
    ∷ 0 ∷ 0 ∷ 0 ∷ 0 ∷ 0 ∷ 0 ∷ 0 ∷ 0
    ∷ 136 ∷ 19 ∷ 0 ∷ 0 ∷ 136 ∷ 19 ∷ 0 ∷ 0
    ∷ 1 ∷ 0 ∷ 2 ∷ 0 ∷ situation ∷ 0 ∷ 1 ∷ 0
    ∷ 0 ∷ 0 ∷ 0 ∷ 0 ∷ 0 ∷ 0 ∷ 0 ∷ 0
    ∷ []

-- two transfer points, and one passed through
unfoldable pub register : List ℕ
register = register_row 1 11 0 ++ (register_row 2 12 0 ++ register_row 3 13 1)

-- readings from the a-th on, n of them, each below 256 W
unfoldable pub words : (ℕ → ℕ) → ℕ → ℕ → List ℕ
words f a zero = []
words f a (suc n) = f a ∷ 0 ∷ 0 ∷ 0 ∷ words f (suc a) n

-- 1 W in the first quarter-hour of each point's day 0, in the second too of the one passed through; else nothing
unfoldable pub watt_at : ℕ → ℕ
watt_at i = cond (eqb i 0 || (eqb i 2880 || (eqb i 5760 || eqb i 5761))) 1 0

unfoldable pub readings : List ℕ
readings = words watt_at 0 8640

-- a point's engagement: day 2 from quarter-hour 0, so many quarter-hours, up, 1 W
abbrev pub engagement_row : ℕ → ℕ → List ℕ
engagement_row point count = point ∷ 0 ∷ 2 ∷ 0 ∷ count ∷ 0 ∷ 0 ∷ 0 ∷ 1 ∷ 0 ∷ 0 ∷ 0 ∷ 0 ∷ 0 ∷ 0 ∷ 0 ∷ []

unfoldable pub engagements : List ℕ
engagements = engagement_row 0 1 ++ (engagement_row 1 1 ++ engagement_row 2 2)

unfoldable pub pool : List ℕ
pool = header ++ (calendar ++ (table ++ (register ++ (readings ++ engagements))))

-- what an engagement delivers in its k-th quarter-hour
abbrev pub volume : ℕ → ℕ → ℕ
volume i k = delivered (book_of pool) (engagement_at engagements i) k

-- it is accepted; two points have half a watt each at the first position, of which the provider's and the supplier's file make 1 W; the one passed through
-- has half a watt there and half a watt at the second, and the supplier's file of access points carries 1 W at the second
pub record PoolShown : Type 0 where
  pub accepted : Accepted pool
  pub halves : (volume 0 0 ≡ 15120) × (volume 1 0 ≡ 15120)
  pub provider : Carries pool Toe01 7 3 1 1
  pub supplier : Carries pool Toe02 3 7 1 1
  pub halves_in_a_row : (volume 2 0 ≡ 15120) × (volume 2 1 ≡ 15120)
  pub access_none : Carries pool Toe03 3 13 1 0
  pub access_carried : Carries pool Toe03 3 13 2 1
