-- A small book that is accepted, and whose file has watts: February 2021, one lead day, one point by method 0, one engagement of one quarter-hour.
use Rattle.std.specs.Prelude.{◌≡◌, true, List, [], ◌∷◌, ◌++◌, ℕ, replicate}
use Rattle.book.specs.Book.{book_of}
use Rattle.volumes.specs.Settlement.{Accepted}
use Rattle.volumes.specs.Series.{Kind, Toe01}
use Rattle.reports.specs.FileRows.{file_rows}
use Rattle.reports.specs.Watts.{watts_in}
use Rattle.reports.specs.Demand3.{FileCall, wrote, carried}

-- version 1, 2021, February, L 1, P 1, E 1; sections at 56, 85, 93, 157 and 11,293
unfoldable pub header : List ℕ
header =
    1 ∷ 0 ∷ 229 ∷ 7 ∷ 2 ∷ 1 ∷ 1 ∷ 0 ∷ 1 ∷ 0 ∷ 0 ∷ 0 ∷ 0 ∷ 0 ∷ 0 ∷ 0
    ∷ 56 ∷ 0 ∷ 0 ∷ 0 ∷ 29 ∷ 0 ∷ 0 ∷ 0
    ∷ 85 ∷ 0 ∷ 0 ∷ 0 ∷ 8 ∷ 0 ∷ 0 ∷ 0
    ∷ 93 ∷ 0 ∷ 0 ∷ 0 ∷ 64 ∷ 0 ∷ 0 ∷ 0
    ∷ 157 ∷ 0 ∷ 0 ∷ 0 ∷ 128 ∷ 43 ∷ 0 ∷ 0
    ∷ 29 ∷ 44 ∷ 0 ∷ 0 ∷ 16 ∷ 0 ∷ 0 ∷ 0
    ∷ []

-- all days of category 0, X and Y 1
unfoldable pub calendar : List ℕ
calendar = replicate 29 0

unfoldable pub table : List ℕ
table = 1 ∷ 1 ∷ 1 ∷ 1 ∷ 1 ∷ 1 ∷ 1 ∷ 1 ∷ []

-- delivery point 1, access point 2, supplier 3, FSP 7, 5,000 W each way, parties 1 and 2, transfer, off-take, method 0
unfoldable pub register : List ℕ
register =
    1 ∷ 0 ∷ 0 ∷ 0 ∷ 0 ∷ 0 ∷ 0 ∷ 0
    ∷ 2 ∷ 0 ∷ 0 ∷ 0 ∷ 0 ∷ 0 ∷ 0 ∷ 0
    ∷ 3 ∷ 0 ∷ 0 ∷ 0 ∷ 0 ∷ 0 ∷ 0 ∷ 0
    ∷ 7 ∷ 0 ∷ 0 ∷ 0 ∷ 0 ∷ 0 ∷ 0 ∷ 0
    ∷ 0 ∷ 0 ∷ 0 ∷ 0 ∷ 0 ∷ 0 ∷ 0 ∷ 0
    ∷ 136 ∷ 19 ∷ 0 ∷ 0 ∷ 136 ∷ 19 ∷ 0 ∷ 0
    ∷ 1 ∷ 0 ∷ 2 ∷ 0 ∷ 0 ∷ 0 ∷ 0 ∷ 0
    ∷ 0 ∷ 0 ∷ 0 ∷ 0 ∷ 0 ∷ 0 ∷ 0 ∷ 0
    ∷ []

-- 1,000 W in the first quarter-hour of day 0, else nothing
unfoldable pub readings : List ℕ
readings = 232 ∷ 3 ∷ 0 ∷ 0 ∷ replicate 11132 0

-- day 1 from quarter-hour 0, count 1, up, notice 95, 1,000 W
unfoldable pub engagements : List ℕ
engagements = 0 ∷ 0 ∷ 1 ∷ 0 ∷ 1 ∷ 0 ∷ 95 ∷ 0 ∷ 232 ∷ 3 ∷ 0 ∷ 0 ∷ 0 ∷ 0 ∷ 0 ∷ 0 ∷ []

unfoldable pub small : List ℕ
small = header ++ (calendar ++ (table ++ (register ++ (readings ++ engagements))))

-- a receiver's file, as defined and as any call wrote it, carries so many watts for a partner: off-take, up, at a position
pub record Carries (bytes : List ℕ) (kind : Kind) (receiver partner p watts : ℕ) : Type 0 where
  pub defined : watts_in (file_rows (book_of bytes) kind receiver) partner 0 0 p ≡ watts
  pub written : (c : FileCall bytes) → wrote kind c ≡ true → c.receiver ≡ receiver → watts_in (carried c) partner 0 0 p ≡ watts

-- it is accepted, and the provider's file carries 1,000 W for the supplier at the first position
pub record SmallShown : Type 0 where
  pub accepted : Accepted small
  pub carries : Carries small Toe01 7 3 1 1000
