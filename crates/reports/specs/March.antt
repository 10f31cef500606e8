-- A book of March 2021 that is accepted, and whose file has watts behind the clock change: one lead day, so that day 28 is the 28th and has 92 quarter-hours, one point
-- by method 0, one engagement of one quarter-hour, on the 29th.
use Rattle.std.specs.Prelude.{◌≡◌, cond, List, [], ◌∷◌, ◌++◌, ℕ, eqb, replicate}
use Rattle.quarters.specs.Quarters.{quarters, month_quarters}
use Rattle.book.specs.Book.{book_of}
use Rattle.volumes.specs.Settlement.{Accepted}
use Rattle.volumes.specs.Series.{Toe01}
use Rattle.message.specs.Valid.{last_position}
use Rattle.reports.specs.Small.{table, register, Carries}
use Rattle.reports.specs.Pool.{words}

-- version 1, 2021, March, L 1, P 1, E 1; sections at 56, 88, 96, 160 and 12,432
unfoldable pub header : List ℕ
header =
    1 ∷ 0 ∷ 229 ∷ 7 ∷ 3 ∷ 1 ∷ 1 ∷ 0 ∷ 1 ∷ 0 ∷ 0 ∷ 0 ∷ 0 ∷ 0 ∷ 0 ∷ 0
    ∷ 56 ∷ 0 ∷ 0 ∷ 0 ∷ 32 ∷ 0 ∷ 0 ∷ 0
    ∷ 88 ∷ 0 ∷ 0 ∷ 0 ∷ 8 ∷ 0 ∷ 0 ∷ 0
    ∷ 96 ∷ 0 ∷ 0 ∷ 0 ∷ 64 ∷ 0 ∷ 0 ∷ 0
    ∷ 160 ∷ 0 ∷ 0 ∷ 0 ∷ 240 ∷ 47 ∷ 0 ∷ 0
    ∷ 144 ∷ 48 ∷ 0 ∷ 0 ∷ 16 ∷ 0 ∷ 0 ∷ 0
    ∷ []

-- all days of category 0
unfoldable pub calendar : List ℕ
calendar = replicate 32 0

-- 100 W in the last quarter-hour of the 27th, else nothing: 31 days of 96 and one of 92
unfoldable pub watt_at : ℕ → ℕ
watt_at i = cond (eqb i 2687) 100 0

unfoldable pub readings : List ℕ
readings = words watt_at 0 3068

-- day 29 from quarter-hour 0, count 1, up, notice 92, 100 W: the last quarter-hour before notice is the one before the 28th
unfoldable pub engagements : List ℕ
engagements = 0 ∷ 0 ∷ 29 ∷ 0 ∷ 1 ∷ 0 ∷ 92 ∷ 0 ∷ 100 ∷ 0 ∷ 0 ∷ 0 ∷ 0 ∷ 0 ∷ 0 ∷ 0 ∷ []

-- table and register are the small book's
unfoldable pub march : List ℕ
march = header ++ (calendar ++ (table ++ (register ++ (readings ++ engagements))))

-- it is accepted; its 28th has 92 quarter-hours and the month 2,972, which is a file's last position; the provider's file carries 100 W for the supplier at position 2,685, and none
-- at 2,689, where they would stand if the 28th had 96
pub record MarchShown : Type 0 where
  pub accepted : Accepted march
  pub short : quarters (book_of march).calendar 28 ≡ 92
  pub month : month_quarters (book_of march).calendar ≡ 2972
  pub last : last_position 2021 3 ≡ 2972
  pub carries : Carries march Toe01 7 3 2685 100
  pub not_later : Carries march Toe01 7 3 2689 0
