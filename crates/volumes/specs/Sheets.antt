-- Document 01, "Delivered volume, corrections, series": the sheets of balance parties, and the requested volume.
use Rattle.std.specs.Prelude.{Bool, cond, ◌&&◌, ℕ, ◌+◌, ◌-◌, eqb, leb, ltb, ℤ, pos}
use mathlib.Core.List.{List, [], ◌∷◌, map, flat_map, zip}
use Rattle.integers.specs.Ranges.{range}
use Rattle.integers.specs.Sums.{sum_z}
use Rattle.quarters.specs.declared.Calendar.{Calendar}
use Rattle.book.specs.declared.Point.{Point}
use Rattle.book.specs.declared.Engagement.{Engagement}
use Rattle.book.specs.Header.{splits}
use Rattle.book.specs.Book.{Book}
use Rattle.quarters.specs.Quarters.{position, month_quarters}
use Rattle.volumes.specs.Baseline.{point_of}
use Rattle.volumes.specs.Settlement.{requested_at, signed, corrections}

-- where an engagement starts in the month, whether it covers a position, and with which of its quarter-hours
abbrev pub start_position : Calendar → Engagement → ℕ
start_position c e = position c e.day e.first

unfoldable pub covers : Calendar → Engagement → ℕ → Bool
covers c e p = leb (start_position c e) p && ltb p (start_position c e + e.count)

unfoldable pub quarter_at : Calendar → Engagement → ℕ → ℕ
quarter_at c e p = p - start_position c e

-- the columns of balance parties in the register: source and FSP; 02, C-14: "From version 2 on, sheets and refusal 11 read the new column as well."
unfoldable pub parties_of : ℕ → Point → List ℕ
parties_of version point = point.sourceparty ∷ point.fspparty ∷ cond (splits version) (point.injectionparty ∷ []) []

-- "all parties in the register"
unfoldable pub parties : Book → List ℕ
parties book = flat_map (parties_of book.version) book.points

-- what a party gets of these amounts, each with its party: "One party in both columns gets both."
unfoldable pub share_of : ℕ → List (ℕ × ℤ) → ℤ
share_of party amounts = sum_z (λ a. cond (eqb a.0 party) a.1 (pos 0)) amounts

-- a party's corrections of one engagement at a position
unfoldable pub correction_at : Book → ℕ → ℕ → Engagement → ℤ
correction_at book party p e =
    let share : ℤ = share_of party (zip (parties_of book.version (point_of book e)) (corrections book e (quarter_at book.calendar e p))) in
    cond (covers book.calendar e p) share (pos 0)

-- "A party's sheet has the sum of its corrections for each quarter-hour of the month"
unfoldable pub sheet_at : Book → ℕ → ℕ → ℤ
sheet_at book party p = sum_z (correction_at book party p) book.engagements

unfoldable pub sheet : Book → ℕ → List ℤ
sheet book party = map (sheet_at book party) (range 1 (month_quarters book.calendar))

-- "The requested volume of a quarter-hour sums the requested watts, in grains, of the engagements that cover it, up less down."
unfoldable pub requested_by : Calendar → ℕ → Engagement → ℤ
requested_by c p e = cond (covers c e p) (signed e.direction (pos (requested_at e (quarter_at c e p)))) (pos 0)

unfoldable pub requested_volume : Book → ℕ → ℤ
requested_volume book p = sum_z (requested_by book.calendar p) book.engagements
