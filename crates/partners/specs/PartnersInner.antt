-- The partners of a receiver one after another, as the register's rows give them.
use mathlib.Core.List.{List, [], ◌∷◌, map, Memᴰ}
use Rattle.std.specs.Prelude.{ℕ, Bool, ◌≤◌, ◌<◌, eqb, leb, Option, unwrap_or, IfSome}
use Rattle.integers.specs.Ranges.{range}
use Rattle.integers.specs.Keep.{keep, is_some}
use Rattle.book.specs.declared.Point.{Point}
use Rattle.book.specs.Register.{point_at}
use Rattle.book.specs.Book.{Book}
use Rattle.settlement.specs.SectionsInner.{point_count_in}
use Rattle.volumes.specs.Series.{Kind, receiver_of, partner_of}
use Rattle.message.specs.Contents.{Partner}
use Rattle.reports.specs.FileRows.{is_taken, partner_numbers}
use Rattle.reports.specs.FileRowsInner.{partner_at}

-- the delivery points of a register's bytes
unfoldable pub points_in : List ℕ → List Point
points_in register = map (point_at register) (range 0 (point_count_in register))

-- row i has the receiver
unfoldable pub receives_at : List ℕ → Kind → ℕ → ℕ → Bool
receives_at register kind receiver i = eqb (receiver_of kind (point_at register i)) receiver

-- the partner of each point that is taken and has the receiver
unfoldable pub partner_column : List Point → Kind → ℕ → List ℕ
partner_column points kind receiver = map (partner_of kind) (keep (is_taken kind receiver) points)

-- "EAN u64 .. (below 10^18), supplier u64, FSP u64 (below 10^10)": no partner has this number
abbrev pub no_partner : ℕ
no_partner = 1000000000000000000

-- the least of these numbers from a place on, or a number that no partner has
pub record Next (low : ℕ) (column : List ℕ) (next : ℕ) : Type 0 where
  pub member : next < no_partner → Memᴰ next column × (low ≤ next)
  pub least : (x : ℕ) → Memᴰ x column → low ≤ x → next ≤ x

-- the same as an option: the number of one is below that which no partner has
pub record NextIn (low : ℕ) (column : List ℕ) (next : Option ℕ) : Type 0 where
  pub least : Next low column (unwrap_or next no_partner)
  pub below : IfSome next (λ n. n < no_partner)

-- a partner, if it has a series
unfoldable pub partner_if : Book → Kind → ℕ → ℕ → List Partner
partner_if book kind receiver partner = keep (λ p. is_some p.series) (partner_at book kind receiver partner ∷ [])

-- the partners from a number on that have a series
unfoldable pub partners_from : Book → Kind → ℕ → ℕ → List Partner
partners_from book kind receiver low = keep (λ p. is_some p.series) (map (partner_at book kind receiver) (keep (leb low) (partner_numbers book kind receiver)))
