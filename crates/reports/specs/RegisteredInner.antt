-- What a book's register has that passes refusal 5 (document 01, "The book"), as a file needs it.
use Rattle.std.specs.Prelude.{◌≡◌, ◌^◌, ◌≤◌, ◌<◌, length}
use mathlib.Core.List.{Memᴰ}
use Rattle.book.specs.declared.Point.{Point}
use Rattle.book.specs.Book.{Book}

-- "access point EAN u64 (below 10^18), supplier u64, FSP u64 (below 10^10)"
pub record NumbersFit (point : Point) : Type 0 where
  pub access : point.access < 10 ^ 18
  pub supplier : point.supplier < 10 ^ 10
  pub fsp : point.fsp < 10 ^ 10

-- "Rows of one access point share supplier and supply direction.", "points P u16, 1 to 256"
pub record Registered (book : Book) : Type 0 where
  pub numbered : (point : Point) → Memᴰ point book.points → NumbersFit point
  pub shared : (a b : Point) → Memᴰ a book.points → Memᴰ b book.points → a.access ≡ b.access → a.supply ≡ b.supply
  pub few : length book.points ≤ 256
