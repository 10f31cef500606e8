-- Document 01, "The book", sections 1 and 2: categories, and X and Y by category.
use Rattle.std.specs.Prelude.{Bool, not, ◌&&◌, List, ℕ, ◌+◌, ◌*◌, leb, get_or, length}
use Rattle.integers.specs.First.{any_below}
use Rattle.book.specs.Header.{between}

-- "Calendar, N bytes: each day's category": of day d
abbrev pub category_at : List ℕ → ℕ → ℕ
category_at calendar d = get_or calendar d 0

-- "Four pairs of bytes X, Y, by category": of category c
abbrev pub x_at : List ℕ → ℕ → ℕ
x_at table c = get_or table (2 * c) 0

abbrev pub y_at : List ℕ → ℕ → ℕ
y_at table c = get_or table (2 * c + 1) 0

-- "category, 0 to 3": a day whose category is none of these
abbrev pub bad_day : List ℕ → ℕ → Bool
bad_day calendar d = not (leb (category_at calendar d) 3)

unfoldable pub calendar_good : List ℕ → Bool
calendar_good calendar = not (any_below (bad_day calendar) (length calendar))

-- "X 1 to 10, Y from X to 20"
abbrev pub entry_good : List ℕ → ℕ → Bool
entry_good table c = between 1 10 (x_at table c) && between (x_at table c) 20 (y_at table c)

unfoldable pub table_good : List ℕ → Bool
table_good table = entry_good table 0 && (entry_good table 1 && (entry_good table 2 && entry_good table 3))
