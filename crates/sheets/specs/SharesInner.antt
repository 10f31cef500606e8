-- What a party gets of settlement rows (document 01, "Delivered volume, corrections, series").
use mathlib.Core.List.{List, [], ◌∷◌, map, zip}
use Rattle.std.specs.Prelude.{ℕ, ◌+◌, ◌*◌, ◌^◌, ◌<◌, ℤ, pos, get_or}
use Rattle.integers.specs.Ranges.{range}
use Rattle.quarters.specs.declared.Calendar.{Calendar}
use Rattle.book.specs.declared.Point.{Point}
use Rattle.book.specs.declared.Engagement.{Engagement}
use Rattle.book.specs.Book.{Book}
use Rattle.volumes.specs.Quarters.{quarter_hours}
use Rattle.volumes.specs.Settlement.{row_width}
use Rattle.volumes.specs.Sheets.{start_position, parties_of, share_of, correction_at}
use Rattle.volumes.specs.SoundInner.{Bounded}
use Rattle.quarters.specs.QuartersInner.{cell_of}

-- "One party in both columns gets both.": of a quarter-hour's three corrections, by the columns that a version has
unfoldable pub gets : ℕ → ℕ → Point → ℤ → ℤ → ℤ → ℤ
gets version party point source fsp injection = share_of party (zip (parties_of version point) (source ∷ fsp ∷ injection ∷ []))

-- the corrections that stand third, fourth and fifth in row k
abbrev pub source_in : List ℤ → ℕ → ℤ
source_in rows k = get_or rows (row_width * k + 2) (pos 0)

abbrev pub fsp_in : List ℤ → ℕ → ℤ
fsp_in rows k = get_or rows (row_width * k + 3) (pos 0)

abbrev pub injection_in : List ℤ → ℕ → ℤ
injection_in rows k = get_or rows (row_width * k + 4) (pos 0)

-- of row k, and of `count` rows, one after the other
abbrev pub gets_at : ℕ → ℕ → Point → List ℤ → ℕ → ℤ
gets_at version party point rows k = gets version party point (source_in rows k) (fsp_in rows k) (injection_in rows k)

unfoldable pub gets_of : ℕ → ℕ → Point → List ℤ → ℕ → List ℤ
gets_of version party point rows count = map (gets_at version party point rows) (range 0 count)

-- a correction so small that three add up without wrapping; and those of `count` rows all are
abbrev pub correction_most : ℕ
correction_most = 2 ^ 61

pub record RowsSmall (rows : List ℤ) (count : ℕ) : Type 0 where
  pub source : (k : ℕ) → k < count → Bounded correction_most (source_in rows k)
  pub fsp : (k : ℕ) → k < count → Bounded correction_most (fsp_in rows k)
  pub injection : (k : ℕ) → k < count → Bounded correction_most (injection_in rows k)

-- a party's corrections of an engagement, one after the other
unfoldable pub corrections_for : Book → ℕ → Engagement → List ℤ
corrections_for book party e = map (λ k. correction_at book party (start_position book.calendar e + k) e) (quarter_hours e)

-- the cell of its first quarter-hour
abbrev pub first_cell : Calendar → Engagement → ℕ
first_cell c e = cell_of c e.day e.first
