-- The delivered volumes of a book, in the order of its settlement rows.
use mathlib.Core.List.{List, map, flat_map}
use Rattle.std.specs.Prelude.{ℕ, ◌+◌, ◌*◌, ℤ, pos, get_or}
use Rattle.book.specs.declared.Engagement.{Engagement}
use Rattle.book.specs.Book.{Book}
use Rattle.volumes.specs.Quarters.{quarter_hours}
use Rattle.volumes.specs.Settlement.{delivered, row_width}

-- those of an engagement, and of all
unfoldable pub volumes_of : Book → Engagement → List ℕ
volumes_of book e = map (delivered book e) (quarter_hours e)

unfoldable pub book_volumes : Book → List ℕ
book_volumes book = flat_map (volumes_of book) book.engagements

-- "baseline, delivered, ..": the second number of the k-th of some rows
abbrev pub volume_in : List ℤ → ℕ → ℤ
volume_in rows k = get_or rows (row_width * k + 1) (pos 0)
