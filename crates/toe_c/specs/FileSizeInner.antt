-- How large a book's file can be: a buffer of so many bytes fits any.
use Rattle.std.specs.Prelude.{ℕ}

-- 302 bytes, 1,769 for each of at most 256 partners, and 86 for each of at most 51,200 observations (512 engagements of 100 quarter-hours)
abbrev pub file_most : ℕ
file_most = 4856366
