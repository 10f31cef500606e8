-- The words of a line, and the number that one says.
use Rattle.std.specs.Prelude.{◌&&◌, ◌==◌, List, ℕ, ◌+◌, ◌-◌, ◌*◌, ◌^◌, ltb, leb, length, Option, Some, None, cond}
use Rattle.std.specs.List.{before_first, after_first}
use Rattle.text.specs.Decimal.{digit, digits, value_from}

-- the first word of a line ends before its first space, or with it
abbrev pub word_of : List ℕ → List ℕ
word_of line = before_first (λ x. x == 32) line

-- what stands behind that space
abbrev pub rest_of : List ℕ → List ℕ
rest_of line = after_first (λ x. x == 32) line

-- what digits l say behind those that say acc, if it fits 64 bits
unfoldable pub number_from : ℕ → List ℕ → Option ℕ
number_from acc l = cond (digits l && ltb (value_from acc l) (2 ^ 64)) (Some (value_from acc l)) None

-- the number that a word says: digits, one or more, of a number of 64 bits
abbrev pub number_of : List ℕ → Option ℕ
number_of word = cond (leb 1 (length word)) (number_from 0 word) None

-- a number with the digit that a byte is behind it, if it is one and the number fits 64 bits
abbrev pub with_digit_of : ℕ → ℕ → Option ℕ
with_digit_of acc x = cond (digit x && ltb (acc * 10 + (x - 48)) (2 ^ 64)) (Some (acc * 10 + (x - 48))) None

-- a number that is at most so many
abbrev pub up_to : ℕ → Option ℕ → Option ℕ
up_to most (Some n) = cond (leb n most) (Some n) None
up_to most None = None
