-- What a line says before its book: `KIND RECEIVER ROWS FILE ID MOMENT`.
use Rattle.std.specs.Prelude.{◌≡◌, List, ℕ, zero, suc, replicate, Some}
use Rattle.cases.specs.WordsInner.{word_of, rest_of, number_of}
use Rattle.cases.specs.SparseInner.{hex_of, Unhexed}

-- what stands behind so many words
abbrev pub behind : ℕ → List ℕ → List ℕ
behind zero line = line
behind (suc n) line = behind n (rest_of line)

pub record Says (line : List ℕ) (kind receiver rows file : ℕ) (id : List ℕ) (id_length : ℕ) (moment : List ℕ) (moment_length : ℕ) (left : List ℕ) : Type 0 where
  pub kind_is : number_of (word_of line) ≡ Some kind
  pub receiver_is : number_of (word_of (behind 1 line)) ≡ Some receiver
  pub rows_is : number_of (word_of (behind 2 line)) ≡ Some rows
  pub file_is : number_of (word_of (behind 3 line)) ≡ Some file
  pub id_is : Unhexed (hex_of (word_of (behind 4 line))) (replicate 128 0) id id_length
  pub moment_is : Unhexed (hex_of (word_of (behind 5 line))) (replicate 128 0) moment moment_length
  pub left_is : left ≡ behind 6 line
