-- Bytes in hex, and sparse bytes: `LENGTH OFFSET HEX OFFSET HEX ..`.
use Rattle.std.specs.Prelude.{◌≡◌, Bool, cond, ◌&&◌, List, [], ℕ, ◌+◌, ◌-◌, ◌*◌, ◌≤◌, ◌<◌, eqb, leb, length, get_or, take, drop, replicate, Option, Some, None}
use Rattle.std.specs.Option.{option_and_then}
use Rattle.cases.specs.WordsInner.{word_of, rest_of, number_of}

-- what a lower-case hex digit says
abbrev pub nibble_of : ℕ → Option ℕ
nibble_of x = cond (leb 48 x && leb x 57) (Some (x - 48)) (cond (leb 97 x && leb x 102) (Some (x - 87)) None)

-- what two hex digits say
abbrev pub hex_byte_of : ℕ → ℕ → Option ℕ
hex_byte_of first second = option_and_then (λ high. option_and_then (λ low. Some (16 * high + low)) (nibble_of second)) (nibble_of first)

-- byte k of a hex word
abbrev pub hex_byte_at : List ℕ → ℕ → Option ℕ
hex_byte_at word k = hex_byte_of (get_or word (2 * k) 0) (get_or word (2 * k + 1) 0)

-- the n bytes of a hex word stand at the start of `after`, and the rest is as it was before
pub record Unhexed (word before after : List ℕ) (n : ℕ) : Type 0 where
  pub size : 2 * n ≡ length word
  pub room : n ≤ length after
  pub bytes : (k : ℕ) → k < n → hex_byte_at word k ≡ Some (get_or after k 0)
  pub rest : (k : ℕ) → n ≤ k → get_or after k 0 ≡ get_or before k 0

abbrev pub UnhexedBy : List ℕ → List ℕ → List ℕ → Option ℕ → Type 0
UnhexedBy word before after (Some n) = Unhexed word before after n
UnhexedBy word before after None = Unit {0}

-- a hex word: `-` says no bytes
abbrev pub says_none : List ℕ → Bool
says_none word = eqb (length word) 1 && eqb (get_or word 0 0) 45

abbrev pub hex_of : List ℕ → List ℕ
hex_of word = cond (says_none word) [] word

-- ---- the pieces of a line, and the whole of sparse bytes

-- the n bytes of a hex word stand from `offset` on, and the rest is as it was before
pub record PutAt (word : List ℕ) (offset : ℕ) (before after : List ℕ) (n : ℕ) : Type 0 where
  pub room : offset ≤ length before
  pub kept : take offset after ≡ take offset before
  pub put : Unhexed word (drop offset before) (drop offset after) n

abbrev pub PutAtBy : List ℕ → ℕ → List ℕ → List ℕ → Option ℕ → Type 0
PutAtBy word offset before after (Some n) = PutAt word offset before after n
PutAtBy word offset before after None = Unit {0}

-- a line's first two words say `OFFSET HEX`: what they change in the bytes before
pub record Piece (line before after : List ℕ) : Type 0 where
  pub offset : ℕ
  pub count : ℕ
  pub says : number_of (word_of line) ≡ Some offset
  pub put : PutAt (word_of (rest_of line)) offset before after count

-- the line behind those words
abbrev pub behind_piece : List ℕ → List ℕ
behind_piece line = rest_of (rest_of line)

abbrev pub PieceBy : List ℕ → List ℕ → List ℕ → Option Unit → Type 0
PieceBy line before after (Some u) = Piece line before after
PieceBy line before after None = Unit {0}

-- the pieces that a line says, one behind the other
pub data Pieces : List ℕ → List ℕ → List ℕ → Type 0 where
  none : {before : List ℕ} → Pieces [] before before
  more : {line before mid after : List ℕ} → Piece line before mid → Pieces (behind_piece line) mid after → Pieces line before after

abbrev pub PiecesBy : List ℕ → List ℕ → List ℕ → Option Unit → Type 0
PiecesBy line before after (Some u) = Pieces line before after
PiecesBy line before after None = Unit {0}

-- the first n bytes are zeros but for the pieces of a line, the rest is as it was before
pub record LineFilled (line : List ℕ) (n : ℕ) (before after : List ℕ) : Type 0 where
  pub room : n ≤ length after
  pub pieces : Pieces line (replicate n 0) (take n after)
  pub rest : drop n after ≡ drop n before

abbrev pub FilledBy : List ℕ → ℕ → List ℕ → List ℕ → Option Unit → Type 0
FilledBy line n before after (Some u) = LineFilled line n before after
FilledBy line n before after None = Unit {0}

-- a line says `LENGTH OFFSET HEX ..`: the first n bytes are zeros but for the pieces, the rest is as it was before
pub record Sparse (line before after : List ℕ) (n : ℕ) : Type 0 where
  pub says : number_of (word_of line) ≡ Some n
  pub room : n ≤ length after
  pub pieces : Pieces (rest_of line) (replicate n 0) (take n after)
  pub rest : drop n after ≡ drop n before

abbrev pub SparseBy : List ℕ → List ℕ → List ℕ → Option ℕ → Type 0
SparseBy line before after (Some n) = Sparse line before after n
SparseBy line before after None = Unit {0}
