-- The line that asks for a file (document 01, "The file").
use Rattle.std.specs.Prelude.{refl, List, ℕ}
use Rattle.text.specs.Ascii.{bytes}
use Rattle.formats.specs.Format.{Format}
use Rattle.formats.specs.Combine.{post, seq, only}
use Rattle.formats.specs.Exactly.{exactly, fixed_digits}
use Rattle.formats.specs.Name.{name_byte, name}
use Rattle.kinds.specs.Numbers.{is_kind}
use Rattle.message.specs.Valid.{is_moment}

-- kind, receiver, ID and moment
abbrev pub Words : Type 0
Words = ℕ × (ℕ × (List ℕ × List ℕ))

-- "kind 01 to 03, receiver of 10 digits, ID, moment, single spaces, line feed": an ID has 1 to 36 bytes, and 32 is the space behind it
unfoldable pub line : Format Words
line =
    seq (post (only is_kind (fixed_digits 2)) (bytes " "))
    (seq (post (fixed_digits 10) (bytes " "))
    (seq (name name_byte 1 36 32 refl) (post (exactly 29 is_moment) (bytes "\n"))))
