-- "The reader goes through the file once, from its first byte to its last" (document 01, The file): what a cursor reads, and where it then stands.
use Rattle.std.specs.Prelude.{◌≡◌, List, ℕ, drop, leb, ltb, Option, Some, None}
use Rattle.formats.specs.Format.{Res, got, bad, pick, ends}
use Rattle.formats.specs.Combine.{only_parse}
use Rattle.formats.specs.Exactly.{fixed_digits}
use Rattle.formats.specs.Numbers.{number_parse}
use Rattle.formats.specs.Name.{name_byte, name_parse}
use Rattle.cursor.specs.declared.Cursor.{Cursor}

-- where a cursor stands
abbrev pub text_and_place : Cursor → List ℕ × ℕ
text_and_place c = (c.text.now, c.at)

-- what was read is the answer, and what is left of it begins where the cursor stands; nothing is answered where nothing was read
abbrev pub Found : {A : Type 0} → Res A → Cursor → Option A → Type 0
Found x c (Some v) = x ≡ got v (drop c.at c.text.now)
Found x c None = x ≡ bad

-- f, read from where the cursor stood on, in a text that is as it was
pub record Reads {A : Type 0} (f : List ℕ → Res A) (old new : Cursor) (r : Option A) : Type 0 where
  pub text : new.text.now ≡ old.text.now
  pub found : Found (f (drop old.at old.text.now)) new r

-- ---- the forms that have a limit

-- a number of at most max, which is 9 or more
abbrev pub number_of : ℕ → ℕ → List ℕ → Res ℕ
number_of stop max s = pick (leb 9 max) (number_parse stop max s)

-- a counter is 1 or more
abbrev pub counter_parse : List ℕ → Res ℕ
counter_parse = only_parse (λ n. ltb 0 n) (number_parse 60 18446744073709551615)

-- a number of n digits, at most 18
abbrev pub fixed_of : ℕ → List ℕ → Res ℕ
fixed_of n s = pick (leb n 18) ((fixed_digits n).parse s)

-- a name, of which only the end is told
abbrev pub name_of : ℕ → ℕ → ℕ → List ℕ → Res (Unit {0})
name_of least most stop s = ends (name_parse name_byte least most stop s)
