-- Text as bytes.
use Rattle.std.specs.Prelude.{List, [], ◌∷◌, ℕ}
use Prim.Native.Char.{code}
use Prim.Native.String.{String}
use Prim.Native.String as Str

-- the bytes of a text of ASCII, as b".." has them in the code
unfoldable pub bytes : String → List ℕ
bytes Str.[] = []
bytes (Str.◌∷◌ c s) = code c ∷ bytes s
