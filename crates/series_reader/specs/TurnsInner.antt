-- A loop over items whose keys rise, turn by turn: what was read so far, and what is left to read.
use Rattle.std.specs.Prelude.{◌≡◌, ℕ, ◌-◌, drop}
use mathlib.Core.List.{List, [], ◌∷◌, flat_map}
use Rattle.formats.specs.Format.{Res}
use Rattle.formats.specs.Items.{repeat_parse, onto}
use Rattle.cursor.specs.declared.Cursor.{Cursor}
use Rattle.message.specs.Rows.{Row}
use Rattle.series_reader.specs.declared.rows.Rows.{Rows}
use Rattle.series_reader.specs.RowsInner.{held, with_rows, Lent}

-- the state behind items
unfoldable pub behind : {A S : Type 0} → (S → A → S) → S → List A → S
behind next st [] = st
behind next st (a ∷ l) = behind next (next st a) l

-- i of n items were read from the cursor c to d: the state is st, and their rows were stored
pub record Turned {A S : Type 0} (f : S → List ℕ → Res A) (next : S → A → S) (rows_of : A → List Row) (n i : ℕ) (first st : S) (c d : Cursor) (before after : Rows) : Type 0 where
  pub done : List A
  pub text : d.text.now ≡ c.text.now
  pub rest : repeat_parse f next n first (drop c.at c.text.now) ≡ onto done (repeat_parse f next (n - i) st (drop d.at d.text.now))
  pub state : behind next first done ≡ st
  pub rows : held after ≡ with_rows (flat_map rows_of done) (held before)
  pub lent : Lent before after
