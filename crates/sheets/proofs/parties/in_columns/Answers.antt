-- One column after the other; the third counts from version 2 on.
use mathlib.Core.Path.{◌≡◌, refl, sym, ap, ◌∙◌}
use mathlib.Core.Bool.{Bool, true, false, ◌&&◌, ◌||◌}
use Prim.Native.Nat.{ℕ}
use lib.Dec.{eqb}
use borrow.Author.Tests.{eqb-true, eqb-false}
use Rattle.integers.specs.Counts.{stands}
use Rattle.book.specs.declared.Point.{Point}
use Rattle.book.specs.Header.{splits}
use Rattle.volumes.specs.Sheets.{parties_of}
use Rattle.sheets.specs.PartiesLaws.{column-source, column-fsp, column-else}
use Rattle.sheets.proofs.parties.in_columns.Goals as goal

columns : (version party : ℕ) (point : Point) (a b : Bool) → eqb point.sourceparty party ≡ a → eqb point.fspparty party ≡ b → (a || b || (splits version && eqb point.injectionparty party)) ≡ stands party (parties_of version point)
columns version party point true b e f = sym (column-source version party point (eqb-true point.sourceparty party e))
columns version party point false true e f = sym (column-fsp version party point (eqb-true point.fspparty party f))
columns version party point false false e f = sym (column-else version party point (eqb-false point.sourceparty party e) (eqb-false point.fspparty party f))

pub returns : goal.returns
returns c =
    let a = c.args in
    ap (λ (b : Bool). eqb a.point.sourceparty a.party || eqb a.point.fspparty a.party || (b && eqb a.point.injectionparty a.party)) c.splits.ensures
    ∙ columns a.version a.party a.point (eqb a.point.sourceparty a.party) (eqb a.point.fspparty a.party) refl refl
