-- What the columns give, added: each is no larger than its correction, so that three add up without wrapping.
use native.Mathlib.Omega.{arith}
use mathlib.Core.Path.{◌≡◌, sym, ap, ◌∙◌}
use lib.IntN.{ℤ, ◌+ℤ◌}
use Prim.Native.Nat.{ℕ, ◌+◌, ◌<◌, ◌^◌}
use mir.Syntax.{w64}
use mir.Val.{to_z, of_z}
use mir.ValLaws.{to_z-of_z}
use Rattle.volumes.specs.SoundInner.{Bounded}
use Rattle.volumes.proofs.WidthsLaws.{bounded-add, bounded-fits}
use Rattle.sheets.specs.SharesInner.{correction_most}
use Rattle.sheets.specs.SharesLaws.{pick, pick-bounded, gets-two, gets-three}
use Rattle.sheets.proofs.cells.Share.of.Goals as goal

-- an i64 holds what is so small
held : {n : ℕ} (z : ℤ) → Bounded n z → n < 2 ^ 63 → to_z w64 (of_z w64 z) ≡ z
held z b h = to_z-of_z w64 z (bounded-fits b h)

-- what a column gives, as an i64
picked : (p party : ℕ) {x r : ℤ} → Bounded correction_most x → r ≡ pick p party (to_z w64 (of_z w64 x)) → to_z w64 (of_z w64 r) ≡ pick p party x
picked p party {x} {r} b e =
    let i : r ≡ pick p party x = e ∙ ap (pick p party) (held x b (omega arith)) in
    rw i (held (pick p party x) (pick-bounded p party b) (omega arith))

-- what the columns of every version give
two_is : (p q party : ℕ) {x y r s : ℤ} → Bounded correction_most x → Bounded correction_most y → r ≡ pick p party (to_z w64 (of_z w64 x)) → s ≡ pick q party (to_z w64 (of_z w64 y))
    → to_z w64 (of_z w64 (to_z w64 (of_z w64 r) +ℤ to_z w64 (of_z w64 s))) ≡ pick p party x +ℤ pick q party y
two_is p q party {x} {y} {r} {s} b d e f =
    rw (picked p party b e, picked q party d f)
    (held (pick p party x +ℤ pick q party y) (bounded-add (pick-bounded p party b) (pick-bounded q party d)) (omega arith))

-- what three give is no larger than three corrections
three_bounded : (p q t party : ℕ) {x y z : ℤ} → Bounded correction_most x → Bounded correction_most y → Bounded correction_most z → Bounded (correction_most + correction_most + correction_most) (pick p party x +ℤ pick q party y +ℤ pick t party z)
three_bounded p q t party b d e = bounded-add (bounded-add (pick-bounded p party b) (pick-bounded q party d)) (pick-bounded t party e)

pub returns-then-not-splits : goal.returns-then-not-splits
returns-then-not-splits c =
    let a = c.args in
    two_is a.self.point.sourceparty a.self.point.fspparty a.self.party c.requires.0 c.requires.1 c.amount.ensures c.amount-2.ensures
    ∙ sym (gets-two a.self.version a.self.party a.self.point a.source a.fsp a.injection (sym c.splits.ensures ∙ c.if-not-splits.true))

pub overflow_add-result : goal.overflow_add-result
overflow_add-result c =
    let a = c.args in
    let p = a.self.point in
    rw (two_is p.sourceparty p.fspparty a.self.party c.requires.0 c.requires.1 c.amount.ensures c.amount-2.ensures, picked p.injectionparty a.self.party c.requires.2 c.amount-3.ensures)
    (bounded-fits (three_bounded p.sourceparty p.fspparty p.injectionparty a.self.party c.requires.0 c.requires.1 c.requires.2) (omega arith))

pub returns : goal.returns
returns c =
    let a = c.args in
    let p = a.self.point in
    rw (two_is p.sourceparty p.fspparty a.self.party c.requires.0 c.requires.1 c.amount.ensures c.amount-2.ensures, picked p.injectionparty a.self.party c.requires.2 c.amount-3.ensures)
    (held _ (three_bounded p.sourceparty p.fspparty p.injectionparty a.self.party c.requires.0 c.requires.1 c.requires.2) (omega arith)
    ∙ sym (gets-three a.self.version a.self.party p a.source a.fsp a.injection (sym c.splits.ensures ∙ c.if-not-splits.false)))
