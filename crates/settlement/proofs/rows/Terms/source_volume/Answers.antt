-- Level and reading have one bias, so that what each is above it is the off-take of baseline and reading.
use mathlib.Core.Path.{◌≡◌, sym, ap, ap₂, ◌∙◌}
use mathlib.Core.Bool.{true}
use Prim.Native.Nat.{◌-◌}
use lib.IntN.{pos}
use Rattle.grains.specs.Grains.{grains_z}
use Rattle.book.specs.Header.{splits}
use Rattle.volumes.specs.Settlement.{off_take_of, off_take_share, source_by}
use Rattle.settlement.specs.RaisedInner.{bias, baseline_of, watts_of}
use Rattle.settlement.specs.RowsLaws.{off-take-level, off-take-reading, share-of}
use Rattle.settlement.proofs.rows.Terms.source_volume.Goals as goal

pub returns-then-not-splits : goal.returns-then-not-splits
unfolding source_by
returns-then-not-splits c = rw (sym c.splits.ensures ∙ c.if-not-splits.true)

pub returns : goal.returns
unfolding source_by
returns c =
    let a = c.args in
    let split : splits a.self.version ≡ true = sym c.splits.ensures ∙ c.if-not-splits.false in
    let base-is : c.off_take-base.result ≡ off_take_of (baseline_of a.level) = c.off_take-base.ensures ∙ sym (off-take-level a.level) in
    let read_is : c.off_take-read.result ≡ off_take_of (grains_z (watts_of a.raised)) = c.off_take-read.ensures ∙ ap (λ n. n - bias) c.reading_grains.ensures ∙ sym (off-take-reading a.raised) in
    rw split (c.ahead.ensures ∙ ap₂ (λ b r. off_take_share a.self.e.direction (pos b) (pos r) a.volume) base-is read_is ∙ sym (share-of a.self.e.direction (baseline_of a.level) (grains_z (watts_of a.raised)) a.volume))
