-- A turn stores the volume of row k in cell k, behind those of the rows before it.
use mathlib.Core.Path.{◌≡◌, refl, sym, ap, ◌∙◌}
use mathlib.Core.List.{List, map}
use Prim.Native.Nat.{ℕ, ◌+◌}
use native.Mathlib.Omega.{arith}
use lib.ListN.{length, set}
use lib.Seq.{sets}
use Rattle.std.proofs.Common.{zero-add}
use Rattle.integers.specs.Ranges.{range}
use Rattle.integers.proofs.ZLaws.{up}
use Rattle.series.specs.VolumesInner.{volume_in}
use Rattle.series.specs.VolumesLaws.{set_next, all-set}
use Rattle.series.proofs.delivered.store_volumes.Goals as goal

pub loop-k-init : goal.loop-k-init
unfolding range
loop-k-init c = refl

pub loop-k-preserved : goal.loop-k-preserved
loop-k-preserved c =
    let a = c.args in
    let k = c.loop-k.k in
    let f : ℕ → ℕ = λ j. up (volume_in a.rows.now j) in
    ap (λ (m : List ℕ). set m k c.volume_at.result) c.loop-k.invariant
    ∙ ap (λ (j : ℕ). set (sets a.volumes.now 0 (map f (range 0 k))) j c.volume_at.result) (sym (zero-add k))
    ∙ set_next f a.volumes.now 0 k c.volume_at.result c.volume_at.ensures

pub returns : goal.returns
returns c =
    let a = c.args in
    c.loop-k.invariant ∙ all-set (λ j. up (volume_in a.rows.now j)) a.volumes.now c.loop-k.k (omega arith)
