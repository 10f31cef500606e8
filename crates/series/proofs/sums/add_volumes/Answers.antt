-- A turn adds volume k to cell k, which the turns before left alone.
use mathlib.Core.Path.{◌≡◌, sym, ap, ◌∙◌}
use mathlib.Core.List.{List}
use Prim.Native.Nat.{ℕ, ◌+◌, ◌^◌, ◌<◌}
use native.Mathlib.Omega.{arith}
use lib.ListN.{get_or, set}
use Rattle.series.specs.SumsInner.{added}
use Rattle.series.specs.SumsLaws.{added_none, added-behind, added_more}
use Rattle.series.proofs.sums.add_volumes.Goals as goal

pub loop-k-init : goal.loop-k-init
loop-k-init c = sym (added_none _ _ _)

pub overflow_add-cell : goal.overflow_add-cell
overflow_add-cell c =
    let k = c.loop-k.k in
    let z : 0 + k ≡ k = omega arith in
    let behind : get_or c.loop-k.grains k 0 ≡ get_or c.args.grains.now k 0 = ap (λ (g : List ℕ). get_or g k 0) c.loop-k.invariant ∙ added-behind c.args.grains.now 0 (λ j. get_or c.args.volumes.now j 0) k k (omega arith) in
    let fits : get_or c.args.grains.now k 0 + get_or c.args.volumes.now k 0 < 2 ^ 64 = rw (← z) (c.requires.fits k (omega arith)) in
    record { fits = omega (arith, behind, fits) }

pub loop-k-preserved : goal.loop-k-preserved
loop-k-preserved c =
    let a = c.args in
    let k = c.loop-k.k in
    let z : 0 + k ≡ k = omega arith in
    let v : ℕ → ℕ = λ j. get_or a.volumes.now j 0 in
    ap (λ (g : List ℕ). set g k (get_or g k 0 + v k)) c.loop-k.invariant
    ∙ ap (λ (j : ℕ). set (added a.grains.now 0 v k) j (get_or (added a.grains.now 0 v k) j 0 + v k)) (sym z)
    ∙ added_more a.grains.now 0 v k

pub returns : goal.returns
returns c = c.loop-k.invariant ∙ ap (added c.args.grains.now 0 (λ j. get_or c.args.volumes.now j 0)) (omega arith)
