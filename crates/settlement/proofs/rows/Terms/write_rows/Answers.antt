-- A turn stores the row of quarter-hour k behind the k rows before it; its raised reading is not missing, so that it has the reading's watts.
use native.Mathlib.Omega.{arith}
use mathlib.Core.Path.{◌≡◌, refl, ap, ◌∙◌}
use mathlib.Core.Bool.{true}
use mathlib.Core.List.{List, flat_map}
use Prim.Native.Nat.{ℕ, ◌+◌, ◌*◌, ◌-◌}
use lib.IntN.{ℤ}
use lib.ListN.{length, get_or}
use lib.Seq.{sets}
use Rattle.integers.specs.Ranges.{range}
use Rattle.wire.specs.Readings.{reading_at}
use Rattle.wire.specs.ReadingsInner.{Raised}
use Rattle.wire.specs.ReadingsLaws.{or-none}
use Rattle.volumes.specs.Quarters.{quarter_hours}
use Rattle.volumes.specs.Baseline.{known}
use Rattle.volumes.specs.Settlement.{row_width}
use Rattle.settlement.specs.RowsInner.{row_from, rows_from, row_at}
use Rattle.grains.specs.Grains.{grains}
use Rattle.settlement.specs.RaisedInner.{baseline_of, watts_of}
use Rattle.settlement.specs.RaisedLaws.{known_at, raised-watts}
use Rattle.settlement.specs.RowsLaws.{from-length}
use Rattle.settlement.specs.StoresLaws.{sets-next}
use Rattle.settlement.proofs.PartWritesLaws.{part-stored}
use Rattle.settlement.proofs.rows.Terms.write_rows.Goals as goal

pub loop-k-init : goal.loop-k-init
unfolding flat_map range
loop-k-init c = refl

pub loop-k-preserved : goal.loop-k-preserved
unfolding quarter_hours
loop-k-preserved c =
    let a = c.args in
    let t = a.self in
    let k = c.loop-k.k in
    let f = row_at t.version t.e.direction t.point t.e.requested a.levels.now a.readings.now a.first in
    let there : known (reading_at a.readings.now (a.first + k)) ≡ true =
    known_at (λ i. reading_at a.readings.now (a.first + i)) 0 t.e.count k c.requires.4 (omega arith) (omega arith) in
    let told : Raised a.readings.now (a.first + k) c.unwrap_or-raised.result = rw c.unwrap_or-raised.ensures (or-none _ _ c.raised_at.result c.raised_at.ensures) in
    let row = row_from t.version t.e.direction t.point (grains t.e.requested) (baseline_of (get_or a.levels.now k 0)) (watts_of c.unwrap_or-raised.result) in
    let row_is : row ≡ f k = rw (← raised-watts told there) in
    let long : length (f k) ≡ row_width = from-length _ _ _ _ _ _ in
    let place : 5 * k ≡ 0 + row_width * k = omega arith in
    let stored = sets a.out.now 0 (flat_map f (range 0 k)) in
    let same : length c.loop-k.out ≡ length a.out.now = c.loop-k.auto.out in
    part-stored (5 * k) (length c.loop-k.out - 5 * k) c.loop-k.out _ row (omega (arith, c.requires.0)) (omega (arith, ap length row_is, long, c.requires.0)) c.write_row.ensures
    ∙ ap (sets c.loop-k.out (5 * k)) row_is
    ∙ ap (λ (o : List ℤ). sets o (5 * k) (f k)) c.loop-k.invariant
    ∙ ap (λ (n : ℕ). sets stored n (f k)) place
    ∙ sets-next row_width a.out.now 0 f k (λ i. from-length _ _ _ _ _ _)

pub returns : goal.returns
unfolding rows_from quarter_hours
returns c =
    let all : c.loop-k.k ≡ c.args.self.e.count = omega arith in
    rw (← all) c.loop-k.invariant
