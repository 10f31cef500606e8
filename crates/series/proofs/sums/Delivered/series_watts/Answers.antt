-- The grains that were filled become watts, over the same positions.
use mathlib.Core.Path.{◌≡◌, sym, ap, ◌∙◌}
use mathlib.Core.List.{◌++◌}
use Prim.Native.Nat.{ℕ, ◌≤◌, ◌<◌}
use native.Mathlib.Omega.{arith}
use lib.ListN.{length, drop}
use lib.Seq.{length-take-le, get_or-take}
use Rattle.integers.specs.Running.{floor_at}
use Rattle.grains.specs.Grains.{per_watt}
use Rattle.book.specs.Book.{book_of}
use Rattle.quarters.specs.Quarters.{month_quarters}
use Rattle.volumes.specs.Series.{grains_at}
use Rattle.series.specs.SumsInner.{by_position, cell_at}
use Rattle.series.specs.SumsLaws.{by_length, parts-of, carry-fits, watts-are}
use Rattle.series.proofs.DeliveredLaws.{parts}
use Rattle.series.proofs.PartsLaws.{part-watts}
use Rattle.series.proofs.sums.Delivered.series_watts.Goals as goal

pub slice_bounds-fill_watts-end : goal.slice_bounds-fill_watts-end
slice_bounds-fill_watts-end c =
    let d = c.args.self.now in
    let n = c.month_quarters.ensures ∙ ap month_quarters (sym (parts d.delivered d.parts).when) in
    omega (arith, n, c.requires, ap length c.fill_grains.ensures, by_length (grains_at (book_of d.book.now) c.args.s.role.kind c.args.s.role.receiver c.args.s.series) (month_quarters (book_of d.book.now).calendar) c.args.watts.now c.requires)

pub slice_bounds-fill_watts-end-2 : goal.slice_bounds-fill_watts-end-2
slice_bounds-fill_watts-end-2 c =
    let d = c.args.self.now in
    let n = c.month_quarters.ensures ∙ ap month_quarters (sym (parts d.delivered d.parts).when) in
    let room : c.month_quarters.result ≤ length c.fill_grains.new.grains = omega (arith, n, c.requires, ap length c.fill_grains.ensures, by_length (grains_at (book_of d.book.now) c.args.s.role.kind c.args.s.role.receiver c.args.s.series) (month_quarters (book_of d.book.now).calendar) c.args.watts.now c.requires) in
    sym (length-take-le c.month_quarters.result c.fill_grains.new.grains room)

pub fill_watts-requires : goal.fill_watts-requires
fill_watts-requires c =
    let d = c.args.self.now in
    let s = c.args.s in
    let f = c.fill_grains in
    let cells = f.new.grains in
    let m = month_quarters (book_of d.book.now).calendar in
    let n = c.month_quarters.ensures ∙ ap month_quarters (sym (parts d.delivered d.parts).when) in
    let room : c.month_quarters.result ≤ length cells = omega (arith, n, c.requires, ap length f.ensures, by_length (grains_at (book_of d.book.now) s.role.kind s.role.receiver s.series) m c.args.watts.now c.requires) in
    λ k h.
    let few : k < c.month_quarters.result = omega (arith, length-take-le c.month_quarters.result cells room) in
    rw (get_or-take c.month_quarters.result cells k 0 few) (carry-fits (parts-of d.book.now d.volumes.now d.delivered) s.role.kind s.role.receiver s.series m c.args.watts.now _ f.ensures k (omega (arith, n)))

pub returns : goal.returns
returns c =
    let d = c.args.self.now in
    let s = c.args.s in
    let f = c.fill_grains in
    let cells = f.new.grains in
    let m = month_quarters (book_of d.book.now).calendar in
    let n = c.month_quarters.ensures ∙ ap month_quarters (sym (parts d.delivered d.parts).when) in
    let room : c.month_quarters.result ≤ length cells = omega (arith, n, c.requires, ap length f.ensures, by_length (grains_at (book_of d.book.now) s.role.kind s.role.receiver s.series) m c.args.watts.now c.requires) in
    let watts : c.fill_watts.new.cells ++ drop c.month_quarters.result cells ≡ by_position (floor_at per_watt (cell_at cells)) c.month_quarters.result cells = rw c.fill_watts.ensures (part-watts cells c.month_quarters.result room) in
    watts
    ∙ ap (λ (n : ℕ). by_position (floor_at per_watt (cell_at cells)) n cells) n
    ∙ watts-are (parts-of d.book.now d.volumes.now d.delivered) s.role.kind s.role.receiver s.series m c.args.watts.now cells f.ensures
