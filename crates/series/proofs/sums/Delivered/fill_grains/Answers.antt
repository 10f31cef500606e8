-- The sections and the calendar are the book's own, and its month's cells are cleared first.
use mathlib.Core.Path.{◌≡◌, sym, ap, ◌∙◌}
use mathlib.Core.List.{List, ◌++◌}
use Prim.Native.Nat.{ℕ, ◌≤◌}
use lib.ListN.{length, take, drop, replicate}
use lib.Seq.{length-take-le}
use native.Mathlib.Omega.{arith}
use borrow.Author.Rules.{rules}
use Rattle.book.specs.Book.{book_of}
use Rattle.quarters.specs.Quarters.{month_quarters}
use Rattle.volumes.specs.Series.{grains_at}
use Rattle.series.specs.SumsInner.{by_position}
use Rattle.series.specs.SumsLaws.{by-again, by-own}
use Rattle.series.proofs.DeliveredLaws.{parts, zeros-made}
use Rattle.series.proofs.sums.Delivered.fill_grains.Goals as goal

pub slice_bounds-fill-end : goal.slice_bounds-fill-end
slice_bounds-fill-end c =
    let d = c.args.self.now in
    omega (arith, c.month_quarters.ensures ∙ ap month_quarters (sym (parts d.delivered d.parts).when), c.requires)

pub slice_bounds-fill-end-2 : goal.slice_bounds-fill-end-2
slice_bounds-fill-end-2 c =
    let d = c.args.self.now in
    sym (length-take-le c.month_quarters.result c.args.grains.now (omega (arith, c.month_quarters.ensures ∙ ap month_quarters (sym (parts d.delivered d.parts).when), c.requires)))

pub add_engagements-requires : goal.add_engagements-requires
add_engagements-requires c =
    let d = c.args.self.now in
    let n = c.month_quarters.result in
    let l = c.args.grains.now in
    let room : n ≤ length l = omega (arith, c.month_quarters.ensures ∙ ap month_quarters (sym (parts d.delivered d.parts).when), c.requires) in
    let filled : c.fill.new.self ≡ replicate (length (take n l)) 0 = search rules in
    let zeros : c.fill.new.self ++ drop n l ≡ by_position (λ p. 0) n l = ap (λ (m : List ℕ). m ++ drop n l) (filled ∙ ap (λ (k : ℕ). replicate k 0) (length-take-le n l room) ∙ zeros-made 1 n) in
    by-own (λ p. 0) n (month_quarters d.c.calendar) l _ c.month_quarters.ensures zeros room

pub returns : goal.returns
returns c =
    let d = c.args.self.now in
    let s = c.args.s in
    let n = c.month_quarters.result in
    let l = c.args.grains.now in
    let month = c.month_quarters.ensures ∙ ap month_quarters (sym (parts d.delivered d.parts).when) in
    let room : n ≤ length l = omega (arith, month, c.requires) in
    let filled : c.fill.new.self ≡ replicate (length (take n l)) 0 = search rules in
    let zeros : c.fill.new.self ++ drop n l ≡ by_position (λ p. 0) n l = ap (λ (m : List ℕ). m ++ drop n l) (filled ∙ ap (λ (k : ℕ). replicate k 0) (length-take-le n l room) ∙ zeros-made 1 n) in
    let cells = grains_at (book_of d.book.now) s.role.kind s.role.receiver s.series in
    let m = month_quarters d.c.calendar in
    c.add_engagements.ensures
    ∙ ap (by_position cells m) (zeros ∙ ap (λ (k : ℕ). by_position (λ p. 0) k l) c.month_quarters.ensures)
    ∙ by-again (λ p. 0) cells m l
    ∙ ap (λ (k : ℕ). by_position cells k l) (sym c.month_quarters.ensures ∙ month)
