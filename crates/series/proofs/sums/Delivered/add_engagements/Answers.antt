-- The cells hold the grains of the engagements passed; a turn adds those of one more.
use mathlib.Core.Path.{◌≡◌, refl, sym, ap, ◌∙◌}
use mathlib.Core.List.{List}
use Prim.Native.Nat.{ℕ, ◌+◌, ◌-◌, ◌≤◌}
use native.Mathlib.Omega.{arith}
use lib.ListN.{length}
use borrow.Author.Rules.{rules}
use borrow.Rule.Slice.PartMut.{put_mid}
use Rattle.book.specs.declared.Engagement.{Engagement}
use Rattle.quarters.specs.Quarters.{month_quarters}
use Rattle.quarters.proofs.QuartersLaws.{days-few}
use Rattle.book.specs.Book.{book_of}
use Rattle.settlement.specs.PartsLaws.{count_none, count-more}
use Rattle.series.specs.SumsInner.{grains_to, VolumesAddable}
use Rattle.series.specs.SumsLaws.{by-cong, added-length, placed, volumes-room, grains-none, grains-all}
use Rattle.series.proofs.DeliveredLaws.{parts}
use Rattle.series.proofs.PartsLaws.{part-addable, part-added, turn-fits, turn-is}
use Rattle.series.proofs.sums.Delivered.add_engagements.Goals.{After-cell_of-first}
use Rattle.series.proofs.sums.Delivered.add_engagements.Goals as goal

pub loop-i-init : goal.loop-i-init
loop-i-init c =
    let d = c.args.self.now in
    let s = c.args.s in
    (omega (arith, count_none d.engagements.now), refl, c.requires.1 ∙ by-cong (λ q. 0) (grains_to (book_of d.book.now) s.role.kind s.role.receiver s.series 0) (month_quarters d.c.calendar) c.args.grains.now (λ q _ _. sym (grains-none (parts d.delivered d.parts) _ _ _ q)))

pub rows_of-own-requires : goal.rows_of-own-requires
rows_of-own-requires c =
    let d = c.args.self.now in
    rw c.engagement_at-e.ensures ((parts d.delivered d.parts).registered c.loop-i.i (omega arith))

pub cell_of-first-requires : goal.cell_of-first-requires
cell_of-first-requires c =
    let d = c.args.self.now in
    let p = parts d.delivered d.parts in
    let r = rw p.when at p.sound.ranged in
    let at = placed p c.loop-i.i (omega arith) in
    rw c.engagement_at-e.ensures (omega (arith, at.inside, days-few d.c.calendar r), at.settled)

-- what a turn adds lies inside the cells and the volumes
fits : (c : After-cell_of-first) → VolumesAddable c.loop-i.grains c.cell_of-first.result c.args.self.now.volumes.now c.loop-i.at c.rows_of-own.result
fits c =
    let d = c.args.self.now in
    let s = c.args.s in
    let l = c.loop-i in
    turn-fits (parts d.delivered d.parts) s.role.kind s.role.receiver s.series l.i l.at c.rows_of-own.result c.cell_of-first.result c.args.grains.now l.grains c.engagement_at-e.result (omega arith) c.engagement_at-e.ensures c.rows_of-own.ensures c.cell_of-first.ensures l.invariant.0 c.requires.0 l.invariant.2

pub overflow_add-first : goal.overflow_add-first
overflow_add-first c =
    let h : c.cell_of-first.result + c.rows_of-own.result ≤ length c.loop-i.grains = (fits (goal.at.overflow_add-first c).After-cell_of-first).cells in
    search rules

pub offset_bounds-grains-first : goal.offset_bounds-grains-first
offset_bounds-grains-first c =
    let h : c.cell_of-first.result ≤ length c.loop-i.grains = omega (arith, (fits (goal.at.offset_bounds-grains-first c).After-cell_of-first).cells) in
    search rules

pub slice_bounds-add_volumes-end : goal.slice_bounds-add_volumes-end
slice_bounds-add_volumes-end c =
    (fits (goal.at.slice_bounds-add_volumes-end c).After-cell_of-first).cells

pub overflow_add-at : goal.overflow_add-at
overflow_add-at c =
    let h : c.loop-i.at + c.rows_of-own.result ≤ length c.args.self.now.volumes.now = (fits (goal.at.overflow_add-at c).After-cell_of-first).given in
    search rules

pub offset_bounds-self-at : goal.offset_bounds-self-at
offset_bounds-self-at c =
    let h : c.loop-i.at ≤ length c.args.self.now.volumes.now = omega (arith, (fits (goal.at.offset_bounds-self-at c).After-cell_of-first).given) in
    search rules

pub slice_bounds-add_volumes-end-in-loop-i : goal.slice_bounds-add_volumes-end-in-loop-i
slice_bounds-add_volumes-end-in-loop-i c =
    (fits (goal.at.slice_bounds-add_volumes-end-in-loop-i c).After-cell_of-first).given

pub add_volumes-requires : goal.add_volumes-requires
add_volumes-requires c =
    let l = c.loop-i in
    let first = c.cell_of-first.result in
    let own = c.rows_of-own.result in
    part-addable l.grains c.args.self.now.volumes.now first l.at own (first + own - first) (l.at + own - l.at) (omega arith) (omega arith) (fits (goal.at.add_volumes-requires c).After-cell_of-first)

pub overflow_add-at-in-loop-i : goal.overflow_add-at-in-loop-i
overflow_add-at-in-loop-i c =
    let d = c.args.self.now in
    record { fits = omega (arith, c.loop-i.invariant.0, volumes-room (parts d.delivered d.parts) c.loop-i.i (omega arith), ap (λ (e : Engagement). e.count) c.engagement_at-e.ensures) }

pub loop-i-preserved : goal.loop-i-preserved
loop-i-preserved c =
    let d = c.args.self.now in
    let s = c.args.s in
    let l = c.loop-i in
    let first = c.cell_of-first.result in
    let own = c.rows_of-own.result in
    let v = part-added l.grains d.volumes.now first l.at own (first + own - first) (l.at + own - l.at) (omega arith) (omega arith) (fits (goal.at.loop-i-preserved c).After-cell_of-first) c.add_volumes.new.grains c.add_volumes.ensures in (
      omega (arith, l.invariant.0, count-more d.engagements.now l.i (omega arith), ap (λ (e : Engagement). e.count) c.engagement_at-e.ensures),
      ap length v ∙ added-length l.grains first _ own ∙ l.invariant.1,
      v ∙ turn-is (parts d.delivered d.parts) s.role.kind s.role.receiver s.series l.i l.at c.rows_of-own.result c.cell_of-first.result c.args.grains.now l.grains c.engagement_at-e.result (omega arith) c.engagement_at-e.ensures c.rows_of-own.ensures c.cell_of-first.ensures l.invariant.0 c.requires.0 l.invariant.2,
    )

pub returns : goal.returns
returns c =
    let d = c.args.self.now in
    let s = c.args.s in
    c.loop-i.invariant.2 ∙ by-cong _ _ (month_quarters d.c.calendar) c.args.grains.now (λ q _ _. grains-all (parts d.delivered d.parts) s.role.kind s.role.receiver s.series c.loop-i.i (omega arith) q)
