-- The rows filled are those of the engagement, so that their second numbers are its delivered volumes.
use mathlib.Core.Path.{◌≡◌, sym, ap, ◌∙◌}
use mathlib.Core.List.{List, map}
use Prim.Native.Nat.{ℕ, ◌+◌, ◌-◌, ◌*◌, ◌≤◌, ◌<◌}
use lib.IntN.{pos}
use lib.ListN.{length, take, drop, replicate, length-replicate, length-drop}
use lib.Seq.{sets, length-take-le}
use native.Mathlib.Omega.{arith}
use borrow.Author.Rules.{rules}
use borrow.Rule.Slice.PartMut.{put_mid, mid_of}
use Rattle.integers.specs.Ranges.{range}
use Rattle.integers.proofs.ZLaws.{up, dn}
use Rattle.book.specs.declared.Engagement.{Engagement}
use Rattle.book.specs.Engagements.{engagement_at}
use Rattle.volumes.specs.Settlement.{row_width}
use Rattle.settlement.specs.SectionsInner.{book_with}
use Rattle.settlement.proofs.PartWritesLaws.{part-written}
use Rattle.settlement.specs.DrawnLaws.{engagement-placed}
use Rattle.series.specs.VolumesInner.{volume_in, volumes_of}
use Rattle.series.specs.VolumesLaws.{volume-is, volumes-are, volumes-each}
use Rattle.quarters.specs.QuartersInner.{longest_day}
use Rattle.series.proofs.delivered.fill_engagement.Goals as goal

pub settle_engagement_at-requires : goal.settle_engagement_at-requires
settle_engagement_at-requires c =
    (c.requires.0, c.requires.1, omega (arith, (engagement-placed c.args.opened.now.opened c.args.i c.requires.0).few))

pub overflow_add-at : goal.overflow_add-at
overflow_add-at c =
    let h : c.args.at + c.engagement-n.result.count ≤ length c.args.volumes.now = omega (arith, ap (λ (e : Engagement). e.count) c.engagement-n.ensures, c.requires.2) in
    search rules

pub offset_bounds-volumes-at : goal.offset_bounds-volumes-at
offset_bounds-volumes-at c =
    let h : c.args.at ≤ length c.args.volumes.now = omega (arith, c.requires.2) in
    search rules

pub slice_bounds-store_volumes-end : goal.slice_bounds-store_volumes-end
slice_bounds-store_volumes-end c = omega (arith, ap (λ (e : Engagement). e.count) c.engagement-n.ensures, c.requires.2)

pub store_volumes-requires : goal.store_volumes-requires
store_volumes-requires c =
    let a = c.args in
    let n = c.engagement-n.result.count in
    let count = ap (λ (e : Engagement). e.count) c.engagement-n.ensures in
    let e = engagement_at a.opened.now.engagements.now a.i in
    let book = book_with a.opened.now.book.now a.opened.now.engagements.now in
    let none = replicate (row_width * longest_day) (pos 0) in
    let long = length-replicate (row_width * longest_day) (pos 0) in
    let room : row_width * e.count ≤ length none = omega (arith, (engagement-placed a.opened.now.opened a.i c.requires.0).few, long) in
    let part : length (mid_of a.at (a.at + n - a.at) a.volumes.now) ≡ n = length-take-le (a.at + n - a.at) (drop a.at a.volumes.now) (omega (arith, length-drop a.at a.volumes.now, count, c.requires.2)) ∙ omega arith in
    (omega (arith, count, room, part, c.settle_engagement_at.auto.out, long), λ k h. ap dn (volume-is book e none c.settle_engagement_at.new.out c.settle_engagement_at.ensures.1 room k (omega (arith, h, part, count))))

pub returns : goal.returns
returns c =
    let a = c.args in
    let n = c.engagement-n.result.count in
    let count = ap (λ (e : Engagement). e.count) c.engagement-n.ensures in
    let e = engagement_at a.opened.now.engagements.now a.i in
    let book = book_with a.opened.now.book.now a.opened.now.engagements.now in
    let none = replicate (row_width * longest_day) (pos 0) in
    let long = length-replicate (row_width * longest_day) (pos 0) in
    let room : row_width * e.count ≤ length none = omega (arith, (engagement-placed a.opened.now.opened a.i c.requires.0).few, long) in
    let part : length (mid_of a.at (a.at + n - a.at) a.volumes.now) ≡ n = length-take-le (a.at + n - a.at) (drop a.at a.volumes.now) (omega (arith, length-drop a.at a.volumes.now, count, c.requires.2)) ∙ omega arith in
    let rows = c.settle_engagement_at.new.out in
    let stored : c.store_volumes.new.volumes ≡ volumes_of book e =
    c.store_volumes.ensures
    ∙ ap (λ (k : ℕ). map (λ j. up (volume_in rows j)) (range 0 k)) (part ∙ count)
    ∙ volumes-are book e none rows c.settle_engagement_at.ensures.1 room in
    let filled : length c.store_volumes.new.volumes ≡ n = ap length stored ∙ volumes-each book e ∙ omega (arith, count) in (
      ap (λ (k : ℕ). a.at + k) count,
      part-written a.at (a.at + n - a.at) a.volumes.now c.store_volumes.new.volumes (omega arith) (omega (arith, count, c.requires.2))
          ∙ ap (sets a.volumes.now a.at) stored,
    )
