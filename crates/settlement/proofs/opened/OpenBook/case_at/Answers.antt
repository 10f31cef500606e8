-- What is shown of the engagement is the book's, and so are the readings of its point, which stand behind those of the points before it.
use mathlib.Core.Path.{◌≡◌, ap, ap₂, ◌∙◌}
use mathlib.Core.List.{List}
use native.Mathlib.Omega.{arith}
use Prim.Native.Nat.{ℕ, ◌*◌, ◌<◌, ◌≤◌}
use lib.ListN.{length}
use Rattle.book.specs.declared.Engagement.{Engagement}
use Rattle.book.specs.Header.{calendar_of, reading_section}
use Rattle.book.specs.Engagements.{engagement_at}
use Rattle.quarters.specs.declared.Calendar.{Calendar}
use Rattle.quarters.specs.Quarters.{origin_of}
use Rattle.quarters.proofs.QuartersLaws.{origin-few}
use Rattle.baseline.specs.declared.shown.Shown.{Shown}
use Rattle.std.proofs.lemmas.Slice.{between_to_end}
use Rattle.settlement.specs.SectionsInner.{engagement_count_in, shown_in, Opened}
use Rattle.settlement.specs.DrawnLaws.{drawn, readings-start, engagement-placed}
use Rattle.settlement.proofs.opened.OpenBook.case_at.Goals as goal

-- the engagement that is shown
own : (bytes engagements masks : List ℕ) (i : ℕ) {shown : Shown} → shown ≡ shown_in bytes engagements masks i → shown.e ≡ engagement_at engagements i
unfolding shown_in
own bytes engagements masks i e = ap (λ (s : Shown). s.e) e

-- where its point's readings start
start_is : (bytes engagements masks : List ℕ) (i : ℕ) {shown : Shown} {c : Calendar} {origin : ℕ} → shown ≡ shown_in bytes engagements masks i → c ≡ calendar_of bytes → origin ≡ origin_of c shown.e.point → origin ≡ origin_of (calendar_of bytes) (engagement_at engagements i).point
start_is bytes engagements masks i e f g = g ∙ ap₂ (λ (c : Calendar) (e : Engagement). origin_of c e.point) f (own bytes engagements masks i e)

inside : {bytes engagements readings : List ℕ} {origin : ℕ} → Opened bytes engagements → (i : ℕ) → i < engagement_count_in engagements → origin ≡ origin_of (calendar_of bytes) (engagement_at engagements i).point → readings ≡ reading_section bytes → 4 * origin ≤ length readings
inside s i h e f = rw (e, f) (readings-start s i h)

pub origin_of-first-requires : goal.origin_of-first-requires
origin_of-first-requires c =
    let o = c.args.self.now in
    rw (own _ _ _ _ c.shown_at-shown.ensures) (engagement-placed o.opened c.args.i c.requires).point

pub overflow_mul-first : goal.overflow_mul-first
overflow_mul-first c =
    let few : c.shown_at-shown.result.e.point < 256 = rw (own _ _ _ _ c.shown_at-shown.ensures) (engagement-placed c.args.self.now.opened c.args.i c.requires).point in
    record { fits = omega (arith, c.origin_of-first.ensures, origin-few c.args.self.now.c.calendar c.shown_at-shown.result.e.point c.args.self.now.c.ranged few) }

pub slice_bounds-result-count : goal.slice_bounds-result-count
slice_bounds-result-count c =
    let o = c.args.self.now in
    inside o.opened c.args.i c.requires (start_is _ _ _ _ c.shown_at-shown.ensures o.spread.when c.origin_of-first.ensures) o.spread.readings

pub slice_bounds-result-start : goal.slice_bounds-result-start
slice_bounds-result-start c =
    let o = c.args.self.now in
    inside o.opened c.args.i c.requires (start_is _ _ _ _ c.shown_at-shown.ensures o.spread.when c.origin_of-first.ensures) o.spread.readings

pub invariant_of-result : goal.invariant_of-result
invariant_of-result c =
    let o = c.args.self.now in
    let origin = start_is _ _ _ _ c.shown_at-shown.ensures o.spread.when c.origin_of-first.ensures in
    record {
      fits = rw (between_to_end o.readings.now (4 * c.origin_of-first.result) (length o.readings.now) (omega arith), c.shown_at-shown.ensures, origin, o.spread.readings, o.spread.calendar) (drawn o.opened o.gathered c.args.i c.requires).fits;
    }

pub returns : goal.returns
returns c =
    let o = c.args.self.now in
    let origin = start_is _ _ _ _ c.shown_at-shown.ensures o.spread.when c.origin_of-first.ensures in (
      rw (between_to_end o.readings.now (4 * c.origin_of-first.result) (length o.readings.now) (omega arith), c.shown_at-shown.ensures, origin, o.spread.readings, o.spread.calendar) (drawn o.opened o.gathered c.args.i c.requires).shows,
      own _ _ _ _ c.shown_at-shown.ensures,
    )
