-- The volumes of the engagements passed are stored, one behind the other; the rest is as it was.
use mathlib.Core.Path.{◌≡◌, sym, ap, ◌∙◌}
use mathlib.Core.List.{List}
use Prim.Native.Nat.{ℕ, ◌+◌, ◌*◌, ◌≤◌}
use lib.ListN.{length}
use lib.Seq.{sets, length-sets}
use native.Mathlib.Omega.{arith}
use borrow.Author.Rules.{rules}
use Rattle.book.specs.Engagements.{engagement_at}
use Rattle.settlement.specs.SectionsInner.{book_with}
use Rattle.settlement.specs.SectionsLaws.{count-with}
use Rattle.settlement.specs.PartsLaws.{row_count_to, count_none, count-more, count_most, parts_to, parts_none, parts_more}
use Rattle.settlement.specs.SettlingLaws.{not-refused}
use Rattle.series.specs.VolumesInner.{volumes_of}
use Rattle.series.specs.VolumesLaws.{volumes-each, volumes-all}
use Rattle.series.proofs.delivered.fill_engagements.Goals as goal

pub loop-i-init : goal.loop-i-init
loop-i-init c = (omega (arith, count_none c.args.opened.now.engagements.now), sym (parts_none _ _ _))

pub fill_engagement-at-requires : goal.fill_engagement-at-requires
fill_engagement-at-requires c =
    let room : let l = c.loop-i in
    l.at + (engagement_at c.args.opened.now.engagements.now l.i).count ≤ length l.volumes = let l = c.loop-i in
    let a = c.args in
    let engagements = a.opened.now.engagements.now in
    let same = ap length l.invariant.1 ∙ length-sets a.volumes.now 0 (parts_to (volumes_of (book_with a.opened.now.book.now engagements)) engagements l.i) in
    omega (arith, same, l.invariant.0, count-more engagements l.i (search rules), count_most engagements (l.i + 1), count-with a.opened.now.book.now engagements, c.requires.1) in
    (search rules, not-refused c.args.opened.now.opened c.requires.0 c.loop-i.i (search rules), room)

pub loop-i-preserved : goal.loop-i-preserved
loop-i-preserved c =
    let l = c.loop-i in
    let a = c.args in
    let book = book_with a.opened.now.book.now a.opened.now.engagements.now in
    let r = c.fill_engagement-at.ensures in
    let place : l.at ≡ 1 * row_count_to a.opened.now.engagements.now l.i = omega (arith, l.invariant.0) in (
      omega (arith, r.0, l.invariant.0, count-more a.opened.now.engagements.now l.i (search rules)),
      r.1
          ∙ ap (λ (o : List ℕ). sets o l.at (volumes_of book (engagement_at a.opened.now.engagements.now l.i))) l.invariant.1
          ∙ parts_more (volumes_of book) a.opened.now.engagements.now 1 (volumes-each book) a.volumes.now l.at l.i (search rules) place,
    )

pub returns : goal.returns
returns c =
    let l = c.loop-i in
    l.invariant.1 ∙ ap (sets c.args.volumes.now 0) (volumes-all _ _ l.i (search rules))
