-- The keys tell the days that are taken, so what is read there are the readings that the baselines are made of.
use Rattle.std.proofs.Common.{refl, ℕ, List, take, length, arith, get_or, length-take-le}
use Rattle.grains.specs.GrainsLaws.{shares-x}
use Rattle.wire.specs.Readings.{Reading}
use Rattle.volumes.specs.Quarters.{start}
use Rattle.baseline.specs.ShownInner.{window_in}
use Rattle.baseline.specs.ShownLaws.{stands}
use Rattle.baseline.specs.RunsLaws.{by-starts}
use Rattle.baseline.specs.FillsInner.{Raises, Added}
use Rattle.baseline.specs.FilledLaws.{took-days, lie-quarters, lie-windows, by-days}
use Rattle.baseline.proofs.case.Case.fill_days.Goals as goal

pub addend-add-requires : goal.addend-add-requires
addend-add-requires c =
    let a = c.requires.0 in
    let case = c.args.self.now in
    let ranking = c.fill_ranking.new.ranking in
    let keys = take case.shown.x ranking.keys in
    let took = took-days a.settled ranking.keys ranking.found (omega (arith, c.fill_ranking.ensures.few, c.fill_ranking.ensures.room, a.fits.x_of_y.twenty)) c.requires.1 a.fits.x_of_y.order (c.fill_ranking.ensures.ranked a.book a.settled.shows) in
    let m = stands _ _ _ a.fits in
    (λ w. rw (c.start_days.ensures, c.reference_quarter-place.ensures.is) (lie-windows a.settled keys a.fits took w), omega (arith, m.inside, m.roomy, c.start.ensures))

-- X days are taken
pub mean-requires : goal.mean-requires
mean-requires c =
    let x = c.args.self.now.shown.x in
    let few = c.requires.0.fits.x_of_y in
    let many = length-take-le x c.fill_ranking.new.ranking.keys (omega (arith, few.order, few.twenty, c.fill_ranking.ensures.room)) in
    (shares-x (length c.start_days.new.keys) (omega (arith, few.one, c.start_days.auto.keys, many)) (omega (arith, few.ten, c.start_days.auto.keys, many)), omega (arith, few.one, c.start_days.auto.keys, many))

pub fill_means-requires : goal.fill_means-requires
fill_means-requires c =
    let a = c.requires.0 in
    let case = c.args.self.now in
    let ranking = c.fill_ranking.new.ranking in
    let keys = take case.shown.x ranking.keys in
    let took = took-days a.settled ranking.keys ranking.found (omega (arith, c.fill_ranking.ensures.few, c.fill_ranking.ensures.room, a.fits.x_of_y.twenty)) c.requires.1 a.fits.x_of_y.order (c.fill_ranking.ensures.ranked a.book a.settled.shows) in
    (λ k h. rw c.start_days.ensures (lie-quarters a.settled keys a.fits took k (omega (arith, c.requires.2))), c.addend-add.ensures.small, omega (arith, c.requires.2, (stands _ _ _ a.fits).many))

pub returns : goal.returns
returns c =
    let case = c.args.self.now in
    let shown = case.shown in
    let readings = case.readings.now in
    let ranking = c.fill_ranking.new.ranking in
    let keys = take shown.x ranking.keys in
    let add = c.addend-add in
    let out = c.fill_means.new.levels in
    record {
      small = λ k h. (c.fill_means.ensures k (omega (arith, c.requires.2))).small;
      levels = λ book settled k h.
          by-days settled keys k add.result (get_or out k 0) shown.point.method refl c.requires.1
          (took-days settled ranking.keys ranking.found (omega (arith, c.fill_ranking.ensures.few, c.fill_ranking.ensures.room, case.fits.x_of_y.twenty)) c.requires.1 case.fits.x_of_y.order (c.fill_ranking.ensures.ranked book settled.shows))
          h
          (by-starts (λ (l : List Reading) (x : ℕ). Added shown.point.method (window_in readings (start shown.c shown.e)) l x add.result) readings shown.c shown.e 0 24 12 keys c.start_days.ensures (rw (c.start.ensures, c.reference_quarter-place.ensures.is) at add.ensures))
          (by-starts (λ (l : List Reading) (x : ℕ). Raises l x add.result (get_or out k 0)) readings shown.c shown.e k 0 1 keys c.start_days.ensures (c.fill_means.ensures k (omega (arith, c.requires.2))));
    }
