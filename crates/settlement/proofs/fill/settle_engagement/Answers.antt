-- The rows are those of the raised baselines and of the engagement's own readings.
use mathlib.Core.Path.{sym, ap, ◌∙◌}
use lib.Seq.{sets}
use Rattle.volumes.specs.Quarters.{start}
use Rattle.baseline.specs.ShownLaws.{stands}
use Rattle.settlement.specs.RowsInner.{rows_from}
use Rattle.settlement.specs.FillLaws.{own-whole, rows_are}
use native.Mathlib.Omega.{arith}
use Rattle.settlement.proofs.fill.settle_engagement.Goals as goal

pub fill_levels-requires : goal.fill_levels-requires
fill_levels-requires c =
    let a = c.requires.0 in
    (a, (stands c.args.case.now.shown c.args.case.now.calendar.now c.args.case.now.readings.now a.fits).many)

pub write_rows-requires : goal.write_rows-requires
write_rows-requires c =
    let a = c.requires.0 in
    let m = stands c.args.case.now.shown c.args.case.now.calendar.now c.args.case.now.readings.now a.fits in
    let f = c.fill_levels in
    (c.requires.1, omega (arith, m.many, f.auto.levels), record { each = λ k h. omega (arith, f.ensures.small k h) }, omega (arith, m.roomy, m.inside, c.start.ensures), rw c.start.ensures (own-whole a.settled))

pub returns : goal.returns
returns c = λ b same settled.
    let s = c.args.case.now.shown in
    let levels = c.fill_levels.new.levels in
    c.write_rows.ensures
    ∙ ap (λ n. sets c.args.out.now 0 (rows_from c.args.version s.e s.point levels c.args.case.now.readings.now n)) c.start.ensures
    ∙ ap (λ v. sets c.args.out.now 0 (rows_from v s.e s.point levels c.args.case.now.readings.now (start s.c s.e))) (sym same)
    ∙ ap (sets c.args.out.now 0) (rows_are settled levels c.fill_levels.ensures)
