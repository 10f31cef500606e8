-- Method 0 looks at no days. What was ranked are the latest eligible days, as many as there are and y at most.
use Rattle.std.proofs.Common.{sym, ◌∙◌, arith, length-take-le}
use Rattle.baseline.specs.RanksLaws.{key-count}
use Rattle.baseline.specs.NeedsLaws.{days-found}
use Rattle.baseline.proofs.case.Case.too_few.Goals as goal

pub returns : goal.returns
returns c = λ b shows.
    let found = c.fill_ranking.new.ranking in
    days-found _ b _ _ _ (sym c.looks_back.ensures ∙ c.if-not-looks_back.false) shows.wants (sym (key-count (c.fill_ranking.ensures.ranked b shows)) ∙ length-take-le found.found found.keys (omega (arith, c.fill_ranking.ensures.few, c.fill_ranking.ensures.room, c.args.self.now.fits.x_of_y.twenty)))
