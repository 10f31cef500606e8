-- The first places hold the baselines, the others are as they were.
use Rattle.std.proofs.Common.{◌≡◌, sym, ◌∙◌, length, take, replicate, rules, length-take-le}
use Rattle.std.proofs.lemmas.List.{length-replicate}
use Rattle.baseline.specs.FilledLaws.{levels-filled, flat-levels}
use Rattle.baseline.proofs.case.Case.fill_levels.Goals as goal

pub returns-else-looks_back : goal.returns-else-looks_back
returns-else-looks_back c =
    let n = c.args.self.now.shown.e.count in
    let level = c.last_level.result in
    let long = length-take-le n c.args.levels.now c.requires.1 in
    let filled : c.fill.new.self ≡ replicate (length (take n c.args.levels.now)) level = search rules in
    rw (filled, long) (levels-filled c.args.levels.now (replicate n level) (length-replicate n level) (flat-levels level (sym c.looks_back.ensures ∙ c.if-looks_back.false) c.last_level.ensures))
