-- The word says what its bytes from byte-index on say behind the value.
use Rattle.std.proofs.Common.{rules, sym, ◌∙◌}
use Rattle.cases.proofs.WordsLaws.{number_stops, number_goes_on, number_end}
use Rattle.cases.proofs.words.number.Goals as goal

pub returns-in_err-value : goal.returns-in_err-value
returns-in_err-value c =
    let l = c.loop-byte in
    c.from_residual.ensures ∙ sym (l.invariant.says ∙ number_stops c.args.word.now l.byte-index l.value (search rules) (sym c.in_err-value.ensures))

pub loop-byte-preserved : goal.loop-byte-preserved
loop-byte-preserved c =
    let l = c.loop-byte in
    record { fits = search rules; says = l.invariant.says ∙ number_goes_on c.args.word.now l.byte-index l.value c.in_ok-value.value (search rules) (sym c.in_ok-value.ensures) }

pub returns : goal.returns
returns c =
    let l = c.loop-byte in
    sym (l.invariant.says ∙ number_end c.args.word.now l.byte-index l.value (search rules) (search rules))
