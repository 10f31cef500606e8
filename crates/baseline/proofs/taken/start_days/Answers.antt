-- One key more has become a start.
use Rattle.std.proofs.Common.{◌≡◌, ℕ, ◌%◌, ◌<◌, ap, ◌∙◌, set, get_or, length, arith}
use Rattle.std.proofs.lemmas.List.{get_or_default}
use Rattle.std.proofs.lemmas.List.Edits.{map_over_more}
use Rattle.quarters.specs.Quarters.{day_start}
use Rattle.baseline.proofs.taken.start_days.Goals as goal

pub loop-key-preserved : goal.loop-key-preserved
loop-key-preserved c =
    let i = c.loop-key.key-index in
    let keys = c.loop-key.key-items in
    let here : i < length keys = omega (arith, c.loop-key.auto.key-items, c.loop-key-test.true) in
    let start : c.day_start.result ≡ day_start c.args.c (get_or keys i 0 % 64) = c.day_start.ensures in
    ap (set keys i) start ∙ map_over_more (λ (k : ℕ). day_start c.args.c (k % 64)) c.args.keys.now keys i (get_or keys i 0) c.loop-key-test.true c.loop-key.invariant (get_or_default keys i 0 _ here)
