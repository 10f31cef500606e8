-- A turn adds volume k to cell k, which the turns before left alone.
use mathlib.Core.Path.{◌≡◌}
use lib.ListN.{get_or}
use Rattle.series.specs.SumsInner.{added}
use Rattle.series.proofs.sums.add_volumes.Given as goal

abbrev pub invariant-loop-k : goal.invariant-loop-k
invariant-loop-k l = l.grains ≡ added l.initial.grains 0 (λ j. get_or l.volumes j 0) l.k
