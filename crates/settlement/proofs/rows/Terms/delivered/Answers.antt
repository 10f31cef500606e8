-- The reading in grains has the baseline's bias, so that what one is above the other has none.
use native.Mathlib.Omega.{arith}
use mathlib.Core.Path.{◌∙◌}
use Rattle.volumes.specs.Settlement.{off_take_share}
use Rattle.settlement.specs.RowsLaws.{limited-share}
use Rattle.settlement.proofs.rows.Terms.delivered.Goals as goal

pub returns : goal.returns
unfolding off_take_share
returns c = (
  rw (limited-share, ← c.largest.ensures) (c.ahead.ensures ∙ rw (c.from_watts-limit.ensures, c.reading_grains-reading.ensures) search),
  omega (arith, c.ahead.ensures, c.from_watts-limit.ensures),
)
