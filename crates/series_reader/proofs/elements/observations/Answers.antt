-- The loop's invariant, turn by turn.
use Rattle.std.specs.Prelude.{ℕ, suc}
use Rattle.std.proofs.Common.{arith, ap, refl}
use Rattle.formats.specs.Rising.{rising_parse}
use Rattle.message.specs.Reading.{observations_parse}
use Rattle.series_reader.specs.RowsInner.{rows_of_observations}
use Rattle.series_reader.proofs.FillingLaws.{filled-stays}
use Rattle.series_reader.proofs.TurnsLaws.{turned-first, turned-more, turned-none, turned-all}
use Rattle.series_reader.proofs.elements.observations.Goals as goal

pub loop-i-init : goal.loop-i-init
loop-i-init c = turned-first _ _ _ _

pub returns-in_err-behind-clause-filled : goal.returns-in_err-behind-clause-filled
unfolding observations_parse rising_parse rows_of_observations
returns-in_err-behind-clause-filled c = rw c.from_residual.ensures (filled-stays (turned-none c.loop-i.invariant (omega arith) c.in_err-behind.ensures))

pub loop-i-preserved : goal.loop-i-preserved
loop-i-preserved c = turned-more c.loop-i.invariant _ (omega arith) (λ a e. ap (λ (k : ℕ). (suc k, tt)) e) c.in_ok-behind.ensures

pub returns-clause-filled : goal.returns-clause-filled
unfolding observations_parse rising_parse rows_of_observations
returns-clause-filled c = turned-all c.loop-i.invariant (omega arith) (λ l e. refl)
