-- The loop's invariant, turn by turn.
use Rattle.std.specs.Prelude.{ℕ, suc}
use Rattle.std.proofs.Common.{ap, arith}
use Rattle.formats.specs.Rising.{rising_parse}
use Rattle.message.specs.Reading.{partners_parse}
use Rattle.reader.specs.PartnersInner.{rows_of_partners}
use Rattle.reader.proofs.PartnersLaws.{month-last}
use Rattle.series_reader.proofs.FillingLaws.{filled-stays}
use Rattle.series_reader.proofs.TurnsLaws.{turned-first, turned-more, turned-none, turned-all}
use Rattle.reader.proofs.partners.partners.Goals as goal

pub loop-i-init : goal.loop-i-init
loop-i-init c = turned-first _ _ _ _

pub returns-in_err-p-clause-filled : goal.returns-in_err-p-clause-filled
unfolding partners_parse rising_parse rows_of_partners
returns-in_err-p-clause-filled c = rw c.from_residual.ensures (filled-stays (turned-none c.loop-i.invariant (omega arith) c.in_err-p.ensures))

pub loop-i-preserved : goal.loop-i-preserved
loop-i-preserved c = turned-more c.loop-i.invariant _ (omega arith) (λ p e. ap (λ (k : ℕ × (ℕ × ℕ)). (suc k.0, k.1)) e) c.in_ok-p.ensures

pub returns-clause-filled : goal.returns-clause-filled
unfolding partners_parse rising_parse rows_of_partners
returns-clause-filled c = turned-all c.loop-i.invariant (omega arith) (λ l e. month-last _ l e)
