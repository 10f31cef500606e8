-- The loop's invariant, turn by turn; the month that was seen goes as its two numbers.
use Rattle.std.specs.Prelude.{ℕ, suc, ◌+◌, ◌*◌}
use Rattle.std.proofs.Common.{sym, ap, ◌∙◌, arith}
use Rattle.formats.specs.Rising.{rising_parse}
use Rattle.message.specs.Reading.{series_list_parse}
use Rattle.passages.specs.ViewsInner.{year_and_month}
use Rattle.series_reader.specs.RowsInner.{rows_of_all}
use Rattle.series_reader.proofs.SeriesLaws.{month-last}
use Rattle.series_reader.proofs.FillingLaws.{filled-same, filled-stays, as-it-is}
use Rattle.series_reader.proofs.TurnsLaws.{turned-first, turned-more, turned-none, turned-all}
use Rattle.series_reader.proofs.series.series_list.Goals as goal

pub loop-i-init : goal.loop-i-init
loop-i-init c = turned-first _ _ _ _

pub returns-in_err-s-clause-filled : goal.returns-in_err-s-clause-filled
unfolding series_list_parse rising_parse rows_of_all
returns-in_err-s-clause-filled c = rw c.from_residual.ensures (filled-stays (filled-same (as-it-is _) (turned-none c.loop-i.invariant (omega arith) (rw c.numbers.ensures at c.in_err-s.ensures))))

pub loop-i-preserved : goal.loop-i-preserved
loop-i-preserved c =
    turned-more c.loop-i.invariant _ (omega arith)
    (λ s e. ap (λ (o : (ℕ × ℕ) × (ℕ × ℕ)). (suc (o.0.0 * 2 + o.0.1), o.1)) e ∙ ap (λ (k : ℕ). (suc k, year_and_month c.in_ok-s.s.month)) (sym c.place.ensures)) (rw c.numbers.ensures at c.in_ok-s.ensures)

pub returns-clause-filled : goal.returns-clause-filled
unfolding series_list_parse rising_parse rows_of_all
returns-clause-filled c = filled-same (as-it-is _) (turned-all c.loop-i.invariant (omega arith) (λ l e. month-last _ _ l e))
