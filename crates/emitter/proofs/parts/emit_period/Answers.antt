-- Its two moments and its resolution.
use Rattle.std.proofs.Common.{refl, ap, ◌∙◌}
use Rattle.text.specs.Ascii.{bytes}
use Rattle.message.specs.Bytes.{opening, ending, closing}
use Rattle.moments.specs.Moments.{moment_bytes}
use Rattle.emitter.proofs.Laying.{and_then, stops, laid_as}
use Rattle.emitter.proofs.PartsLaws.{an_element, period-parts}
use Rattle.emitter.proofs.parts.emit_period.Goals as goal

pub returns-in_err-emit_element : goal.returns-in_err-emit_element
unfolding opening ending closing bytes
returns-in_err-emit_element g c =
    let e = g.met.S.Sink.laws in
    let start = c.moment_text-start.ensures ∙ ap moment_bytes c.period_start.ensures in
    laid_as e (period-parts c.args.title.year c.args.title.month) (stops e _ (an_element e "PeriodStart" refl start c.in_err-emit_element.ensures) c.from_residual.ensures)

pub returns-in_err-emit_element-2 : goal.returns-in_err-emit_element-2
unfolding opening ending closing bytes
returns-in_err-emit_element-2 g c =
    let e = g.met.S.Sink.laws in
    let start = c.moment_text-start.ensures ∙ ap moment_bytes c.period_start.ensures in
    let end = c.moment_text-end.ensures ∙ ap moment_bytes c.period_end.ensures in
    laid_as e (period-parts c.args.title.year c.args.title.month)
    (and_then e (an_element e "PeriodStart" refl start c.in_ok-emit_element.ensures) (stops e _ (an_element e "PeriodEnd" refl end c.in_err-emit_element-2.ensures) c.from_residual-in_err-emit_element-2.ensures))

pub returns : goal.returns
unfolding opening ending closing bytes
returns g c =
    let e = g.met.S.Sink.laws in
    let start = c.moment_text-start.ensures ∙ ap moment_bytes c.period_start.ensures in
    let end = c.moment_text-end.ensures ∙ ap moment_bytes c.period_end.ensures in
    laid_as e (period-parts c.args.title.year c.args.title.month)
    (and_then e (an_element e "PeriodStart" refl start c.in_ok-emit_element.ensures) (and_then e (an_element e "PeriodEnd" refl end c.in_ok-emit_element-2.ensures) c.lay.ensures))
