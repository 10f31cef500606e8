-- As many of its last digits as it has.
use Rattle.std.proofs.Common.{sym, ap, ◌∙◌, ℕ}
use Rattle.text.specs.Decimal.{fixed}
use Rattle.text.proofs.DecimalLaws.{plain-fixed}
use Rattle.emitter.specs.PartsInner.{element_of}
use Rattle.emitter.proofs.Laying.{laid_as}
use Rattle.emitter.proofs.parts.emit_plain.Goals as goal

pub returns : goal.returns
returns g c =
    let a = c.args in
    laid_as g.met.S.Sink.laws (ap (λ (n : ℕ). element_of a.name.now (fixed n a.v)) c.width.ensures ∙ ap (element_of a.name.now) (sym (plain-fixed a.v))) c.emit_fixed.ensures
