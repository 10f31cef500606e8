-- Its parts, one by one; the names are the kind's.
use Rattle.std.proofs.Common.{refl, ap, ℕ}
use Rattle.text.specs.Ascii.{bytes}
use Rattle.text.specs.Decimal.{fixed}
use Rattle.message.specs.Bytes.{group, partner}
use Rattle.emitter.specs.PartsInner.{partner_head}
use Rattle.emitter.proofs.Laying.{and_then, stops}
use Rattle.emitter.proofs.PartsLaws.{an_opening, an_element}
use Rattle.emitter.proofs.parts.emit_partner_head.Goals as goal

pub returns-in_err-open : goal.returns-in_err-open
unfolding bytes partner_head
returns-in_err-open g c = let e = g.met.S.Sink.laws in stops e _ (an_opening e (group c.args.kind) c.group.ensures c.in_err-open.ensures) c.from_residual.ensures

pub returns-in_err-emit_fixed : goal.returns-in_err-emit_fixed
unfolding bytes partner_head
returns-in_err-emit_fixed g c = let e = g.met.S.Sink.laws in and_then e (an_opening e (group c.args.kind) c.group.ensures c.in_ok-open.ensures) (stops e _ (an_element e (partner c.args.kind) c.partner.ensures (ap (λ (n : ℕ). fixed n c.args.number) c.digits.ensures) c.in_err-emit_fixed.ensures) c.from_residual-in_err-emit_fixed.ensures)

pub returns-in_err-emit_partner_supply : goal.returns-in_err-emit_partner_supply
unfolding bytes partner_head
returns-in_err-emit_partner_supply g c = let e = g.met.S.Sink.laws in and_then e (an_opening e (group c.args.kind) c.group.ensures c.in_ok-open.ensures) (and_then e (an_element e (partner c.args.kind) c.partner.ensures (ap (λ (n : ℕ). fixed n c.args.number) c.digits.ensures) c.in_ok-emit_fixed.ensures) (stops e _ c.in_err-emit_partner_supply.ensures c.from_residual-in_err-emit_partner_supply.ensures))

pub returns : goal.returns
unfolding bytes partner_head
returns g c = let e = g.met.S.Sink.laws in and_then e (an_opening e (group c.args.kind) c.group.ensures c.in_ok-open.ensures) (and_then e (an_element e (partner c.args.kind) c.partner.ensures (ap (λ (n : ℕ). fixed n c.args.number) c.digits.ensures) c.in_ok-emit_fixed.ensures) (and_then e c.in_ok-emit_partner_supply.ensures (an_element e "DirectionCounter" refl refl c.emit_plain.ensures)))
