-- Engagements passed lack nothing: the book's refusal is the first from the present one on.
use mathlib.Core.Path.{◌≡◌}
use Rattle.volumes.specs.Settlement.{settlement_refusal}
use Rattle.volumes.proofs.SettlementLaws.{refusal_at}
use Rattle.settlement.specs.OpenedInner.{book_in}
use Rattle.settlement.proofs.opened.OpenBook.judge.Given as goal

abbrev pub invariant-loop-i : goal.invariant-loop-i
invariant-loop-i l = settlement_refusal (book_in l.self) ≡ refusal_at (book_in l.self) l.i
