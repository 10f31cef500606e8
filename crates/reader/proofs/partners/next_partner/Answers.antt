-- The partner is read, and its number is held against those before it.
use Rattle.std.specs.Prelude.{ℕ, leb}
use Rattle.std.proofs.Common.{sym, ap, ◌∙◌}
use Rattle.cursor.proofs.ReadsLaws.{reads-only, reads-fail, reads-only-stop}
use Rattle.series_reader.specs.ViewsInner.{low_of}
use Rattle.series_reader.proofs.FillingLaws.{filled-got, filled-none, got-filled, none-filled}
use Rattle.reader.proofs.partners.next_partner.Goals as goal

pub returns-in_err-p : goal.returns-in_err-p
returns-in_err-p c = let h = c.in_err-p.ensures.filled in rw c.from_residual.ensures (none-filled (reads-only-stop _ (filled-none h)) h.lent)

pub returns-then-not-rises : goal.returns-then-not-rises
returns-then-not-rises c =
    let g = filled-got c.in_ok-p.ensures.filled in
    let e = ap (λ (k : ℕ × (ℕ × ℕ)). leb (low_of c.args.behind) k.0) g.is ∙ sym c.rises.ensures ∙ c.if-not-rises.true in
    none-filled (reads-fail _ g.read e) g.lent

pub returns : goal.returns
returns c =
    let g = filled-got c.in_ok-p.ensures.filled in
    let e = ap (λ (k : ℕ × (ℕ × ℕ)). leb (low_of c.args.behind) k.0) g.is ∙ sym c.rises.ensures ∙ c.if-not-rises.false in
    got-filled (reads-only _ g.read e) g.is g.rows g.lent
