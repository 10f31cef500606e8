-- The series is read, and its month and its place are held against those before it.
use Rattle.std.specs.Prelude.{ℕ, leb, ◌+◌, ◌*◌}
use Rattle.std.proofs.Common.{sym, ap, ◌∙◌}
use Rattle.cursor.proofs.ReadsLaws.{reads-only, reads-fail, reads-only-stop}
use Rattle.message.specs.Months.{follows}
use Rattle.series_reader.specs.ViewsInner.{low_of}
use Rattle.series_reader.proofs.FillingLaws.{filled-got, filled-none, got-filled, none-filled}
use Rattle.series_reader.proofs.series.next_series.Goals as goal

pub returns-in_err-s : goal.returns-in_err-s
returns-in_err-s c = let h = c.in_err-s.ensures.filled in rw c.from_residual.ensures (none-filled (reads-only-stop _ (reads-only-stop _ (filled-none h))) h.lent)

pub returns-then-not-follows : goal.returns-then-not-follows
returns-then-not-follows c =
    let g = filled-got c.in_ok-s.ensures.filled in
    let e = ap (λ (o : (ℕ × ℕ) × (ℕ × ℕ)). follows c.args.seen o.1) g.is ∙ sym c.follows.ensures ∙ c.if-not-follows.true in
    none-filled (reads-only-stop _ (reads-fail _ g.read e)) g.lent

pub returns-then-not-rises : goal.returns-then-not-rises
returns-then-not-rises c =
    let g = filled-got c.in_ok-s.ensures.filled in
    let e = ap (λ (o : (ℕ × ℕ) × (ℕ × ℕ)). follows c.args.seen o.1) g.is ∙ sym c.follows.ensures ∙ c.if-not-follows.false in
    let f = ap (λ (o : (ℕ × ℕ) × (ℕ × ℕ)). leb (low_of c.args.behind) (o.0.0 * 2 + o.0.1)) g.is ∙ ap (leb (low_of c.args.behind)) (sym c.place.ensures) ∙ sym c.rises.ensures ∙ c.if-not-rises.true in
    none-filled (reads-fail _ (reads-only _ g.read e) f) g.lent

pub returns : goal.returns
returns c =
    let g = filled-got c.in_ok-s.ensures.filled in
    let e = ap (λ (o : (ℕ × ℕ) × (ℕ × ℕ)). follows c.args.seen o.1) g.is ∙ sym c.follows.ensures ∙ c.if-not-follows.false in
    let f = ap (λ (o : (ℕ × ℕ) × (ℕ × ℕ)). leb (low_of c.args.behind) (o.0.0 * 2 + o.0.1)) g.is ∙ ap (leb (low_of c.args.behind)) (sym c.place.ensures) ∙ sym c.rises.ensures ∙ c.if-not-rises.false in
    got-filled (reads-only _ (reads-only _ g.read e) f) g.is g.rows g.lent
