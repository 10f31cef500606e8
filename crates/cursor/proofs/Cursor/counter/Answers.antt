-- A counter is a number that isn't 0.
use Rattle.std.specs.Prelude.{ℕ, ltb, Some, None}
use Rattle.std.proofs.Common.{refl, ap, arith}
use Rattle.std.proofs.lemmas.Bool.{lt-ltb}
use Rattle.formats.specs.Format.{Res, got, bind, pick}
use Rattle.formats.specs.Combine.{only_parse}
use Rattle.formats.specs.Numbers.{number_parse}
use Rattle.cursor.specs.ReadsInner.{Reads}
use Rattle.cursor.proofs.ReadsLaws.{reads-only, reads-only-stop}
use Rattle.cursor.proofs.Cursor.counter.Goals as goal

pub returns-in_err-found-clause-reads : goal.returns-in_err-found-clause-reads
returns-in_err-found-clause-reads c =
    let h : Reads (number_parse 60 18446744073709551615) c.args.self.now c.args.self.now None = record { text = refl; found = c.in_err-found.ensures } in
    rw c.from_residual.ensures (reads-only-stop _ h)

pub returns-then-found-eq0-clause-reads : goal.returns-then-found-eq0-clause-reads
unfolding only_parse
returns-then-found-eq0-clause-reads c =
    let e = ap (λ (x : Res ℕ). bind x (λ v q. pick (ltb 0 v) (got v q))) c.in_ok-found.ensures.0 in
    record { text = refl; found = rw c.if-found-eq0.true at e }

pub returns-clause-reads : goal.returns-clause-reads
returns-clause-reads c =
    let p = c.pass.ensures in
    let h : Reads (number_parse 60 18446744073709551615) c.args.self.now c.pass.new.self (Some c.pass.result) = record { text = rw p.text refl; found = rw (p.at, p.text, p.value) c.in_ok-found.ensures.0 } in
    reads-only _ h (rw (p.value, lt-ltb 0 c.in_ok-found.found.value (omega arith)) refl)
