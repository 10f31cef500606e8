-- With its own engagements a book that passes refusals 1 to 7 is sound, and their days are those gathered in masks of no day.
use mathlib.Core.Path.{◌≡◌, ap, ◌∙◌, subst}
use mathlib.Core.List.{List}
use Prim.Native.Nat.{ℕ}
use native.Mathlib.Omega.{arith}
use borrow.Author.Rules.{rules}
use lib.ListN.{length, replicate}
use Rattle.settlement.specs.SectionsInner.{Opened}
use Rattle.settlement.specs.SectionsLaws.{bytes-headed, bytes-long, same-book, opened}
use Rattle.settlement.specs.DaysLaws.{gatherable, gathered}
use Rattle.settlement.specs.DaysInner.{Gathers}
use Rattle.settlement.proofs.opened.OpenBook.of.Goals as goal

pub gather_days-requires : goal.gather_days-requires
gather_days-requires c =
    let long : length c.fill.new.self ≡ 256 = omega arith in
    rw (c.section-engagements.ensures, long) (gatherable (opened c.args.book.now c.requires))

pub version_of-requires : goal.version_of-requires
version_of-requires c = bytes-long c.args.book.now c.requires

pub calendar_of-requires : goal.calendar_of-requires
calendar_of-requires c = bytes-headed c.args.book.now c.requires

pub invariant_of-result : goal.invariant_of-result
invariant_of-result c =
    let own : Opened c.args.book.now c.section-engagements.result.now = rw c.section-engagements.ensures (opened c.args.book.now c.requires) in
    let long : length c.args.engaged.now ≡ 256 = omega arith in
    let cleared : c.fill.new.self ≡ replicate (length c.args.engaged.now) 0 = search rules in
    let none_set : c.fill.new.self ≡ replicate 256 0 = cleared ∙ ap (λ (n : ℕ). replicate n 0) long in
    let masks = c.gather_days.new.engaged in
    record {
      opened = own;
      spread =
          record {
            version = c.version_of.ensures;
            when = c.calendar_of.ensures;
            calendar = c.section.ensures;
            table = c.section-2.ensures;
            register = c.section-3.ensures;
            readings = c.section-4.ensures;
          };
      gathered = gathered _ masks (omega arith) (subst (λ (l : List ℕ). Gathers c.section-engagements.result.now l masks) none_set c.gather_days.ensures);
    }

pub returns-clause-whole : goal.returns-clause-whole
returns-clause-whole c = rw c.section-engagements.ensures (same-book c.args.book.now c.requires)
