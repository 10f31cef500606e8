-- Refused, the sums are as they were; accepted, of a party of the register and with room, they are the sheet.
use Rattle.std.proofs.Common.{◌≡◌, sym, ap, ap₂, ◌∙◌, rules}
use mathlib.Core.List.{List}
use Prim.Native.Nat.{ℕ}
use Rattle.std.proofs.Math.Option.{none}
use Rattle.std.specs.Prelude.{Err}
use Rattle.refusals.specs.SentInner.{refusal_in}
use Rattle.book.specs.Book.{book_of}
use Rattle.book.specs.Judged.{refusal_of}
use Rattle.volumes.specs.Settlement.{book_refusal}
use Rattle.volumes.proofs.SettlementLaws.{passing}
use Rattle.volumes.specs.Sheets.{parties}
use Rattle.settlement.specs.SectionsLaws.{bytes-long}
use Rattle.sheets.specs.PartiesInner.{parties_in}
use Rattle.reports.specs.Calls.{stands}
use Rattle.filing.specs.SheetLaws.{stands-in, sheet-refused, sheet-stranger, sheet-short, sheet-filled}
use Rattle.filing.proofs.sheet.sheet.Goals.{After-is_party, In_ok-judge_settlement}
use Rattle.filing.proofs.sheet.sheet.Goals as goal

pub returns-in_err-judge_settlement : goal.returns-in_err-judge_settlement
returns-in_err-judge_settlement c =
    let a = c.args in
    let same : c.from_residual.result ≡ Err c.in_err-judge_settlement.field-0.0 = search rules in
    rw same (sheet-refused a.book.now a.party a.sums.now _ (ap refusal_in (sym c.in_err-judge_settlement.was) ∙ c.judge_settlement.ensures))

-- the book is accepted
passed : (c : In_ok-judge_settlement) → book_refusal c.args.book.now ≡ none
passed c = sym c.judge_settlement.ensures ∙ ap refusal_in c.in_ok-judge_settlement.was

sound : (c : In_ok-judge_settlement) → refusal_of c.args.book.now ≡ none
sound c = (passing c.args.book.now (passed c)).passed

pub version_of-version-requires : goal.version_of-version-requires
version_of-version-requires c = bytes-long c.args.book.now (sound (goal.at.version_of-version-requires c).In_ok-judge_settlement)

pub section-register-requires : goal.section-register-requires
section-register-requires c = sound (goal.at.section-register-requires c).In_ok-judge_settlement

-- whether the party stands in a column
column : (c : After-is_party) → let a = c.args in
    c.is_party.result ≡ stands a.party (parties (book_of a.book.now))
column c =
    let a = c.args in
    c.is_party.ensures
    ∙ ap₂ (λ (v : ℕ) (register : List ℕ). stands a.party (parties_in v register)) c.version_of-version.ensures c.section-register.ensures
    ∙ stands-in a.book.now a.party (passing c.args.book.now (sym c.judge_settlement.ensures ∙ ap refusal_in c.in_ok-judge_settlement.was)).passed

pub returns-then-not-is_party : goal.returns-then-not-is_party
returns-then-not-is_party c =
    let a = c.args in
    sheet-stranger a.book.now a.party a.sums.now (passed (goal.at.returns-then-not-is_party c).In_ok-judge_settlement) (sym (column (goal.at.returns-then-not-is_party c).After-is_party) ∙ c.if-not-is_party.true)

pub sheet_length-count-requires : goal.sheet_length-count-requires
sheet_length-count-requires c = sound (goal.at.sheet_length-count-requires c).In_ok-judge_settlement

pub returns-then-sums-count : goal.returns-then-sums-count
returns-then-sums-count c =
    let a = c.args in
    sheet-short a.book.now a.party a.sums.now (passed (goal.at.returns-then-sums-count c).In_ok-judge_settlement) (sym (column (goal.at.returns-then-sums-count c).After-is_party) ∙ c.if-not-is_party.false) (rw (← c.sheet_length-count.ensures) c.if-sums-count.true)

pub fill_sheet-requires : goal.fill_sheet-requires
fill_sheet-requires c = (passed (goal.at.fill_sheet-requires c).In_ok-judge_settlement, rw (← c.sheet_length-count.ensures) c.if-sums-count.false)

pub returns : goal.returns
returns c =
    let a = c.args in
    sheet-filled a.book.now a.party a.sums.now (passed (goal.at.returns c).In_ok-judge_settlement) _ _ (sym (column (goal.at.returns c).After-is_party) ∙ c.if-not-is_party.false) (rw (← c.sheet_length-count.ensures) c.if-sums-count.false) c.sheet_length-count.ensures c.fill_sheet.ensures
