-- Document 02, C-12: "Refusal 3 then never occurs, which is to be shown." One claim on the three calls that take a book.
use Rattle.std.specs.Prelude.{◌≡◌, List, ℕ, ℤ, Err}
use Rattle.settlement.specs.declared.settle.Settled.TheVariants.{Refused as SettlingRefused}
use Rattle.settlement.specs.Calls.{SettleCalled}
use Rattle.refusals.specs.Refusals.{Refusal}
use Rattle.reports.specs.Calls.{SheetCalled, FileCalled}

-- whatever the book, the buffers, the party, the kind, the receiver, the ID and the moment: no such call is refused with 3
pub record NeverThree : Type 0 where
  pub settlings : (bytes : List ℕ) (before after : List ℤ) (number item : ℕ) → SettleCalled bytes before after (SettlingRefused number item) → number ≡ 3 → ⊥
  pub sheets : (bytes : List ℕ) (party : ℕ) (before after : List ℤ) (r : Refusal) → SheetCalled bytes party before after (Err r) → r.number ≡ 3 → ⊥
  pub files : (bytes : List ℕ) (kind receiver : ℕ) (id moment : List ℕ) (rows_before rows_after : List ℤ) (before after : List ℕ) (r : Refusal)
      → FileCalled bytes kind receiver id moment rows_before rows_after before after (Err r) → r.number ≡ 3 → ⊥
