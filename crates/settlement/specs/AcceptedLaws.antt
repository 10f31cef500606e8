-- "A book is accepted if settling with a long enough buffer doesn't refuse it.": so it is, of every such call, and of no book that such a call refuses.
use Rattle.std.specs.Prelude.{◌≡◌, refl, List, ℕ, ◌*◌, ◌≤◌, ℤ, length}
use Rattle.std.proofs.Common.{sym, ◌∙◌, arith}
use Rattle.std.proofs.Math.Path.{ap}
use Rattle.std.proofs.Math.Option.{Option, none, some}
use Rattle.refusals.specs.Refusals.{Refusal}
use Rattle.book.specs.Book.{book_of}
use Rattle.volumes.specs.Settlement.{row_width, row_count, book_refusal, Accepted}
use Rattle.volumes.proofs.SettlementLaws.{settling-long, accepted}
use Rattle.settlement.specs.declared.settle.Settled.{Settled}
use Rattle.settlement.specs.declared.settle.Settled.TheVariants.{Rows}
use Rattle.settlement.specs.Calls.{settle_says, settle_answer, SettleCalled}

-- rows are answered where nothing is refused
answered-none : (x : Option Refusal) (n count : ℕ) → settle_says x n ≡ Rows count → x ≡ none
unfolding settle_says
answered-none none n count e = refl
answered-none (some r) n count e = let z : ◌≡◌ {A = ℕ} 0 1 = cc in absurd (omega arith)

module _ (bytes : List ℕ) (before after : List ℤ) (r : Settled) (long : row_width * row_count (book_of bytes) ≤ length before) (call : SettleCalled bytes before after r) where
  by-book : r ≡ settle_says (book_refusal bytes) (row_count (book_of bytes))
  unfolding settle_answer
  by-book = call.answer ∙ ap (λ (x : Option Refusal). settle_says x (row_count (book_of bytes))) (settling-long bytes (length before) long)

  pub accepted-settles : Accepted bytes → r ≡ Rows (row_count (book_of bytes))
  unfolding settle_says
  accepted-settles a = by-book ∙ ap (λ (x : Option Refusal). settle_says x (row_count (book_of bytes))) (accepted bytes a)

  pub settles-accepted : (count : ℕ) → r ≡ Rows count → Accepted bytes
  unfolding Accepted
  settles-accepted count e =
      settling-long bytes (row_width * row_count (book_of bytes)) (omega arith) ∙ answered-none (book_refusal bytes) (row_count (book_of bytes)) count (sym by-book ∙ e)
