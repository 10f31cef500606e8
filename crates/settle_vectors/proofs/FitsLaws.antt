-- A settling call that is not refused answers no more rows than it was lent.
use Rattle.std.specs.Prelude.{◌≡◌, refl, List, ℕ, ◌*◌, ◌≤◌, ℤ, length}
use Rattle.std.proofs.Common.{subst, arith}
use Rattle.std.proofs.Math.Option.{Option, none, some}
use Rattle.refusals.specs.Refusals.{Refusal}
use Rattle.refusals.specs.RefusalsLaws.{not-later, not_short}
use Rattle.book.specs.Book.{book_of}
use Rattle.volumes.specs.Settlement.{row_width, row_count, book_refusal, settling_refusal}
use Rattle.settlement.specs.Calls.{settle_says, settle_answer, SettleCalled}
use Rattle.settlement.specs.declared.settle.Settled.{Settled}
use Rattle.settlement.specs.declared.settle.Settled.TheVariants.{Rows}
use Rattle.settle_vectors.specs.FitsInner.{RowsFit}

-- refusal 10 is where the rows are too short, so without a refusal they are long enough
room : (bytes : List ℕ) (lent : ℕ) → settling_refusal bytes lent ≡ none → row_width * row_count (book_of bytes) ≤ lent
unfolding settling_refusal
room bytes lent h = not_short 0 (row_width * row_count (book_of bytes)) lent (not-later (book_refusal bytes) _ h)

pub fits : (bytes : List ℕ) (lent left : List ℤ) (answer : Settled) (n : ℕ) → SettleCalled bytes lent left answer → length lent ≤ n → RowsFit answer n
unfolding settle_answer settle_says
fits bytes lent left answer n call h = rw call.answer (go (settling_refusal bytes (length lent)) (room bytes (length lent)))
  where
    go : (r : Option Refusal) → (r ≡ none → row_width * row_count (book_of bytes) ≤ length lent) → RowsFit (settle_says r (row_count (book_of bytes))) n
    go none k = omega (arith, k refl)
    go (some r) k = tt

pub rows_fit : (answer : Settled) (count n : ℕ) → answer ≡ Rows count → RowsFit answer n → row_width * count ≤ n
rows_fit answer count n e f = subst (λ (w : Settled). RowsFit w n) e f
