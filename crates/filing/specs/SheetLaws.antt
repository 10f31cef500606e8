-- A sheet call is one of four: refused as the book is, for a party that stands in no column, for want of room, or filled.
use Rattle.std.specs.Prelude.{◌≡◌, true, false, List, ◌++◌, ℕ, ◌≤◌, ◌<◌, ℤ, length, drop, Result, Ok, Err}
use Rattle.std.proofs.Common.{ap}
use Rattle.std.proofs.Math.Option.{none, some}
use borrow.Author.Tests.{le-leb, lt-leb}
use Rattle.refusals.specs.Refusals.{Refusal, or_else}
use Rattle.book.specs.Header.{version_of, register_section}
use Rattle.book.specs.Book.{book_of}
use Rattle.book.specs.Judged.{refusal_of}
use Rattle.volumes.specs.Settlement.{book_refusal}
use Rattle.volumes.specs.Sheets.{parties, sheet}
use Rattle.volumes.proofs.SheetsLaws.{sheet-length}
use Rattle.sheets.specs.PartiesInner.{parties_in}
use Rattle.sheets.specs.PartiesLaws.{parties-are}
use Rattle.refusals.specs.Buffers.{over, afterwards}
use Rattle.reports.specs.Calls.{stands, sheet_refusal, sheet_answer, SheetCalled}
use Rattle.quarters.specs.Quarters.{month_quarters}

-- a party of the register is one of the book
pub stands-in : (bytes : List ℕ) (party : ℕ) → refusal_of bytes ≡ none → stands party (parties_in (version_of bytes) (register_section bytes)) ≡ stands party (parties (book_of bytes))
stands-in bytes party h = ap (stands party) (parties-are bytes h)

module _ (bytes : List ℕ) (party : ℕ) (lent : List ℤ) where
  refused_as : (r : Refusal) → some r ≡ sheet_refusal bytes party (length lent) → SheetCalled bytes party lent lent (Err r)
  unfolding sheet_answer afterwards
  refused_as r h = record { answer = rw (← h); sums = rw (← h) }

  pub sheet-refused : (r : Refusal) → some r ≡ book_refusal bytes → SheetCalled bytes party lent lent (Err r)
  unfolding sheet_refusal or_else
  sheet-refused r h = refused_as r (rw (← h))

  module _ (passed : book_refusal bytes ≡ none) where
    pub sheet-stranger : stands party (parties (book_of bytes)) ≡ false → SheetCalled bytes party lent lent (Err (record { number = 11; item = 0 }))
    unfolding sheet_refusal or_else
    sheet-stranger h = refused_as (record { number = 11; item = 0 }) (rw (passed, h))

    pub sheet-short : stands party (parties (book_of bytes)) ≡ true → length lent < month_quarters (book_of bytes).calendar → SheetCalled bytes party lent lent (Err (record { number = 10; item = 0 }))
    unfolding sheet_refusal or_else
    sheet-short h k = refused_as (record { number = 10; item = 0 }) (rw (passed, h, lt-leb (month_quarters (book_of bytes).calendar) (length lent) k))

    accepted : stands party (parties (book_of bytes)) ≡ true → month_quarters (book_of bytes).calendar ≤ length lent → sheet_refusal bytes party (length lent) ≡ none
    unfolding sheet_refusal or_else
    accepted h k = rw (passed, h, le-leb (month_quarters (book_of bytes).calendar) (length lent) k)

    pub sheet-filled : (count : ℕ) (left : List ℤ) → stands party (parties (book_of bytes)) ≡ true → month_quarters (book_of bytes).calendar ≤ length lent → count ≡ month_quarters (book_of bytes).calendar → left ≡ sheet (book_of bytes) party ++ drop (month_quarters (book_of bytes).calendar) lent → SheetCalled bytes party lent left (Ok count)
    unfolding sheet_answer afterwards over
    sheet-filled count left h k n f =
        let a = accepted h k in
        record { answer = rw (a, n); sums = rw (a, sheet-length (book_of bytes) party) f }
