-- What an accepted call says of what was passed, and what a call in role and form with long enough buffers answers.
use Rattle.std.specs.Prelude.{◌≡◌, true, ◌&&◌, ℕ, zero, suc, ◌*◌, ◌≤◌, length, Ok}
use Rattle.std.proofs.Math.Path.{refl, ap}
use Rattle.std.proofs.Common.{sym, ◌∙◌, arith}
use mathlib.Core.List.{List, Memᴰ}
use Rattle.std.proofs.Math.Option.{Option, none, some}
use borrow.Author.Tests.{leb-true, le-leb}
use Rattle.integers.specs.Counts.{times}
use Rattle.integers.proofs.TestsLaws.{both}
use Rattle.moments.specs.Ids.{is_transaction_id}
use Rattle.book.specs.Book.{Book, book_of}
use Rattle.refusals.specs.Refusals.{Refusal, unless, or_else, short}
use Rattle.volumes.specs.Settlement.{row_width, row_count, book_refusal}
use Rattle.refusals.specs.RefusalsLaws.{never, not-refused, not-later}
use Rattle.volumes.specs.Sheets.{parties}
use Rattle.volumes.specs.Series.{Kind, Toe01, Toe02, Toe03}
use Rattle.message.specs.Valid.{is_moment}
use Rattle.kinds.specs.NumbersLaws.{kind-numbered}
use Rattle.kinds.specs.Numbers.{kind_numbered, kind_number}
use Rattle.reports.specs.FileRows.{file_text}
use Rattle.reports.specs.Roles.{receivers}
use Rattle.refusals.specs.Buffers.{afterwards}
use Rattle.refusals.specs.BuffersLaws.{over_first}
use Rattle.reports.specs.Calls.{stands, sheet_refusal, sheet_answer, text_of, short_refusal, asked_refusal, file_refusal, file_answer}
use Rattle.refusals.specs.Sent.{says}
use Rattle.reports.specs.Demand3.{is_sheet, is_file, written}
use Rattle.quarters.specs.Quarters.{month_quarters}
use Rattle.integers.proofs.CountsLaws.{mem-times, times-mem}

pub stands-mem : (x : ℕ) (l : List ℕ) → stands x l ≡ true → Memᴰ x l
unfolding stands
stands-mem x l e = times-mem x l (leb-true 1 (times x l) e)

pub mem-stands : (x : ℕ) (l : List ℕ) → Memᴰ x l → stands x l ≡ true
unfolding stands
mem-stands x l m = le-leb 1 (times x l) (mem-times x l m)

-- ---- the sheet call

sheet-says-none : (r : Option Refusal) (n : ℕ) → is_sheet (says r n) ≡ true → r ≡ none
unfolding is_sheet
sheet-says-none none n e = refl
sheet-says-none (some r) n e = let z : ◌≡◌ {A = ℕ} 0 1 = cc in absurd (omega arith)

pub sheet-not-refused : (bytes : List ℕ) (party lent : ℕ) → is_sheet (sheet_answer bytes party lent) ≡ true → sheet_refusal bytes party lent ≡ none
unfolding sheet_answer
sheet-not-refused bytes party lent e = sheet-says-none (sheet_refusal bytes party lent) (month_quarters (book_of bytes).calendar) e

pub sheet-party : (bytes : List ℕ) (party lent : ℕ) → sheet_refusal bytes party lent ≡ none → Memᴰ party (parties (book_of bytes))
unfolding sheet_refusal
sheet-party bytes party lent e =
    let long = short 0 (month_quarters (book_of bytes).calendar) lent in
    let s = stands party (parties (book_of bytes)) in
    stands-mem party (parties (book_of bytes)) (not-refused s 11 long (not-later (book_refusal bytes) (unless s 11 long) e)).0

pub sheet-answered : (bytes : List ℕ) (party lent : ℕ) → book_refusal bytes ≡ none → Memᴰ party (parties (book_of bytes)) → month_quarters (book_of bytes).calendar ≤ lent → sheet_answer bytes party lent ≡ Ok (month_quarters (book_of bytes).calendar)
unfolding sheet_answer sheet_refusal or_else
sheet-answered bytes party lent e m h = rw (e, mem-stands party (parties (book_of bytes)) m, le-leb (month_quarters (book_of bytes).calendar) lent h)

-- ---- the file call

file-says-none : (r : Option Refusal) (m n : ℕ) → is_file (says r (m, n)) ≡ true → r ≡ none
unfolding is_file
file-says-none none m n e = refl
file-says-none (some r) m n e = let z : ◌≡◌ {A = ℕ} 0 1 = cc in absurd (omega arith)

-- a file is of one of the three kinds
kind-asked : (bytes : List ℕ) (n receiver : ℕ) (id moment : List ℕ) (rows_lent file_lent : ℕ) → is_file (file_answer bytes n receiver id moment rows_lent file_lent) ≡ true → kind_numbered n ≡ none → ⊥
unfolding file_answer file_refusal asked_refusal
kind-asked bytes n receiver id moment rows_lent file_lent e k =
    let asked : Option Kind → Option Refusal = λ o. asked_refusal (book_of bytes) o receiver id moment rows_lent file_lent in
    let passed = file-says-none (or_else (book_refusal bytes) (asked (kind_numbered n))) (row_count (book_of bytes)) (length (text_of (book_of bytes) (kind_numbered n) receiver id moment)) e in
    never 12 (sym (ap asked k) ∙ not-later (book_refusal bytes) (asked (kind_numbered n)) passed)

pub kind-is : (bytes : List ℕ) (n receiver : ℕ) (id moment : List ℕ) (rows_lent file_lent : ℕ) → is_file (file_answer bytes n receiver id moment rows_lent file_lent) ≡ true → (kind : Kind) × (n ≡ kind_number kind)
kind-is bytes zero receiver id moment rows_lent file_lent e = absurd (kind-asked bytes zero receiver id moment rows_lent file_lent e refl)
kind-is bytes (suc zero) receiver id moment rows_lent file_lent e = (Toe01, refl)
kind-is bytes (suc (suc zero)) receiver id moment rows_lent file_lent e = (Toe02, refl)
kind-is bytes (suc (suc (suc zero))) receiver id moment rows_lent file_lent e = (Toe03, refl)
kind-is bytes (suc (suc (suc (suc n)))) receiver id moment rows_lent file_lent e = absurd (kind-asked bytes (suc (suc (suc (suc n)))) receiver id moment rows_lent file_lent e refl)

-- what was passed to a call that was not refused
pub record InForm (book : Book) (kind : Kind) (receiver : ℕ) (id moment : List ℕ) : Type 0 where
  pub role : Memᴰ receiver (receivers book kind)
  pub named : is_transaction_id id ≡ true
  pub timed : is_moment moment ≡ true

in-form : (book : Book) (kind : Kind) (receiver : ℕ) (id moment : List ℕ) (rows_lent file_lent : ℕ) → asked_refusal book (some kind) receiver id moment rows_lent file_lent ≡ none → InForm book kind receiver id moment
unfolding asked_refusal
in-form book kind receiver id moment rows_lent file_lent e =
    let room = short_refusal (row_width * row_count book) rows_lent (length (file_text book kind receiver id moment)) file_lent in
    let s = stands receiver (receivers book kind) in
    let f = is_transaction_id id && is_moment moment in
    let e₁ = not-refused s 11 (unless f 12 room) e in
    let e₂ = both (is_transaction_id id) (is_moment moment) (not-refused f 12 room e₁.1).0 in
    record { role = stands-mem receiver (receivers book kind) e₁.0; named = e₂.0; timed = e₂.1 }

module _ (bytes : List ℕ) (kind : Kind) (receiver : ℕ) (id moment : List ℕ) (rows_lent file_lent : ℕ) where
  file-not-refused : is_file (file_answer bytes (kind_number kind) receiver id moment rows_lent file_lent) ≡ true → file_refusal bytes (kind_number kind) receiver id moment rows_lent file_lent ≡ none
  unfolding file_answer
  file-not-refused e = file-says-none (file_refusal bytes (kind_number kind) receiver id moment rows_lent file_lent) (row_count (book_of bytes)) (length (text_of (book_of bytes) (kind_numbered (kind_number kind)) receiver id moment)) e

  pub file-in-form : is_file (file_answer bytes (kind_number kind) receiver id moment rows_lent file_lent) ≡ true → InForm (book_of bytes) kind receiver id moment
  unfolding file_refusal
  file-in-form e =
      let asked = asked_refusal (book_of bytes) (kind_numbered (kind_number kind)) receiver id moment rows_lent file_lent in
      in-form (book_of bytes) kind receiver id moment rows_lent file_lent
      (ap (λ k. asked_refusal (book_of bytes) k receiver id moment rows_lent file_lent) (sym (kind-numbered kind)) ∙ not-later (book_refusal bytes) asked (file-not-refused e))

  -- the text that the call was asked for
  asked-text : text_of (book_of bytes) (kind_numbered (kind_number kind)) receiver id moment ≡ file_text (book_of bytes) kind receiver id moment
  unfolding text_of
  asked-text = ap (λ k. text_of (book_of bytes) k receiver id moment) (kind-numbered kind)

  -- what it wrote is the file
  pub file-written : is_file (file_answer bytes (kind_number kind) receiver id moment rows_lent file_lent) ≡ true → (before : List ℕ)
      → written (file_answer bytes (kind_number kind) receiver id moment rows_lent file_lent) (afterwards (file_refusal bytes (kind_number kind) receiver id moment rows_lent file_lent) (text_of (book_of bytes) (kind_numbered (kind_number kind)) receiver id moment) before) ≡ file_text (book_of bytes) kind receiver id moment
  unfolding file_answer written afterwards
  file-written e before =
      let text = text_of (book_of bytes) (kind_numbered (kind_number kind)) receiver id moment in
      rw (file-not-refused e) (over_first text before (length text) refl ∙ asked-text)

  pub file-answered : book_refusal bytes ≡ none → InForm (book_of bytes) kind receiver id moment → row_width * row_count (book_of bytes) ≤ rows_lent → length (file_text (book_of bytes) kind receiver id moment) ≤ file_lent
      → file_answer bytes (kind_number kind) receiver id moment rows_lent file_lent ≡ Ok (row_count (book_of bytes), length (file_text (book_of bytes) kind receiver id moment))
  unfolding file_answer file_refusal asked_refusal short_refusal text_of or_else
  file-answered e f h k =
      rw (e, kind-numbered kind, mem-stands receiver (receivers (book_of bytes) kind) f.role, f.named, f.timed, le-leb (row_width * row_count (book_of bytes)) rows_lent h, le-leb (length (file_text (book_of bytes) kind receiver id moment)) file_lent k)
