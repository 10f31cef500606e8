-- A file call is one of seven: refused as the book is, for its kind, its receiver, its ID or moment, its rows, its file, or filled.
use Rattle.std.specs.Prelude.{◌≡◌, true, false, ◌&&◌, List, ℕ, ◌*◌, ◌≤◌, ◌<◌, ℤ, length, Result, Ok, Err, Option as StdOption, Some, None}
use Rattle.std.proofs.Common.{ap, ◌∙◌, arith}
use Rattle.std.proofs.Math.Option.{Option, none, some}
use Rattle.std.proofs.lemmas.List.Edits.{sets}
use borrow.Author.Tests.{le-leb, lt-leb}
use Rattle.moments.specs.Ids.{is_transaction_id}
use Rattle.refusals.specs.Refusals.{Refusal, refused, unless, or_else, short}
use Rattle.book.specs.Book.{Book, book_of}
use Rattle.volumes.specs.Settlement.{row_width, rows, row_count, book_refusal}
use Rattle.volumes.proofs.SettlementLaws.{rows-length}
use Rattle.refusals.specs.RefusalsLaws.{not-refused, not_short, unless-else}
use Rattle.volumes.specs.Series.{Kind}
use Rattle.message.specs.Valid.{is_moment}
use Rattle.kinds.specs.Numbers.{kind_numbered}
use Rattle.refusals.specs.Sent.{says}
use Rattle.filing.specs.LayingInner.{Sized, Filed}
use Rattle.reports.specs.FileRows.{file_text}
use Rattle.reports.specs.Roles.{receivers}
use Rattle.refusals.specs.Buffers.{afterwards}
use Rattle.refusals.specs.BuffersLaws.{sets_over}
use Rattle.reports.specs.Calls.{stands, text_of, short_refusal, asked_refusal, file_refusal, file_answer, FileCalled}

-- ---- what is asked of an accepted book, before its file is written

-- "11, 12 for ID or moment, 10" with item 0
unfoldable pub asked_verdict : Book → Kind → ℕ → List ℕ → List ℕ → ℕ → Option Refusal
asked_verdict book kind receiver id moment lent =
    unless (stands receiver (receivers book kind)) 11
    (unless (is_transaction_id id && is_moment moment) 12
    (short 0 (row_width * row_count book) lent))

module _ (book : Book) (kind : Kind) (receiver : ℕ) (id moment : List ℕ) (lent : ℕ) where
  pub asked-other : stands receiver (receivers book kind) ≡ false → refused 11 0 ≡ asked_verdict book kind receiver id moment lent
  unfolding asked_verdict
  asked-other e = rw e

  pub asked-malformed : stands receiver (receivers book kind) ≡ true → (is_transaction_id id && is_moment moment) ≡ false → refused 12 0 ≡ asked_verdict book kind receiver id moment lent
  unfolding asked_verdict
  asked-malformed e f = rw (e, f)

  pub asked-short : stands receiver (receivers book kind) ≡ true → (is_transaction_id id && is_moment moment) ≡ true → lent < row_width * row_count book → refused 10 0 ≡ asked_verdict book kind receiver id moment lent
  unfolding asked_verdict
  asked-short e f h = rw (e, f, lt-leb (row_width * row_count book) lent h)

  pub asked-well : stands receiver (receivers book kind) ≡ true → (is_transaction_id id && is_moment moment) ≡ true → row_width * row_count book ≤ lent → none ≡ asked_verdict book kind receiver id moment lent
  unfolding asked_verdict
  asked-well e f h = rw (e, f, le-leb (row_width * row_count book) lent h)

  -- the rows have room where nothing is refused
  pub asked-room : asked_verdict book kind receiver id moment lent ≡ none → row_width * row_count book ≤ lent
  unfolding asked_verdict
  asked-room e =
      let room = short 0 (row_width * row_count book) lent in
      let e₁ = not-refused (stands receiver (receivers book kind)) 11 (unless (is_transaction_id id && is_moment moment) 12 room) e in
      let e₂ = not-refused (is_transaction_id id && is_moment moment) 12 room e₁.1 in
      not_short 0 (row_width * row_count book) lent e₂.1

-- and then 10 with item 1
unfoldable pub room_for : List ℕ → List ℕ → Option Refusal
room_for text before = short 1 (length text) (length before)

-- what writing a file and its rows leaves, where the rows have room
pub record FileFilled (book : Book) (text : List ℕ) (rows_before rows_after : List ℤ) (before after : List ℕ) (r : Result (ℕ × ℕ) Refusal) : Type 0 where
  pub answer : r ≡ says (room_for text before) (row_count book, length text)
  pub rows : rows_after ≡ afterwards (room_for text before) (rows book) rows_before
  pub file : after ≡ afterwards (room_for text before) text before

asked-then : (book : Book) (kind : Kind) (receiver : ℕ) (id moment : List ℕ) (lent : ℕ) (before : List ℕ)
    → asked_refusal book (some kind) receiver id moment lent (length before) ≡ or_else (asked_verdict book kind receiver id moment lent) (room_for (file_text book kind receiver id moment) before)
unfolding asked_refusal short_refusal asked_verdict room_for
asked-then book kind receiver id moment lent before =
    let s = stands receiver (receivers book kind) in
    let f = is_transaction_id id && is_moment moment in
    let n = row_width * row_count book in
    let later = room_for (file_text book kind receiver id moment) before in
    let room = short 0 n lent in
    ap (λ q. unless s 11 q) (unless-else f 12 room later)
    ∙ unless-else s 11 (unless f 12 room) later

module _ (bytes : List ℕ) (kind receiver : ℕ) (id moment : List ℕ) (lent : List ℤ) (before : List ℕ) where
  -- a refusal changes nothing
  refused_as : (r : Refusal) → file_refusal bytes kind receiver id moment (length lent) (length before) ≡ some r → FileCalled bytes kind receiver id moment lent lent before before (Err r)
  unfolding file_answer afterwards
  refused_as r h = record { answer = rw h; rows = rw h; file = rw h }

  pub call-refused : (r : Refusal) → some r ≡ book_refusal bytes → FileCalled bytes kind receiver id moment lent lent before before (Err r)
  unfolding file_refusal or_else
  call-refused r h = refused_as r (rw (← h))

  pub call-unknown : book_refusal bytes ≡ none → none ≡ kind_numbered kind → FileCalled bytes kind receiver id moment lent lent before before (Err (record { number = 12; item = 0 }))
  unfolding file_refusal or_else asked_refusal
  call-unknown h k = refused_as (record { number = 12; item = 0 }) (rw (h, ← k))

  module _ (k : Kind) (passed : book_refusal bytes ≡ none) (known : some k ≡ kind_numbered kind) where
    refusal_is : file_refusal bytes kind receiver id moment (length lent) (length before)
        ≡ or_else (asked_verdict (book_of bytes) k receiver id moment (length lent)) (room_for (file_text (book_of bytes) k receiver id moment) before)
    unfolding file_refusal or_else
    refusal_is = rw (passed, ← known) (asked-then (book_of bytes) k receiver id moment (length lent) before)

    text-is : text_of (book_of bytes) (kind_numbered kind) receiver id moment ≡ file_text (book_of bytes) k receiver id moment
    unfolding text_of
    text-is = rw (← known)

    pub call-asked : (r : Refusal) → some r ≡ asked_verdict (book_of bytes) k receiver id moment (length lent) → FileCalled bytes kind receiver id moment lent lent before before (Err r)
    unfolding or_else
    call-asked r h = refused_as r (refusal_is ∙ rw (← h))

    pub call-filled : (rows_after : List ℤ) (after : List ℕ) (r : Result (ℕ × ℕ) Refusal) → asked_verdict (book_of bytes) k receiver id moment (length lent) ≡ none
        → FileFilled (book_of bytes) (file_text (book_of bytes) k receiver id moment) lent rows_after before after r
        → FileCalled bytes kind receiver id moment lent rows_after before after r
    unfolding file_answer or_else
    call-filled rows_after after r h f =
        let e : file_refusal bytes kind receiver id moment (length lent) (length before) ≡ room_for (file_text (book_of bytes) k receiver id moment) before = refusal_is ∙ rw h in
        record { answer = rw (e, text-is) f.answer; rows = rw e f.rows; file = rw (e, text-is) f.file }

-- ---- the file and the rows, where they have room or not

module _ (book : Book) (text : List ℕ) (lent : List ℤ) (before : List ℕ) where
  -- measured, the file found no room
  pub file-short : length before < length text → FileFilled book text lent lent before before (Err (record { number = 10; item = 1 }))
  unfolding afterwards room_for
  file-short h =
      let b = lt-leb (length text) (length before) h in
      record { answer = rw b; rows = rw b; file = rw b }

  -- the rows are filled, and the file written
  pub file-fits : (count n : ℕ) (rows_after : List ℤ) (after : List ℕ) → row_width * row_count book ≤ length lent → count ≡ row_count book → n ≡ length text → n ≤ length before
      → rows_after ≡ sets lent 0 (rows book) → Filed text before after → FileFilled book text lent rows_after before after (Ok (count, n))
  unfolding afterwards room_for
  file-fits count n rows_after after room c m fits f w =
      let h : length text ≤ length before = omega (arith, m, fits) in
      let b = le-leb (length text) (length before) h in
      let all = sets_over (rows book) lent (omega (arith, room, rows-length book)) in
      record { answer = rw (b, c, m); rows = rw b (f ∙ all); file = rw b (w h) }
