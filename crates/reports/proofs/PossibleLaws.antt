-- Of every accepted book there are calls as demand 3 wants them: one for each party and receiver, with buffers of just the length.
use Rattle.std.specs.Prelude.{◌≡◌, Bool, true, false, ℕ, ◌+◌, ◌*◌, eqb, ℤ, pos, length, replicate}
use Rattle.std.proofs.Math.Path.{refl, ap}
use Rattle.std.proofs.Common.{ap₂, ◌∙◌, arith, eq-eqb}
use mathlib.Core.List.{List, [], ◌∷◌, ◌++◌, map, map-append, Memᴰ}
use Rattle.std.proofs.Math.ListN.{length-replicate}
use Rattle.integers.specs.Counts.{times}
use Rattle.integers.specs.Keep.{keep}
use Rattle.integers.proofs.KeepLaws.{keep_append}
use Rattle.integers.specs.Ascending.{ascending}
use Rattle.integers.proofs.AscendingLaws.{ascending-once}
use Rattle.moments.specs.Ids.{is_transaction_id}
use Rattle.book.specs.Book.{book_of}
use Rattle.quarters.specs.Quarters.{month_quarters}
use Rattle.volumes.specs.Settlement.{row_width, rows, row_count, Accepted}
use Rattle.volumes.specs.Sheets.{parties, sheet}
use Rattle.volumes.specs.Series.{Kind, Toe01, Toe02, Toe03}
use Rattle.message.specs.Valid.{is_moment}
use Rattle.kinds.specs.Numbers.{kind_numbered, kind_number}
use Rattle.reports.specs.FileRows.{file_text}
use Rattle.reports.specs.Roles.{receivers}
use Rattle.refusals.specs.Buffers.{afterwards}
use Rattle.reports.specs.Calls.{sheet_refusal, sheet_answer, text_of, file_refusal, file_answer}
use Rattle.reports.specs.Demand3.{SheetCall, FileCall, is_sheet, is_file, filled, wrote, filled_for, wrote_for, Answered, Calls, Possible}
use Rattle.reports.proofs.Demand3Laws.{demand-3}
use Rattle.integers.proofs.CountsLaws.{times-append}

-- ---- numbers of calls

module _ {A : Type 0} (test : A → Bool) (f : A → ℕ) (g : ℕ → A) where
  all-kept : (l : List ℕ) → ((x : ℕ) → Memᴰ x l → test (g x) ≡ true) → ((x : ℕ) → f (g x) ≡ x) → map f (keep test (map g l)) ≡ l
  unfolding keep
  all-kept [] h e = refl
  all-kept (x ∷ l) h e = rw (h x (Memᴰ.head refl)) (ap₂ ◌∷◌ (e x) (all-kept l (λ y m. h y (Memᴰ.tail m)) e))

  none_kept : (l : List ℕ) → ((x : ℕ) → test (g x) ≡ false) → map f (keep test (map g l)) ≡ []
  unfolding keep
  none_kept [] h = refl
  none_kept (x ∷ l) h = rw (h x) (none_kept l h)

wrote-append : (bytes : List ℕ) (kind : Kind) (l m : List (FileCall bytes)) → wrote_for kind (l ++ m) ≡ wrote_for kind l ++ wrote_for kind m
unfolding wrote_for
wrote-append bytes kind l m = ap (map (λ c. c.receiver)) (keep_append (wrote kind) l m) ∙ map-append (λ c. c.receiver) (keep (wrote kind) l) (keep (wrote kind) m)

-- ---- a call with buffers of just the length

sheet_for : (bytes : List ℕ) → ℕ → SheetCall bytes
sheet_for bytes party =
    let before : List ℤ = replicate (month_quarters (book_of bytes).calendar) (pos 0) in
    record {
      party = party;
      before = before;
      after = afterwards (sheet_refusal bytes party (length before)) (sheet (book_of bytes) party) before;
      answer = sheet_answer bytes party (length before);
      called = record { answer = refl; sums = refl };
    }

file_for : (bytes id moment : List ℕ) → Kind → ℕ → FileCall bytes
file_for bytes id moment kind receiver =
    let lent : List ℤ = replicate (row_width * row_count (book_of bytes)) (pos 0) in
    let before : List ℕ = replicate (length (file_text (book_of bytes) kind receiver id moment)) 0 in
    record {
      kind = kind_number kind;
      receiver = receiver;
      id = id;
      moment = moment;
      rows_before = lent;
      rows_after = afterwards (file_refusal bytes (kind_number kind) receiver id moment (length lent) (length before)) (rows (book_of bytes)) lent;
      before = before;
      after = afterwards (file_refusal bytes (kind_number kind) receiver id moment (length lent) (length before)) (text_of (book_of bytes) (kind_numbered (kind_number kind)) receiver id moment) before;
      answer = file_answer bytes (kind_number kind) receiver id moment (length lent) (length before);
      called = record { answer = refl; rows = refl; file = refl };
    }

module _ (bytes : List ℕ) (a : Accepted bytes) (id moment : List ℕ) (named : is_transaction_id id ≡ true) (timed : is_moment moment ≡ true) where
  answered : Answered bytes
  answered = (demand-3 bytes a).answered

  sheet-filled : (party : ℕ) → Memᴰ party (parties (book_of bytes)) → filled (sheet_for bytes party) ≡ true
  unfolding filled sheet_for is_sheet
  sheet-filled party m = ap is_sheet (answered.sheet_call (sheet_for bytes party) m (omega (arith, length-replicate (month_quarters (book_of bytes).calendar) (pos 0))))

  file-wrote : (kind : Kind) (receiver : ℕ) → Memᴰ receiver (receivers (book_of bytes) kind) → wrote kind (file_for bytes id moment kind receiver) ≡ true
  unfolding wrote file_for is_file
  file-wrote kind receiver m =
      rw (eq-eqb (kind_number kind) (kind_number kind) refl)
      (ap is_file (answered.file_call (file_for bytes id moment kind receiver) kind refl m named timed (omega (arith, length-replicate (row_width * row_count (book_of bytes)) (pos 0))) (omega (arith, length-replicate {A = ℕ} (length (file_text (book_of bytes) kind receiver id moment)) 0))))

  all-sheets : List (SheetCall bytes)
  all-sheets = map (sheet_for bytes) (ascending (parties (book_of bytes)))

  all-filled : filled_for all-sheets ≡ ascending (parties (book_of bytes))
  unfolding filled_for all-sheets sheet_for
  all-filled = all-kept filled (λ c. c.party) (sheet_for bytes) (ascending (parties (book_of bytes))) (λ x m. sheet-filled x ((ascending-once (parties (book_of bytes))).only x m)) (λ x. refl)

  files-of : Kind → List (FileCall bytes)
  files-of kind = map (file_for bytes id moment kind) (ascending (receivers (book_of bytes) kind))

  all-files : List (FileCall bytes)
  all-files = files-of Toe01 ++ (files-of Toe02 ++ files-of Toe03)

  own-kind : (kind : Kind) → wrote_for kind (files-of kind) ≡ ascending (receivers (book_of bytes) kind)
  unfolding wrote_for files-of file_for
  own-kind kind = all-kept (wrote kind) (λ c. c.receiver) (file_for bytes id moment kind) (ascending (receivers (book_of bytes) kind)) (λ x m. file-wrote kind x ((ascending-once (receivers (book_of bytes) kind)).only x m)) (λ x. refl)

  other-kind : (kind other : Kind) → eqb (kind_number other) (kind_number kind) ≡ false → wrote_for kind (files-of other) ≡ []
  unfolding wrote_for files-of file_for wrote
  other-kind kind other e = none_kept (wrote kind) (λ c. c.receiver) (file_for bytes id moment other) (ascending (receivers (book_of bytes) other)) (λ x. rw e)

  all-written : (kind : Kind) (r : ℕ) → times r (wrote_for kind all-files) ≡ times r (ascending (receivers (book_of bytes) kind))
  unfolding all-files times
  all-written kind r =
      ap (times r) (wrote-append bytes kind (files-of Toe01) (files-of Toe02 ++ files-of Toe03) ∙ ap (λ l. wrote_for kind (files-of Toe01) ++ l) (wrote-append bytes kind (files-of Toe02) (files-of Toe03)))
      ∙ times-append r (wrote_for kind (files-of Toe01)) (wrote_for kind (files-of Toe02) ++ wrote_for kind (files-of Toe03))
      ∙ ap (λ n. times r (wrote_for kind (files-of Toe01)) + n) (times-append r (wrote_for kind (files-of Toe02)) (wrote_for kind (files-of Toe03)))
      ∙ go kind
    where
      go : (kind : Kind) → times r (wrote_for kind (files-of Toe01)) + (times r (wrote_for kind (files-of Toe02)) + times r (wrote_for kind (files-of Toe03))) ≡ times r (ascending (receivers (book_of bytes) kind))
      go Toe01 = rw (own-kind Toe01, other-kind Toe01 Toe02 refl, other-kind Toe01 Toe03 refl) (omega arith)
      go Toe02 = rw (own-kind Toe02, other-kind Toe02 Toe01 refl, other-kind Toe02 Toe03 refl) (omega arith)
      go Toe03 = rw (own-kind Toe03, other-kind Toe03 Toe01 refl, other-kind Toe03 Toe02 refl) (omega arith)

  calls : Calls bytes
  calls =
      record {
        sheets = all-sheets;
        files = all-files;
        whole = record { every_party = λ p m. ap (times p) all-filled ∙ (ascending-once (parties (book_of bytes))).once p m; every_receiver = λ kind r m. all-written kind r ∙ (ascending-once (receivers (book_of bytes) kind)).once r m };
      }

pub possible : Possible
possible bytes a id moment named timed = calls bytes a id moment named timed
