-- What a book's file is read as: its kind, receiver, ID, moment, month and rows.
use Rattle.std.specs.Prelude.{◌≡◌, true, length}
use Rattle.std.proofs.Math.Path.{refl, ap}
use Rattle.std.proofs.Common.{sym, ◌∙◌}
use mathlib.Core.List.{List, [], ◌∷◌, Memᴰ}
use Prim.Native.Nat.{ℕ}
use Rattle.integers.specs.Keep.{is_some}
use Rattle.formats.specs.Format.{got}
use Rattle.moments.specs.Ids.{is_transaction_id}
use Rattle.book.specs.Book.{Book}
use Rattle.volumes.specs.Series.{Kind}
use Rattle.volumes.specs.SoundInner.{Sound}
use Rattle.message.specs.Contents.{Partner}
use Rattle.message.specs.Bytes.{file_bytes}
use Rattle.message.specs.Valid.{is_moment, periods, first_of}
use Rattle.message.specs.Rows.{Row, rows_of, partners_of as regrouped, message}
use Rattle.message.proofs.RowsLaws.{partners-undo, first-month}
use Rattle.message.proofs.FileForm.{file}
use Rattle.message.proofs.MessageForm.{message-recast}
use Rattle.message.specs.Messages.{read_message}
use Rattle.message.proofs.FileLaws.{written-is-read}
use Rattle.reports.specs.FileRows.{partners_of, file_of, file_text, file_rows, month_in, message_of}
use Rattle.reports.specs.Roles.{receivers}
use Rattle.reports.specs.RegisteredInner.{Registered}
use Rattle.reports.proofs.FormLaws.{book-month, partners-rise, partners-valid, file-valid}

module _ (book : Book) (sound : Sound book) (registered : Registered book) (kind : Kind) (receiver : ℕ) (id moment : List ℕ) (role : Memᴰ receiver (receivers book kind)) (named : is_transaction_id id ≡ true) (timed : is_moment moment ≡ true) where
  -- the month of its series
  month-is : first_of (periods (partners_of book kind receiver)) ≡ month_in book (file_rows book kind receiver)
  unfolding month_in file_rows is_some file_of message file
  month-is = go (file_rows book kind receiver) refl (message-recast.to_ok (file_of book kind receiver id moment) (file-valid book sound registered kind receiver id moment role named timed)).none
    where
      again : regrouped (book.calendar.year, book.calendar.month) (rows_of (partners_of book kind receiver)) ≡ partners_of book kind receiver
      again = partners-undo kind (book.calendar.year, book.calendar.month) (partners_of book kind receiver) (partners-rise book sound registered kind receiver) (partners-valid book sound registered kind receiver) (book-month book sound registered kind receiver)

      go : (rows : List Row) → rows_of (partners_of book kind receiver) ≡ rows → (length (rows_of (partners_of book kind receiver)) ≡ 0 → ((first_of (periods (partners_of book kind receiver))).0 ≡ 0) × ((first_of (periods (partners_of book kind receiver))).1 ≡ 0)) → first_of (periods (partners_of book kind receiver)) ≡ month_in book rows
      go [] e h = let z = h (ap length e) in let y = z.0 in let m = z.1 in λ i. (y i, m i)
      go (x ∷ rows) e h =
          ap (λ (l : List Partner). first_of (periods l)) (sym again)
          ∙ ap (λ (l : List Row). first_of (periods (regrouped (book.calendar.year, book.calendar.month) l))) e
          ∙ first-month (book.calendar.year, book.calendar.month) x rows

  message-is : message (file_of book kind receiver id moment) ≡ message_of book kind receiver id moment
  unfolding message message_of file_of file_rows
  message-is = ap (λ (q : ℕ × ℕ). record { kind = kind; receiver = receiver; id = id; moment = moment; year = q.0; month = q.1; rows = file_rows book kind receiver }) month-is

  -- the file's bytes are read, and as its rows
  pub file-read : read_message (file_text book kind receiver id moment) ≡ got (message_of book kind receiver id moment) []
  unfolding file_text file
  file-read =
      let ok = file-valid book sound registered kind receiver id moment role named timed in
      ap (λ f. read_message (file_bytes f)) (sym (message-recast.back (file_of book kind receiver id moment) ok))
      ∙ written-is-read (message (file_of book kind receiver id moment)) (message-recast.to_ok (file_of book kind receiver id moment) ok)
      ∙ ap (λ m. got m []) message-is
