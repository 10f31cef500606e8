-- The reader is exact, since its answers go by the file's form, and the form has every valid file and nothing else.
use Rattle.std.specs.Prelude.{◌≡◌, refl, List, [], ℕ, length, Result, Err}
use Rattle.std.proofs.Common.{sym, subst, ◌∙◌}
use Rattle.std.proofs.Math.Path.{ap}
use Rattle.formats.specs.Format.{Res, got, bad}
use Rattle.refusals.specs.declared.Refused.{Refused}
use Rattle.refusals.specs.declared.Refused.TheVariants.{NoFile}
use Rattle.refusals.proofs.SentLaws.{said-same}
use Rattle.message.specs.declared.FileFacts.{FileFacts}
use Rattle.message.specs.Contents.{File}
use Rattle.message.specs.Bytes.{file_bytes}
use Rattle.message.specs.Valid.{IsFile}
use Rattle.message.proofs.FileForm.{file}
use Rattle.message.specs.Rows.{Message, contents, message, IsMessage}
use Rattle.message.proofs.MessageForm.{message-recast}
use Rattle.message.specs.Messages.{message_bytes, read_message}
use Rattle.message.proofs.FileLaws.{written-is-read, read-is-written, refused-is-none}
use Rattle.message.specs.Calls.{ReadCalled}
use Rattle.message.proofs.CallsLaws.{says-no-file, says-file, refused-is}
use Rattle.message.specs.Exact.{OfValidFile, ReaderExact}

-- a valid file, by its rows
module _ (f : File) (ok : IsFile f) where
  by_rows : IsMessage (message f)
  unfolding file
  by_rows = message-recast.to_ok f ok

  same_bytes : message_bytes (message f) ≡ file_bytes f
  unfolding file
  same_bytes = ap file_bytes (message-recast.back f ok)

  is_read : read_message (file_bytes f) ≡ got (message f) []
  is_read = sym (ap read_message same_bytes) ∙ written-is-read (message f) by_rows

read_of : (bytes before after : List ℕ) (r : Result FileFacts Refused) → ReadCalled bytes before after r → (r ≡ Err NoFile → ⊥) → OfValidFile bytes
read_of bytes before after r c other = go (read_message bytes) refl
  where
    go : (x : Res Message) → read_message bytes ≡ x → OfValidFile bytes
    go bad e = absurd (other (said-same (c.answer ∙ sym (says-no-file bytes (length before) e))))
    go (got m rest) e = let w = read-is-written bytes m rest e in record { file = contents m; valid = w.1.file; is = w.0 }

pub reader-exact : ReaderExact
unfolding message
reader-exact =
    record {
      valid_not_refused = λ f ok before after r c e.
          refused-is-none (file_bytes f) (refused-is (file_bytes f) before after (subst (ReadCalled (file_bytes f) before after) e c)) (message f) (by_rows f ok) (sym (same_bytes f ok));
      valid_accepted = λ f ok before after r c h. said-same (c.answer ∙ sym (says-file (file_bytes f) (length before) (message f) [] (is_read f ok) h));
      only_valid = read_of;
    }

-- the same, as the check cites it
pub ruleset exact_readers = (reader-exact)
