-- "The file reader refuses all bytes that aren't a file of our form and accepts all that are." (demand 1), said of every call of it. Its refusal of
-- bytes is document 01's "13, 0: not a file .. of this form"; a lent buffer that is too short is another, 10.
use Rattle.std.specs.Prelude.{◌≡◌, List, ℕ, ◌*◌, ◌≤◌, length, Result, Ok, Err}
use Rattle.refusals.specs.declared.Refused.{Refused}
use Rattle.refusals.specs.declared.Refused.TheVariants.{NoFile}
use Rattle.message.specs.declared.FileFacts.{FileFacts}
use Rattle.message.specs.Contents.{File}
use Rattle.message.specs.Bytes.{file_bytes}
use Rattle.message.specs.Valid.{IsFile}
use Rattle.message.specs.Rows.{rows_of, message}
use Rattle.message.specs.Calls.{facts_of, ReadCalled}

-- these bytes are a valid file's
pub record OfValidFile (bytes : List ℕ) : Type 0 where
  pub file : File
  pub valid : IsFile file
  pub is : bytes ≡ file_bytes file

-- The file reader accepts exactly the files of our form. A call of it is its bytes, the lent numbers before and after, and its answer r; `ReadCalled` is
-- its contract (reader/proofs/Cited.antt).
pub record ReaderExact : Type 0 where
  -- the bytes of a valid file are not answered with 13
  pub valid_not_refused : (f : File) → IsFile f → (before after : List ℕ) (r : Result FileFacts Refused) → ReadCalled (file_bytes f) before after r → r ≡ Err NoFile → ⊥
  -- with room for six numbers a row they are accepted
  pub valid_accepted : (f : File) → IsFile f → (before after : List ℕ) (r : Result FileFacts Refused) → ReadCalled (file_bytes f) before after r → 6 * length (rows_of f.partners) ≤ length before
      → r ≡ Ok (facts_of (message f))
  -- bytes that are not answered with 13 are a valid file's
  pub only_valid : (bytes before after : List ℕ) (r : Result FileFacts Refused) → ReadCalled bytes before after r → (r ≡ Err NoFile → ⊥) → OfValidFile bytes
