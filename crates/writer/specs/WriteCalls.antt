-- Writing a file from rows: its answer, and the file's buffer afterwards (document 01, "The file", "What is sent back").
use Rattle.std.specs.Prelude.{◌≡◌, ◌&&◌, List, [], ℕ, length, Result}
use Rattle.std.proofs.Math.Option.{Option, none, some}
use Rattle.refusals.specs.Refusals.{Refusal, refused, unless, short}
use Rattle.refusals.specs.Sent.{says, said}
use Rattle.refusals.specs.declared.Refused.{Refused}
use Rattle.refusals.specs.Buffers.{afterwards}
use Rattle.moments.specs.Ids.{is_transaction_id}
use Rattle.kinds.specs.declared.Kind.{Kind}
use Rattle.kinds.specs.Numbers.{kind_numbered}
use Rattle.message.specs.Valid.{is_moment}
use Rattle.message.specs.Messages.{message_bytes}
use Rattle.writer.specs.Rows.{is_rows, rows_message}

-- the bytes of the file that is asked for; there is none of another kind
unfoldable pub text_from : Option Kind → ℕ → ℕ → ℕ → List ℕ → List ℕ → List ℕ → List ℕ
text_from none receiver year month rows id moment = []
text_from (some kind) receiver year month rows id moment = message_bytes (rows_message kind receiver year month rows id moment)

-- "Writing from rows: 12 for the kind, 13, 12 for ID or moment, 10 with item 1."
unfoldable pub write_refusal : Option Kind → ℕ → ℕ → ℕ → List ℕ → List ℕ → List ℕ → ℕ → Option Refusal
write_refusal none receiver year month rows id moment lent = refused 12 0
write_refusal (some kind) receiver year month rows id moment lent =
    unless (is_rows kind receiver year month rows) 13
    (unless (is_transaction_id id && is_moment moment) 12
    (short 1 (length (message_bytes (rows_message kind receiver year month rows id moment))) lent))

-- how many bytes, or the refusal's number and item
unfoldable pub write_answer : ℕ → ℕ → ℕ → ℕ → List ℕ → List ℕ → List ℕ → ℕ → Result ℕ Refusal
write_answer kind receiver year month rows id moment lent =
    says (write_refusal (kind_numbered kind) receiver year month rows id moment lent) (length (text_from (kind_numbered kind) receiver year month rows id moment))

-- a writing from these rows, with the file's bytes before it and after it
pub record WriteCalled (kind receiver year month : ℕ) (rows id moment before after : List ℕ) (r : Result ℕ Refused) : Type 0 where
  pub answer : said r ≡ write_answer kind receiver year month rows id moment (length before)
  pub file : after ≡ afterwards (write_refusal (kind_numbered kind) receiver year month rows id moment (length before)) (text_from (kind_numbered kind) receiver year month rows id moment) before
