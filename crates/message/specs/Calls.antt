-- Reading a file: its answer, and the rows afterwards (document 01, "The file", "What is sent back").
use Rattle.std.specs.Prelude.{◌≡◌, List, [], ◌++◌, ℕ, ◌*◌, length, Result}
use Rattle.std.proofs.Math.Option.{Option}
use Rattle.formats.specs.Format.{Res, got, bad}
use Rattle.refusals.specs.Refusals.{Refusal, refused, short}
use Rattle.refusals.specs.Sent.{said, says}
use Rattle.refusals.specs.declared.Refused.{Refused}
use Rattle.refusals.specs.Buffers.{afterwards}
use Rattle.kinds.specs.declared.Kind.{Kind}
use Rattle.kinds.specs.declared.Kind.TheVariants.{Toe01}
use Rattle.message.specs.declared.FileFacts.{FileFacts}
use Rattle.message.specs.Bytes.{opening, element, root}
use Rattle.message.specs.Rows.{numbers, Message}
use Rattle.message.specs.Messages.{read_message}

-- "It also names where ID and moment stand.": how many bytes of the file stand before them
unfoldable pub id_place : Kind → ℕ
id_place kind = length (opening (root kind) ++ opening "TransactionID")

unfoldable pub moment_place : Kind → List ℕ → ℕ
moment_place kind id = length (opening (root kind) ++ element "TransactionID" id ++ opening "MessageCreateDateTime")

-- "It gives kind, receiver, year, month and six u64 a row"
unfoldable pub facts_of : Message → FileFacts
facts_of m =
    record {
      kind = m.kind;
      receiver = m.receiver;
      year = m.year;
      month = m.month;
      rows = length m.rows;
      id = id_place m.kind;
      id_length = length m.id;
      moment = moment_place m.kind m.id;
    }

-- "Reader: 13, 10 with item 0.", by what the bytes are read as and how many numbers are lent
unfoldable pub read_refusal : Res Message → ℕ → Option Refusal
read_refusal bad lent = refused 13 0
read_refusal (got m rest) lent = short 0 (6 * length m.rows) lent

-- what was read; nothing in what is no file
unfoldable pub message_in : Res Message → Message
message_in bad = record { kind = Toe01; receiver = 0; id = []; moment = []; year = 0; month = 0; rows = [] }
message_in (got m rest) = m

-- what the file says, or the refusal
unfoldable pub read_answer : List ℕ → ℕ → Result FileFacts Refusal
read_answer file lent = says (read_refusal (read_message file) lent) (facts_of (message_in (read_message file)))

-- a reading of these bytes, with the rows' numbers before it and after it
pub record ReadCalled (file before after : List ℕ) (r : Result FileFacts Refused) : Type 0 where
  pub answer : said r ≡ read_answer file (length before)
  pub rows : after ≡ afterwards (read_refusal (read_message file) (length before)) (numbers (message_in (read_message file)).rows) before
