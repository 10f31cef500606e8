-- The bytes of a file by its rows, and what bytes are read as.
use Rattle.std.specs.Prelude.{List, ℕ}
use Rattle.formats.specs.Format.{Res, whole}
use Rattle.message.specs.Bytes.{file_bytes}
use Rattle.message.specs.Rows.{Message, contents}
use Rattle.message.specs.Reading.{message_parse}

abbrev pub message_bytes : Message → List ℕ
message_bytes m = file_bytes (contents m)

-- the whole of it as a file's rows
abbrev pub read_message : List ℕ → Res Message
read_message s = whole (message_parse s)
