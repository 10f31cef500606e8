-- What a line asks for, as the code takes it apart.
use Rattle.std.specs.Prelude.{List, ℕ, ◌+◌, length, Option, Some, None}
use Rattle.formats.specs.Format.{Res, got, bad}
use Rattle.requests.specs.declared.Asked.{Asked}
use Rattle.requests.specs.Line.{Words, line}

-- where a line's words stand: the kind has 2 bytes, the receiver 10, the moment 29, and a byte ends each word
unfoldable pub asked : Words → Asked
asked w =
    record {
      kind = w.0;
      receiver = w.1.0;
      id = 14;
      id_length = length w.1.1.0;
      moment = 15 + length w.1.1.0;
      book = 45 + length w.1.1.0;
    }

abbrev pub request_by : Res Words → Option Asked
request_by (got w book) = Some (asked w)
request_by bad = None

-- "A program reads one line .. and then a book": what the line asks for, if the input begins with one
unfoldable pub request_of : List ℕ → Option Asked
request_of input = request_by (line.parse input)
