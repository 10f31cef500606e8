-- The word says what its bytes from byte-index on say behind the value.
use Rattle.std.proofs.Common.{◌≡◌, ◌<◌, ◌^◌, drop}
use Rattle.cases.specs.WordsInner.{number_from, number_of}
use Rattle.cases.proofs.words.number.Given as goal

abbrev pub invariant-loop-byte : goal.invariant-loop-byte
invariant-loop-byte l = record { fits : l.value < 2 ^ 64; says : number_of l.word ≡ number_from l.value (drop l.byte-index l.word) }
