-- Who gets a file: "FSP for kind 01, supplier for 02 and 03" (document 01, "What is sent back").
use Rattle.std.specs.Prelude.{List, map, ℕ}
use Rattle.book.specs.Book.{Book}
use Rattle.volumes.specs.Series.{Kind, receiver_of}

-- those in the role of a kind's receiver in the register
unfoldable pub receivers : Book → Kind → List ℕ
receivers book kind = map (receiver_of kind) book.points
