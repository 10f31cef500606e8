-- The parts of an observation, one behind the other.
use Rattle.text.specs.Ascii.{bytes}
use Rattle.cursor.proofs.ReadsLaws.{reads-pre, reads-seq, reads-post}
use Rattle.message.specs.Bytes.{opening, ending, closing}
use Rattle.message.specs.Reading.{position_parse, plain_parse}
use Rattle.passages.proofs.position_and_watts.Goals as goal

pub returns : goal.returns
unfolding position_parse plain_parse opening ending closing bytes
returns c = reads-pre _ c.in_ok-tag.ensures.reads (reads-seq _ (reads-post _ c.in_ok-position.ensures.reads c.in_ok-tag-2.ensures.reads) (reads-post _ c.in_ok-watts.ensures c.in_ok-tag-3.ensures.reads))
