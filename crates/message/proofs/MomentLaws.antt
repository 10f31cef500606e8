-- What the check applies by itself where a moment is written and where one is read.
use Rattle.std.proofs.Common.{length-drop}
use Rattle.text.proofs.TagLaws.{to_end}
use Rattle.text.proofs.WrittenLaws.{written-whole}
use Rattle.formats.proofs.ExactlyLaws.{exactly-there, exactly-none, exactly-short}
use Rattle.moments.specs.MomentsLaws.{length-moment}

-- the write fills the whole array
pub ruleset moment_filled = (written-whole, length-moment)

-- 29 bytes are there, and they are a moment
pub ruleset moments_read = (exactly-there, exactly-none, exactly-short, to_end, length-drop)
