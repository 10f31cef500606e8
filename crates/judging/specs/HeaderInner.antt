-- Where the sections of a book start, as numbers that code keeps.
use Rattle.std.specs.Prelude.{ℕ, ◌+◌, ◌*◌}
use Rattle.quarters.specs.declared.Calendar.{Calendar}
use Rattle.quarters.specs.Quarters.{days_of, quarters_of}
use Rattle.book.specs.Header.{point_width, engagement_width}
use Rattle.judging.specs.declared.header.Places.{Places}

-- where these sections start, and where the last ends
abbrev pub places_of : Calendar → ℕ → ℕ → Places
places_of c points rows =
    record {
      table = 56 + days_of c;
      register = 56 + days_of c + 8;
      readings = 56 + days_of c + 8 + point_width * points;
      engagements = 56 + days_of c + 8 + point_width * points + 4 * quarters_of c * points;
      end = 56 + days_of c + 8 + point_width * points + 4 * quarters_of c * points + engagement_width * rows;
    }
