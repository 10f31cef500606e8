-- The volumes have room in their local list, and stand in its first places.
use Rattle.std.proofs.Common.{arith}
use Rattle.book.specs.Book.{book_of}
use Rattle.series.specs.VolumesLaws.{volumes-most, volumes-stand}
use Rattle.filing.proofs.file.fill_file.Goals as goal

pub fill_volumes-requires : goal.fill_volumes-requires
fill_volumes-requires c = (c.requires.0, omega (arith, volumes-most c.args.book.now c.requires.0))

pub of-requires : goal.of-requires
of-requires c =
    record { accepted = c.requires.0; starts = volumes-stand (book_of c.args.book.now) _ _ (omega (arith, volumes-most c.args.book.now c.requires.0)) c.fill_volumes.ensures }
