-- The file is written over the first places of the buffer.
use Rattle.std.proofs.Common.{rules}
use Rattle.book.specs.Book.{book_of}
use Rattle.reports.specs.FileRows.{file_text}
use Rattle.writer.proofs.CalledLaws.{same-buffer}
use Rattle.filing.proofs.FilesLaws.{written-over}
use Rattle.filing.proofs.laying.write_measured.Goals as goal

pub returns : goal.returns
returns c =
    let a = c.args in
    let text = file_text (book_of a.delivered.now.book.now) a.role.kind a.role.receiver a.stamp.id.now a.stamp.moment.now in
    let name = same-buffer c.new-write.result c.emit_file.new.sink text c.emit_file.result c.emit_file.ensures in
    written-over c.new-write.result c.emit_file.new.sink text a.file.now c.emit_file.result (search rules) c.new-write.ensures.untouched c.new-write.ensures.at c.emit_file.ensures
