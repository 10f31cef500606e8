-- What an opened book is.
use Rattle.book.specs.Book.{Book}
use Rattle.settlement.specs.SectionsInner.{book_with}
use Rattle.settlement.specs.declared.opened.OpenBook.{OpenBook}

-- what its bytes say, with the engagements that it was opened with
abbrev pub book_in : OpenBook → Book
book_in opened = book_with opened.book.now opened.engagements.now
