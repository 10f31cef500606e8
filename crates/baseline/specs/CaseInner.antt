-- The case of a book's engagement.
use Rattle.book.specs.Book.{Book}
use Rattle.baseline.specs.declared.case.Case.{Case}
use Rattle.baseline.specs.ShownInner.{Shows}

-- what it shows is the book's
abbrev pub CaseOf : Case → Book → Type 0
CaseOf case book = Shows case.shown case.calendar.now case.readings.now book
