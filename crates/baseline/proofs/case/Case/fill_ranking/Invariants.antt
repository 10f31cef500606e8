-- The days from A - 1 down to the present one have been scanned, and those that are eligible are ranked.
use Rattle.std.proofs.Common.{◌≡◌, ◌≤◌, take, drop, length}
use Rattle.book.specs.Book.{Book}
use Rattle.baseline.specs.CaseInner.{CaseOf}
use Rattle.baseline.specs.RanksLaws.{Scanned}
use Rattle.baseline.proofs.case.Case.fill_ranking.Given as goal

abbrev pub invariant-loop-day : goal.invariant-loop-day
invariant-loop-day l = (l.y ≡ l.self.shown.y) × (l.ranking.found ≤ l.y) × (length l.ranking.keys ≡ 20) × ((b : Book) → CaseOf l.self b → Scanned b l.self.shown.e l.day (take l.ranking.found l.ranking.keys)) × (drop l.ranking.found l.ranking.keys ≡ drop l.ranking.found l.initial.ranking.keys)
