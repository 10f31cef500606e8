-- What `all` answers is whether no day has a category above 3.
use Rattle.std.proofs.Common.{rules, length}
use Rattle.std.proofs.iter.runs.Made.{chains}
use Rattle.integers.proofs.FoundLaws.{all-is}
use Rattle.book.specs.Tables.{bad_day, calendar_good}
use Rattle.judging.proofs.tables.calendar_good.Goals as goal

pub returns : goal.returns
unfolding calendar_good
returns c = all-is (bad_day c.args.calendar.now) (length c.args.calendar.now) c.all.result (search (rules, chains))
