-- A period is a month of the years that the code takes.
use Rattle.message.proofs.ObservationForm.{to-period}
use Rattle.passages.specs.MonthLaws.{is-month}
use Rattle.passages.proofs.month_of.Goals as goal

pub invariant_of-result : goal.invariant_of-result
invariant_of-result c = record { is_month = is-month (to-period (c.args.year, c.args.month) (search (c.if-not-is_period.ensures))) }

pub returns-clause-early : goal.returns-clause-early
returns-clause-early c = (to-period (c.args.year, c.args.month) (search (c.if-not-is_period.ensures))).to
