-- The cells hold the sheet of the engagements passed; what stands behind them is as it was.
use mathlib.Core.Path.{◌≡◌}
use mathlib.Core.List.{◌++◌}
use lib.ListN.{drop}
use Rattle.quarters.specs.Quarters.{month_quarters}
use Rattle.settlement.specs.OpenedInner.{book_in}
use Rattle.sheets.specs.PartsInner.{sheet_to}
use Rattle.sheets.proofs.fill.fill_cells.Given as goal

abbrev pub invariant-loop-i : goal.invariant-loop-i
invariant-loop-i l = l.sums ≡ sheet_to (book_in l.opened) l.party l.i ++ drop (month_quarters l.opened.c.calendar) l.initial.sums
