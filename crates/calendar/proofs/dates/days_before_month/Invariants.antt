-- `days_before_month` meets its contract: the loop's sum is that of the months passed, at most 31 days each.
use Prim.Native.Nat.{◌*◌, ◌≤◌}
use mathlib.Core.Path.{◌≡◌}
use Rattle.calendar.specs.Dates.{days_before_month}
use Rattle.calendar.proofs.dates.days_before_month.Given as goal

abbrev pub invariant-loop-m : goal.invariant-loop-m
invariant-loop-m l = (l.days ≡ days_before_month l.year l.m) × (l.days ≤ 31 * l.m)
