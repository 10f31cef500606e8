-- A file's positions are the quarter-hours that the month has: of any year 2,972 in March and 2,980 in October, else 96 for each day, and so none where there is no such month.
use Rattle.std.specs.Prelude.{◌≡◌, refl, ℕ, ◌*◌, ◌≤◌}
use Rattle.std.proofs.Common.{arith, ne_eqb}
use Rattle.calendar.specs.Dates.{month_length}
use Rattle.quarters.specs.Quarters.{quarters_in_month}
use Rattle.quarters.specs.QuartersInner.{longest_month}
use Rattle.quarters.proofs.QuartersLaws.{month-most}
use Rattle.message.specs.Valid.{last_position}

pub last-is : (year month : ℕ) → last_position year month ≡ quarters_in_month year month
unfolding last_position
last-is year month = refl

pub march-last : (year : ℕ) → last_position year 3 ≡ 2972
unfolding quarters_in_month
march-last year = last-is year 3

pub october-last : (year : ℕ) → last_position year 10 ≡ 2980
unfolding quarters_in_month
october-last year = last-is year 10

pub other_last : (year month : ℕ) → (month ≡ 3 → ⊥) → (month ≡ 10 → ⊥) → last_position year month ≡ 96 * month_length year month
unfolding quarters_in_month
other_last year month a b = rw (last-is year month, ne_eqb month 3 a, ne_eqb month 10 b)

pub position-small : (year month : ℕ) → last_position year month ≤ longest_month
position-small year month = omega (arith, last-is year month, month-most year month)
