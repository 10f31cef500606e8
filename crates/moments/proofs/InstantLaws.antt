-- What is read of a real moment keeps every sum of its instant in range.
use Rattle.std.specs.Prelude.{◌≡◌, true, ◌*◌, ◌≤◌}
use Rattle.std.proofs.Common.{arith}
use Rattle.calendar.specs.Dates.{day_number}
use Rattle.calendar.specs.DatesInner.{IsMonth}
use Rattle.calendar.proofs.DatesLaws.{number-most}
use Rattle.moments.specs.declared.Moment.{Moment}
use Rattle.moments.specs.Moments.{real}
use Rattle.moments.specs.MomentsInner.{clock}
use Rattle.moments.specs.MomentsLaws.{real-is, real-month, real-day, instant-clock}

module _ (m : Moment) (e : real m ≡ true) where
  pub its-month : IsMonth m.year m.month
  its-month = real-month m (real-is m e)

  pub its-day : m.day ≤ 31
  its-day = real-day m (real-is m e)

  pub its-number : day_number m.year m.month m.day ≤ 4000000
  its-number = omega (arith, number-most m.year m.month m.day its-month its-day)

  pub its-hour : m.hour ≤ 23
  its-hour = (real-is m e).hour

  pub its-minute : m.minute ≤ 59
  its-minute = (real-is m e).minute

  pub its-second : m.second ≤ 59
  its-second = (real-is m e).second

  pub its-milli : m.milli ≤ 999
  its-milli = (real-is m e).milli

  pub its-offset : m.offset ≤ 2
  its-offset = (real-is m e).summer

  pub its-clock : m.offset * 3600000 ≤ clock m
  unfolding clock
  its-clock = omega (arith, instant-clock m (real-is m e))

pub ruleset real_moments = (its-month, its-day, its-number, its-hour, its-minute, its-second, its-milli, its-offset, its-clock)
