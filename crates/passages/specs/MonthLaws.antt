-- A period of a file is a month of the years that the code takes: the period's years, 2018 to 2099, lie within them.
use Rattle.std.specs.Prelude.{ℕ}
use Rattle.std.proofs.Common.{arith}
use Rattle.message.specs.Valid.{IsPeriod}
use Rattle.calendar.specs.DatesInner.{IsMonth}

pub is-month : {year month : ℕ} → IsPeriod year month → IsMonth year month
is-month p = record { from = omega (arith, p.from); to = omega (arith, p.to); january = p.january; december = p.december }
