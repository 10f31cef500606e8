-- What an engagement lacks, as it is sent back: "8, row", "9, row".
use Rattle.std.specs.Prelude.{ℕ}
use Rattle.refusals.specs.Refusals.{Refusal}
use Rattle.baseline.specs.declared.judge.Lack.{Lack}
use Rattle.baseline.specs.declared.judge.Lack.TheVariants.{Reading, Days}

abbrev pub lack_at : Lack → ℕ → Refusal
lack_at Reading row = record { number = 8; item = row }
lack_at Days row = record { number = 9; item = row }
