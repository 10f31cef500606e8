-- Numbers and items so small that their code doesn't wrap and that no two refusals share one.
use Rattle.std.specs.Prelude.{ℕ, ◌≤◌, Result, Ok, Err}
use Rattle.refusals.specs.Refusals.{Refusal}

-- the table's numbers, and room for more; rows and points are counted from 0 to 511
pub record Small (number item : ℕ) : Type 0 where
  pub number_few : number ≤ 31
  pub item_few : item ≤ 512

abbrev pub SmallReply : {A : Type 0} → Result A Refusal → Type 0
SmallReply (Ok n) = Unit {0}
SmallReply (Err r) = Small r.number r.item
