-- A party stands in no rows, in one row more where it stands there, and in all rows where it stands in one.
use Rattle.std.specs.Prelude.{◌≡◌, refl, true, false, List, ℕ, suc, ◌+◌, ◌<◌}
use Rattle.std.proofs.Common.{sym, ◌∙◌, arith}
use Rattle.integers.specs.Counts.{stands, times}
use Rattle.integers.specs.Ranges.{range}
use Rattle.integers.specs.First.{any_below}
use Rattle.integers.proofs.FirstLaws.{any-of}
use mathlib.Core.List.{flat_map}
use Rattle.book.specs.Register.{point_at}
use Rattle.volumes.specs.Sheets.{parties_of}
use Rattle.settlement.specs.SectionsInner.{point_count_in}
use Rattle.sheets.specs.PartiesInner.{parties_to, parties_in, in_row}
use Rattle.sheets.specs.PartiesLaws.{party-below}

module _ (version : ℕ) (register : List ℕ) where
  pub no-party : (party : ℕ) → stands party (parties_to version register 0) ≡ false
  unfolding stands parties_to flat_map range times
  no-party party = refl

  -- not in the first i, and not in row i
  pub party-next : (party i : ℕ) → stands party (parties_to version register i) ≡ false → stands party (parties_of version (point_at register i)) ≡ false → stands party (parties_to version register (i + 1)) ≡ false
  unfolding in_row any_below
  party-next party i p q =
      let s : i + 1 ≡ suc i = omega arith in
      rw s (sym (party-below version register party (suc i)) ∙ rw (party-below version register party i, p, q))

  -- in row i, which is one of all
  pub party-here : (party i : ℕ) → i < point_count_in register → stands party (parties_of version (point_at register i)) ≡ true → stands party (parties_in version register) ≡ true
  unfolding in_row
  party-here party i h p =
      let n = point_count_in register in
      sym (party-below version register party n) ∙ any-of (in_row version register party) i n h p
