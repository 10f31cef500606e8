-- A receiver is in its role where some row of the register has it: what `any` of the rows answers.
use Rattle.std.specs.Prelude.{◌≡◌, Bool, true, false, ℕ, eqb, List, map, MatchBool}
use Rattle.std.proofs.Common.{sym, eqb-true}
use Rattle.std.proofs.lemmas.Bool.{eqb-false}
use Rattle.integers.proofs.FoundLaws.{SomeBelow, NoneBelow, told}
use Rattle.book.specs.Register.{point_at}
use Rattle.settlement.specs.SectionsInner.{point_count_in}
use Rattle.volumes.specs.Series.{Kind, receiver_of}
use Rattle.reports.specs.Calls.{stands}
use Rattle.partners.specs.PartnersInner.{points_in, receives_at}
use Rattle.partners.specs.PartnersLaws.{role-found, role-none}

module _ (register : List ℕ) (kind : Kind) (receiver : ℕ) where
  pub role-is : (any : Bool) → MatchBool any (SomeBelow (receives_at register kind receiver) (point_count_in register)) (NoneBelow (receives_at register kind receiver) (point_count_in register)) → any ≡ stands receiver (map (receiver_of kind) (points_in register))
  unfolding receives_at
  role-is true h = sym (role-found register kind receiver h.0 h.1 (eqb-true (receiver_of kind (point_at register h.0)) receiver (told (receives_at register kind receiver) true h.0 h.2)))
  role-is false h = sym (role-none register kind receiver (λ j l e. eqb-false (receiver_of kind (point_at register j)) receiver (told (receives_at register kind receiver) false j (h j l)) e))
