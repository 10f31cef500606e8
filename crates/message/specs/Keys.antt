-- Numbers, and two directions as numbers, as keys.
use Rattle.std.specs.Prelude.{◌≡◌, refl, true, ◌&&◌, ℕ, eqb}
use Rattle.std.proofs.Common.{eqb-true, eq-eqb}
use Rattle.integers.proofs.TestsLaws.{and_left, and_right, and_both}
use Rattle.message.specs.Group.{Keys}

abbrev pub number_keys : Keys ℕ
number_keys = record { same = eqb; alike = eqb-true; itself = λ a. eq-eqb a a refl }

pub directions-alike : (a b : ℕ × ℕ) → (eqb a.0 b.0 && eqb a.1 b.1) ≡ true → a ≡ b
directions-alike a b e =
    let x = eqb-true a.0 b.0 (and_left (eqb a.0 b.0) (eqb a.1 b.1) e) in
    let y = eqb-true a.1 b.1 (and_right (eqb a.0 b.0) (eqb a.1 b.1) e) in
    λ i. (x i, y i)

abbrev pub directions_keys : Keys (ℕ × ℕ)
directions_keys =
    record {
      same = λ a b. eqb a.0 b.0 && eqb a.1 b.1;
      alike = directions-alike;
      itself = λ a. and_both (eq-eqb a.0 a.0 refl) (eq-eqb a.1 a.1 refl);
    }
