-- `each` of formats is std's test of each element; and all pass where the run of those that do is as long as the list.
use Rattle.std.specs.Prelude.{◌≡◌, refl, Bool, true, false, cond, ◌&&◌, List, [], ◌∷◌, ℕ, suc, eqb, length}
use Rattle.std.specs.List.{list_all}
use Rattle.std.proofs.Common.{ap, ◌∙◌}
use Rattle.std.proofs.Math.Dec.{eqb-zero-suc, eqb-suc-suc}
use Rattle.formats.specs.Name.{each, span}

pub all_each : (test : ℕ → Bool) (s : List ℕ) → list_all test s ≡ each test s
unfolding each
all_each test [] = refl
all_each test (x ∷ s) = ap (λ b. test x && b) (all_each test s)

pub span-all : (test : ℕ → Bool) (s : List ℕ) → eqb (length (span test s)) (length s) ≡ each test s
unfolding span each
span-all test [] = refl
span-all test (x ∷ s) = go (test x) (span-all test s)
  where
    go : (b : Bool) → eqb (length (span test s)) (length s) ≡ each test s → eqb (length (cond b (x ∷ span test s) [])) (suc (length s)) ≡ (b && each test s)
    go true r = eqb-suc-suc (length (span test s)) (length s) ∙ r
    go false r = eqb-zero-suc (length s)
