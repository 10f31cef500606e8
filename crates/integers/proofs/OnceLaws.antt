-- Two lists that hold each number of a column once have the same sums, in whichever order.
use Rattle.std.specs.Prelude.{◌≡◌, cond, ℕ, eqb}
use Rattle.std.proofs.Common.{sym, ◌∙◌}
use mathlib.Core.List.{List, Memᴰ}
use Rattle.integers.specs.Counts.{times}
use Rattle.integers.specs.Sums.{Adding, sum_by}
use Rattle.integers.proofs.CountsLaws.{eqb-sym}
use Rattle.integers.proofs.SumsLaws.{sum-cong, sum-swap, sum-once}

-- each number of the column stands once in l, and no other does
pub record Once (l column : List ℕ) : Type 0 where
  pub once : (x : ℕ) → Memᴰ x column → times x l ≡ 1
  pub only : (x : ℕ) → Memᴰ x l → Memᴰ x column

pub once-sum : {M : Type 0} (S : Adding M) (f : ℕ → M) (l m column : List ℕ) → Once l column → Once m column → sum_by S f l ≡ sum_by S f m
once-sum S f l m column p q =
    sum-cong S f (λ x. sum_by S (λ y. cond (eqb x y) (f y) S.none) m) l (λ x h. sym (sum-once S x f m (q.once x (p.only x h))))
    ∙ sum-swap S (λ x y. cond (eqb x y) (f y) S.none) l m
    ∙ sum-cong S (λ y. sum_by S (λ x. cond (eqb x y) (f y) S.none) l) f m (λ y h. sum-cong S (λ x. cond (eqb x y) (f y) S.none) (λ x. cond (eqb y x) (f y) S.none) l (λ x _. rw (eqb-sym x y)) ∙ sum-once S y (λ _. f y) l (p.once y (q.only y h)))
