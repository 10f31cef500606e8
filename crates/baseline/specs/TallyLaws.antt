-- A tally grows by one reading, and by the tally of another list.
use Rattle.std.specs.Prelude.{◌≡◌, refl, Bool, true, false, Option, Some, None, is_some, unwrap_or, cond, not, ◌&&◌, List, [], ◌∷◌, ◌++◌, map, ℕ, suc, ◌+◌, ◌*◌, ◌<◌, eqb, ℤ, pos, negsuc, ◌+ℤ◌}
use Rattle.std.proofs.Common.{sym, ap, ap₂, ◌∙◌, arith, eqb-true, eq-eqb, ne_eqb}
use Rattle.std.proofs.Math.Bool.{and-true}
use Rattle.std.proofs.lemmas.List.{map-append}
use Rattle.std.proofs.Math.IntN.{+ℤ_idr}
use Rattle.std.proofs.lemmas.Bool.{eqb-false}
use Rattle.integers.specs.Ranges.{range}
use Rattle.integers.proofs.TestsLaws.{both}
use Rattle.integers.specs.Sums.{sum_z, sum_by, integers}
use Rattle.integers.proofs.ZLaws.{Over, Within, over_add}
use Rattle.wire.specs.Readings.{Reading, reading_at, reading_of, missing_if}
use Rattle.wire.specs.ReadingsLaws.{raised-over}
use Rattle.volumes.specs.Baseline.{watts, known, complete}
use Rattle.volumes.proofs.BaselineLaws.{complete-append}
use Rattle.baseline.specs.TallyInner.{in_run, Summed, Tallied}
use Rattle.integers.proofs.RangesLaws.{range-more}
use Rattle.integers.proofs.SumsLaws.{sum-append}
use Rattle.wire.specs.ReadingsInner.{raised, raise}

pub run_more : (readings : List ℕ) (at n : ℕ) → in_run readings at (n + 1) ≡ in_run readings at n ++ (reading_at readings (at + n) ∷ [])
run_more readings at n = ap (map (reading_at readings)) (range-more at n) ∙ map-append (reading_at readings) (range at n) ((at + n) ∷ [])

pub complete-more : (l : List Reading) (r : Reading) → complete (l ++ (r ∷ [])) ≡ (complete l && known r)
unfolding complete
complete-more l r = complete-append l (r ∷ []) ∙ ap (λ (b : Bool). complete l && b) (and-true (known r))

-- a raised reading tells whether the reading is there, and its watts
pub record There (reading : Reading) (r : ℕ) : Type 0 where
  pub is : not (eqb r 0) ≡ known reading
  pub sum : known reading ≡ true → Over raise (watts reading) r

negative : (w r : ℕ) (b : Bool) → eqb (suc w) 2147483648 ≡ b → r + suc w ≡ 2147483648 → There (missing_if b (Some (negsuc w))) r
unfolding watts known
negative w r true e o = record { is = ap not (eq-eqb r 0 (omega (arith, eqb-true (suc w) 2147483648 e))); sum = λ z. let q : ◌≡◌ {A = ℕ} 0 1 = cc in absurd (omega arith) }
negative w r false e o = record { is = ap not (ne_eqb r 0 (λ q. eqb-false (suc w) 2147483648 e (omega arith))); sum = λ z. record { law = omega arith } }

pub there : (z : ℤ) (r : ℕ) → Within z raise → r ≡ raised (reading_of z) → There (reading_of z) r
unfolding reading_of watts known
there (pos w) r h e = let o = raised-over (pos w) h in record { is = ap not (ne_eqb r 0 (λ q. omega arith)); sum = λ z. record { law = omega arith } }
there (negsuc w) r h e = let o = raised-over (negsuc w) h in negative w r (eqb (suc w) 2147483648) refl (omega arith)

sum_more : (l : List Reading) (r : Reading) → sum_z watts (l ++ (r ∷ [])) ≡ sum_z watts l +ℤ watts r
unfolding sum_by
sum_more l r = sum-append integers watts l (r ∷ []) ∙ ap (λ (z : ℤ). sum_z watts l +ℤ z) (+ℤ_idr (watts r))

-- one reading more
pub sum-more : (l : List Reading) (n sum : ℕ) (reading : Reading) (r : ℕ) → Summed l n sum → There reading r → r < 4294967296 → Summed (l ++ (reading ∷ [])) (n + 1) (sum + r)
sum-more l n sum reading r h k small =
    record {
      over = λ e. let parts = both (complete l) (known reading) (sym (complete-more l reading) ∙ e) in rw (sum_more l reading) (over_add (raise * (n + 1)) (h.over parts.0) (k.sum parts.1) (omega arith));
      small = omega (arith, h.small);
    }

pub sum-none : Summed [] 0 0
unfolding complete sum_by
sum-none = record { over = λ e. record { law = omega arith }; small = omega arith }

-- two lists, one after the other
pub sum-both : (l m : List Reading) (n k t u : ℕ) → Summed l n t → Summed m k u → Summed (l ++ m) (n + k) (t + u)
sum-both l m n k t u h g =
    record {
      over = λ e. let parts = both (complete l) (complete m) (sym (complete-append l m) ∙ e) in rw (sum-append integers watts l m) (over_add (raise * (n + k)) (h.over parts.0) (g.over parts.1) (omega arith));
      small = omega (arith, h.small, g.small);
    }

-- a tally tells whether its readings are there
pub is_whole : (l : List Reading) (n : ℕ) (t : Option ℕ) → Tallied l n t → is_some t ≡ complete l
is_whole l n (Some sum) h = sym h.0
is_whole l n None h = sym h

-- and its sum, where they are
pub sum-of : (l : List Reading) (n : ℕ) (t : Option ℕ) → Tallied l n t → Summed l n (unwrap_or t 0)
sum-of l n (Some sum) h = h.1
sum-of l n None h = record { over = λ e. let z : ◌≡◌ {A = ℕ} 0 1 = cc in absurd (omega arith); small = omega arith }

-- the sum of two tallies, where both are there
abbrev pub joined : Option ℕ → Option ℕ → Option ℕ
joined None u = None
joined (Some t) None = None
joined (Some t) (Some u) = Some (t + u)

pub tally-more : (l : List Reading) (n : ℕ) (t : Option ℕ) (reading : Reading) (r : ℕ) → Tallied l n t → There reading r → r < 4294967296
    → Tallied (l ++ (reading ∷ [])) (n + 1) (joined t (cond (eqb r 0) None (Some r)))
tally-more l n None reading r h k small = complete-more l reading ∙ ap (λ (b : Bool). b && known reading) h
tally-more l n (Some t) reading r h k small = go (eqb r 0) refl
  where
    go : (b : Bool) → eqb r 0 ≡ b → Tallied (l ++ (reading ∷ [])) (n + 1) (joined (Some t) (cond b None (Some r)))
    go true e = complete-more l reading ∙ ap₂ ◌&&◌ h.0 (sym k.is ∙ ap not e)
    go false e = (complete-more l reading ∙ ap₂ ◌&&◌ h.0 (sym k.is ∙ ap not e), sum-more l n t reading r h.1 k small)

pub tally-none : Tallied [] 0 (Some 0)
unfolding complete
tally-none = (refl, sum-none)

-- two lists, one after the other
pub tally-append : (l m : List Reading) (n k : ℕ) (t u : Option ℕ) → Tallied l n t → Tallied m k u → Tallied (l ++ m) (n + k) (joined t u)
tally-append l m n k None u h g = complete-append l m ∙ ap (λ (b : Bool). b && complete m) h
tally-append l m n k (Some t) None h g = complete-append l m ∙ ap₂ ◌&&◌ h.0 g
tally-append l m n k (Some t) (Some u) h g = (complete-append l m ∙ ap₂ ◌&&◌ h.0 g.0, sum-both l m n k t u h.1 g.1)
