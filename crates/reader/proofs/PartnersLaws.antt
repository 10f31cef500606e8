-- What the code keeps of partners: the month that is seen behind all, and their rows.
use Rattle.std.specs.Prelude.{◌≡◌, refl, ℕ, suc}
use Rattle.std.proofs.Common.{sym, ap, ap₂, ◌∙◌}
use mathlib.Core.List.{List, [], ◌∷◌, ◌++◌, map, flat_map, map-append}
use Rattle.message.specs.Contents.{Observation, TimeSeries, Partner, number}
use Rattle.message.specs.Valid.{month_of, periods}
use Rattle.message.specs.Months.{after, next_months}
use Rattle.message.specs.Group.{spread}
use Rattle.message.specs.Rows.{Row, series_rows, rows_of}
use Rattle.series_reader.specs.RowsInner.{rows_of_observations, rows_of_all}
use Rattle.series_reader.specs.TurnsInner.{behind}
use Rattle.reader.specs.PartnersInner.{rows_of_partners, month_behind}

-- ---- the month

after-both : (q : ℕ × ℕ) (a b : List (ℕ × ℕ)) → after (after q a) b ≡ after q (a ++ b)
unfolding after
after-both q [] b = refl
after-both q (x ∷ a) b = after-both x a b

-- the state behind a partner
abbrev pub on : ℕ × (ℕ × ℕ) → Partner → ℕ × (ℕ × ℕ)
on st p = (suc (number p), next_months st.1 p)

month-on : (st : ℕ × (ℕ × ℕ)) (l : List Partner) → (behind on st l).1 ≡ after st.1 (periods l)
unfolding behind after periods flat_map
month-on st [] = refl
month-on st (p ∷ l) = month-on (on st p) l ∙ after-both st.1 (map month_of p.series) (periods l)

pub month-last : (st : ℕ × (ℕ × ℕ)) (l : List Partner) → behind on (0, (0, 0)) l ≡ st → month_behind l ≡ st.1
month-last st l e = sym (month-on (0, (0, 0)) l) ∙ ap (λ (x : ℕ × (ℕ × ℕ)). x.1) e

-- ---- the rows

one-series : (n : ℕ) (ways : ℕ × ℕ) (l : List Observation) → rows_of_observations n ways l ≡ map (λ (r : (ℕ × ℕ) × Observation). (n, r)) (map (λ o. (ways, o)) l)
unfolding rows_of_observations flat_map
one-series n ways [] = refl
one-series n ways (o ∷ l) = ap (λ (k : List Row). (n, (ways, o)) ∷ k) (one-series n ways l)

all-series : (n : ℕ) (l : List TimeSeries) → rows_of_all n l ≡ map (λ (r : (ℕ × ℕ) × Observation). (n, r)) (spread (map series_rows l))
unfolding rows_of_all spread flat_map
all-series n [] = refl
all-series n (s ∷ l) =
    ap₂ (λ (a b : List Row). a ++ b) (one-series n (s.supply, s.delivery) s.observations) (all-series n l)
    ∙ sym (map-append (λ (r : (ℕ × ℕ) × Observation). (n, r)) (map (λ o. ((s.supply, s.delivery), o)) s.observations) (spread (map series_rows l)))

pub rows-are : (l : List Partner) → rows_of_partners l ≡ rows_of l
unfolding rows_of_partners rows_of spread flat_map
rows-are [] = refl
rows-are (p ∷ l) = ap₂ (λ (a b : List Row). a ++ b) (all-series p.number p.series) (rows-are l)
