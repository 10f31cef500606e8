-- The rows of a valid file's partners give these partners, and the partners of rows give these rows.
use Rattle.std.specs.Prelude.{◌≡◌, refl, true, ◌&&◌, ℕ, ◌≤◌, length, eqb}
use Rattle.std.proofs.Common.{sym, ap, ap₂, ◌∙◌, length-append, arith, eqb-true}
use mathlib.Core.List.{List, [], ◌∷◌, map, flat_map}
use Rattle.std.proofs.lemmas.List.{length-map}
use Rattle.integers.proofs.TestsLaws.{and_left, and_right}
use Rattle.integers.specs.Rises.{rises}
use Rattle.integers.specs.All.{All}
use Rattle.kinds.specs.declared.Kind.{Kind}
use Rattle.message.specs.Contents.{Observation, TimeSeries, Partner, place, number}
use Rattle.message.specs.Valid.{month_of, periods, first_of, IsSeries, IsPartner}
use Rattle.message.specs.Keys.{number_keys, directions_keys}
use Rattle.message.specs.Group.{group, spread}
use Rattle.message.specs.Rows.{Row, series_rows, partner_rows, rows_of, series_of, partner_of, partners_of}
use Rattle.integers.proofs.AllLaws.{all_map, all_of, all_left, all_right, map-all}
use Rattle.message.proofs.GroupLaws.{spread-group, group-spread, rising-groups, first_group}

map-undo : {A B : Type 0} (f : A → B) (g : B → A) (l : List A) → All (λ a. g (f a) ≡ a) l → map g (map f l) ≡ l
unfolding All
map-undo f g [] h = refl
map-undo f g (a ∷ l) h = ap₂ ◌∷◌ h.0 (map-undo f g l h.1)

-- ---- rows, their partners, and rows again

partner-undo : (q : ℕ × ℕ) (g : ℕ × List ((ℕ × ℕ) × Observation)) → partner_rows (partner_of q g) ≡ g
partner-undo q g =
    ap (λ (l : List ((ℕ × ℕ) × Observation)). (g.0, l))
    (ap spread (map-undo (series_of q) series_rows (group directions_keys g.1) (all_of _ (λ h. refl) (group directions_keys g.1))) ∙ spread-group directions_keys g.1)

pub rows-undo : (q : ℕ × ℕ) (rows : List Row) → rows_of (partners_of q rows) ≡ rows
unfolding rows_of partners_of
rows-undo q rows =
    ap spread (map-undo (partner_of q) partner_rows (group number_keys rows) (all_of _ (partner-undo q) (group number_keys rows))) ∙ spread-group number_keys rows

-- ---- partners of one month, their rows, and the partners again

one_place : (a b : TimeSeries) → (eqb a.supply b.supply && eqb a.delivery b.delivery) ≡ true → place a ≡ place b
one_place a b e =
    let x = eqb-true a.supply b.supply (and_left (eqb a.supply b.supply) (eqb a.delivery b.delivery) e) in
    let y = eqb-true a.delivery b.delivery (and_right (eqb a.supply b.supply) (eqb a.delivery b.delivery) e) in
    omega arith

series-undo : (q : ℕ × ℕ) (l : List TimeSeries) → rises 0 (map place l) ≡ true → All IsSeries l → All (λ (s : TimeSeries). month_of s ≡ q) l
    → map (series_of q) (group directions_keys (spread (map series_rows l))) ≡ l
series-undo q l r v m =
    ap (map (series_of q)) (group-spread directions_keys (map series_rows l) (rising-groups directions_keys series_rows place one_place 0 l r (all_map (λ s h. h.volume.counted.some) l v)))
    ∙ map-undo series_rows (series_of q) l (all_map (λ s e. ap (λ (p : ℕ × ℕ). series_of p (series_rows s)) (sym e)) l m)

-- a partner has rows
pub some-rows : (l : List TimeSeries) → 1 ≤ length l → All IsSeries l → 1 ≤ length (spread (map series_rows l))
unfolding spread flat_map All
some-rows [] h v = absurd (omega arith)
some-rows (s ∷ l) h v =
    let f : Observation → (ℕ × ℕ) × Observation = λ o. ((s.supply, s.delivery), o) in
    omega (arith, length-append (map f s.observations) (spread (map series_rows l)), length-map s.observations f, v.0.volume.counted.some)

partner-again : (k : Kind) (q : ℕ × ℕ) (ps : List Partner) → All (IsPartner k) ps → All (λ x. x ≡ q) (periods ps) → All (λ (p : Partner). partner_of q (partner_rows p) ≡ p) ps
unfolding All periods flat_map
partner-again k q [] v m = tt
partner-again k q (p ∷ ps) v m =
    let months = map-all (λ x. x ≡ q) month_of p.series (all_left (λ x. x ≡ q) (map month_of p.series) (periods ps) m) in (
      ap (λ (l : List TimeSeries). record { number = p.number; series = l }) (series-undo q p.series v.0.rising v.0.each months),
      partner-again k q ps v.1 (all_right (λ x. x ≡ q) (map month_of p.series) (periods ps) m),
    )

pub partners-undo : (k : Kind) (q : ℕ × ℕ) (ps : List Partner) → rises 0 (map number ps) ≡ true → All (IsPartner k) ps → All (λ x. x ≡ q) (periods ps)
    → partners_of q (rows_of ps) ≡ ps
unfolding rows_of partners_of
partners-undo k q ps r v m =
    ap (map (partner_of q))
    (group-spread number_keys (map partner_rows ps)
    (rising-groups number_keys partner_rows number (λ a b e. eqb-true a.number b.number e) 0 ps r (all_map (λ p h. some-rows p.series h.counted.some h.each) ps v)))
    ∙ map-undo partner_rows (partner_of q) ps (partner-again k q ps v m)

-- ---- the month

-- partners that are made of rows are of the month q
pub first-month : (q : ℕ × ℕ) (x : Row) (rows : List Row) → first_of (periods (partners_of q (x ∷ rows))) ≡ q
unfolding partners_of periods flat_map first_of
first-month q x rows =
    let a = first_group number_keys x rows in
    let b = first_group directions_keys x.1 a.more in
    rw a.is (rw b.is refl)
