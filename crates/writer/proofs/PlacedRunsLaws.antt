-- Laws about runs of rows that are told by their places: a run of one key (`OneKey`) that ends at another key or with the rows is the first group of the rows, since the rows are the run and those behind it (`rows_split`).
-- They stand for whoever goes by places; the writer goes by RunsLaws.
use Rattle.std.specs.Prelude.{◌≡◌, refl, Bool, true, false, ◌&&◌, eqb, ltb, length, get_or}
use Rattle.std.proofs.Common.{sym, ap₂, ◌∙◌, arith, ltb-true, ltb-false}
use Rattle.std.proofs.Math.Path.{ap}
use mathlib.Core.List.{List, ◌∷◌, ◌++◌, map, map-map, map-id, map-append}
use Prim.Native.Nat.{ℕ, zero, suc, ◌+◌, ◌-◌, ◌*◌, ◌≤◌, ◌<◌}
use Rattle.integers.specs.All.{All}
use Rattle.message.specs.Contents.{Observation}
use Rattle.message.specs.Keys.{number_keys, directions_keys}
use Rattle.message.specs.Group.{Keys, group}
use Rattle.message.proofs.GroupLaws.{Ends, leading}
use Rattle.message.specs.Rows.{Row, rows_from}
use Rattle.writer.proofs.PlacedInner.{row_at, PartnerRun, DirectionsRun}

-- rows are the first r of them and those behind
pub rows_split : (l : List ℕ) (at n r m : ℕ) → n ≡ r + m → rows_from l at n ≡ rows_from l at r ++ rows_from l (at + 6 * r) m
unfolding rows_from
rows_split l at n zero m e =
    let f : n ≡ m = omega arith in
    let g : at ≡ at + 6 * 0 = omega arith in
    ap₂ (rows_from l) g f
rows_split l at n (suc r) m e =
    let f : n ≡ suc (r + m) = omega arith in
    let g : at + 6 + 6 * r ≡ at + 6 * suc r = omega arith in
    ap (rows_from l at) f ∙ ap (λ (t : List Row). row_at l at ∷ t) (rows_split l (at + 6) (r + m) r m refl ∙ ap (λ (k : ℕ). rows_from l (at + 6) r ++ rows_from l k m) g)

-- r rows from a place on have one key
abbrev pub OneKey : {K A : Type 0} → (Row → K × A) → List ℕ → K → ℕ → ℕ → Type 0
OneKey f l k at r = (j : ℕ) → j < r → (f (row_at l (at + 6 * j))).0 ≡ k

module _ {K A : Type 0} (f : Row → K × A) (l : List ℕ) (at : ℕ) where
  pub one-first : OneKey f l (f (row_at l at)).0 at 1
  one-first j g = ap (λ (p : ℕ). (f (row_at l p)).0) (omega (arith, g))

  pub one_more : (k : K) (r : ℕ) → OneKey f l k at r → (f (row_at l (at + 6 * r))).0 ≡ k → OneKey f l k at (r + 1)
  one_more k r h e j g = go (ltb j r) refl
    where
      go : (b : Bool) → ltb j r ≡ b → (f (row_at l (at + 6 * j))).0 ≡ k
      go true t = h j (ltb-true j r t)
      go false t = ap (λ (p : ℕ). (f (row_at l (at + 6 * p))).0) (omega (arith, g, ltb-false j r t)) ∙ e

module _ {K A : Type 0} (E : Keys K) (f : Row → K × A) (l : List ℕ) where
  each : (k : K) (at r : ℕ) → OneKey f l k at r → All (λ y. y.0 ≡ k) (map f (rows_from l at r))
  unfolding rows_from All
  each k at zero h = tt
  each k at (suc r) h = (
    ap (λ (p : ℕ). (f (row_at l p)).0) (omega arith) ∙ h 0 (omega arith),
    each k (at + 6) r (λ j g. ap (λ (p : ℕ). (f (row_at l p)).0) (omega arith) ∙ h (suc j) (omega (arith, g))),
  )

  ends : (k : K) (at m : ℕ) → (1 ≤ m → E.same k (f (row_at l at)).0 ≡ false) → Ends E k (map f (rows_from l at m))
  unfolding rows_from Ends
  ends k at zero h = tt
  ends k at (suc m) h = h (omega arith)

  run : (k : K) (at n r m : ℕ) → n ≡ r + m → 1 ≤ r → OneKey f l k at r → (1 ≤ m → E.same k (f (row_at l (at + 6 * r))).0 ≡ false)
      → group E (map f (rows_from l at n)) ≡ (k, map (λ y. y.1) (map f (rows_from l at r))) ∷ group E (map f (rows_from l (at + 6 * r) m))
  unfolding rows_from
  run k at n zero m e s h g = absurd (omega arith)
  run k at n (suc r) m e s h g =
      ap (λ (t : List Row). group E (map f t)) (rows_split l at n (suc r) m e)
      ∙ ap (group E) (map-append f (rows_from l at (suc r)) (rows_from l (at + 6 * suc r) m))
      ∙ leading E k (f (row_at l at)) (map f (rows_from l (at + 6) r)) (map f (rows_from l (at + 6 * suc r) m)) (each k at (suc r) h) (ends k (at + 6 * suc r) m g)

module _ (l : List ℕ) (at n r : ℕ) (s : 1 ≤ r) (w : r ≤ n) where
  pub partner-run : OneKey (λ x. x) l (get_or l at 0) at r → (r < n → eqb (get_or l at 0) (get_or l (at + 6 * r) 0) ≡ false) → PartnerRun l at n r
  partner-run h g =
      record {
        some = s;
        within = w;
        first =
            ap (group number_keys) (sym (map-id (rows_from l at n)))
            ∙ run number_keys (λ x. x) l (get_or l at 0) at n r (n - r) (omega arith) s h (λ d. g (omega (arith, d)))
            ∙ ap₂ (λ (a : List Row) (b : List Row). (get_or l at 0, map (λ x. x.1) a) ∷ group number_keys b) (map-id (rows_from l at r)) (map-id (rows_from l (at + 6 * r) (n - r)));
      }

  pub directions-run : OneKey (λ x. x.1) l (get_or l (at + 1) 0, get_or l (at + 2) 0) at r
      → (r < n → (eqb (get_or l (at + 1) 0) (get_or l (at + 6 * r + 1) 0) && eqb (get_or l (at + 2) 0) (get_or l (at + 6 * r + 2) 0)) ≡ false) → DirectionsRun l at n r
  directions-run h g =
      let k : ℕ × ℕ = (get_or l (at + 1) 0, get_or l (at + 2) 0) in
      record {
        some = s;
        within = w;
        first =
            run directions_keys (λ x. x.1) l k at n r (n - r) (omega arith) s h (λ d. g (omega (arith, d)))
            ∙ ap (λ (a : List Observation). (k, a) ∷ group directions_keys (map (λ x. x.1) (rows_from l (at + 6 * r) (n - r)))) (map-map (λ y. y.1) (λ x. x.1) (rows_from l at r));
      }

-- no rows, no groups
pub no-partners : (l : List ℕ) (at n : ℕ) → n ≡ 0 → length (group number_keys (rows_from l at n)) ≡ 0
unfolding rows_from group
no-partners l at n e = rw e

pub no-series : (l : List ℕ) (at n : ℕ) → n ≡ 0 → length (group directions_keys (map (λ x. x.1) (rows_from l at n))) ≡ 0
unfolding rows_from group
no-series l at n e = rw e
