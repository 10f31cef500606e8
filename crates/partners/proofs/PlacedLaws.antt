-- A partner's rows, where they stand among numbers, can be written: their directions are 0 or 1, as the numbers of a supply and a delivery direction are.
-- It stands for whoever goes by places; the writer lays rows as arrays, of any directions.
use Rattle.std.specs.Prelude.{◌≡◌}
use Rattle.std.proofs.Math.Path.{sym}
use Rattle.std.proofs.Common.{subst, arith}
use mathlib.Core.List.{List, [], ◌∷◌, flat_map}
use Prim.Native.Nat.{ℕ, zero, suc, ◌+◌, ◌*◌, ◌≤◌, ◌<◌}
use Rattle.std.proofs.Math.ListN.{length}
use Rattle.integers.specs.All.{All}
use Rattle.integers.proofs.AllLaws.{all_append}
use Rattle.book.specs.declared.Supply.{Supply}
use Rattle.book.specs.declared.Supply.TheVariants.{OffTake, Injection}
use Rattle.book.specs.declared.Direction.{Direction}
use Rattle.book.specs.declared.Direction.TheVariants.{Up, Down}
use Rattle.book.specs.Book.{Book}
use Rattle.quarters.specs.Quarters.{month_quarters}
use Rattle.volumes.specs.declared.Series.{Series}
use Rattle.volumes.specs.Series.{Kind, grains_at, series_of}
use Rattle.message.specs.Contents.{Observation}
use Rattle.message.specs.Valid.{IsPeriod}
use Rattle.message.specs.Rows.{Row, rows_from}
use Rattle.writer.proofs.PlacedInner.{Directed, Writable}
use Rattle.reports.specs.FileRows.{supply_number, delivery_number, directions, observations_by}
use Rattle.partners.specs.PartnerRowsInner.{rows_by, series_rows_by, series_rows_of, partner_rows_by, partner_rows_of}

directed-all : (l : List ℕ) (at n : ℕ) → All (λ (r : Row). (r.1.0.0 < 2) × (r.1.0.1 < 2)) (rows_from l at n) → (j : ℕ) → j < n → Directed l (at + 6 * j)
unfolding rows_from All
directed-all l at zero h j k = absurd (omega (arith, k))
directed-all l at (suc n) h zero k = subst (λ (p : ℕ). Directed l p) (omega arith) (record { supply = h.0.0; delivery = h.0.1 })
directed-all l at (suc n) h (suc j) k = subst (λ (p : ℕ). Directed l p) (omega arith) (directed-all l (at + 6) n h.1 j (omega (arith, k)))

supply-small : (u : Supply) → supply_number u < 2
unfolding supply_number
supply-small OffTake = omega arith
supply-small Injection = omega arith

delivery-small : (v : Direction) → delivery_number v < 2
unfolding delivery_number
delivery-small Up = omega arith
delivery-small Down = omega arith

module _ (book : Book) (kind : Kind) (receiver partner : ℕ) where
  abbrev Small : Row → Type 0
  Small r = (r.1.0.0 < 2) × (r.1.0.1 < 2)

  by-small : (s : Series) (l : List Observation) → All Small (rows_by s l)
  unfolding rows_by All
  by-small s [] = tt
  by-small s (o ∷ l) = ((supply-small s.supply, delivery-small s.delivery), by-small s l)

  series-small : (l : List (Supply × Direction)) → All Small (flat_map (λ (d : Supply × Direction). series_rows_of book kind receiver (series_of partner d.0 d.1)) l)
  unfolding flat_map series_rows_by All
  series-small [] = tt
  series-small (d ∷ l) =
      let s = series_of partner d.0 d.1 in
      all_append Small (series_rows_of book kind receiver s) (flat_map (λ (d : Supply × Direction). series_rows_of book kind receiver (series_of partner d.0 d.1)) l)
      (by-small s (observations_by (grains_at book kind receiver s) (month_quarters book.calendar)))
      (series-small l)

  pub partner-writable : (l : List ℕ) (n year month : ℕ) → 6 * n ≤ length l → rows_from l 0 n ≡ partner_rows_of book kind receiver partner → IsPeriod year month → Writable l 0 n year month
  unfolding partner_rows_by
  partner-writable l n year month w e p =
      record { within = omega arith; directed = directed-all l 0 n (subst (All Small) (sym e) (series-small directions)); period = λ h. p }
