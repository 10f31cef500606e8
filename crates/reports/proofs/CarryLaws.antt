-- A file's rows carry the watts of the series that document 01 defines: what isn't written is zero.
use Rattle.std.specs.Prelude.{◌≡◌, Bool, true, false, ◌&&◌}
use Rattle.std.proofs.Math.Path.{refl, ap}
use Rattle.std.proofs.Common.{sym, ◌∙◌, arith}
use Rattle.std.proofs.Math.Bool.{cond}
use mathlib.Core.List.{List, [], map}
use Prim.Native.Nat.{ℕ, zero, suc, ◌+◌, ◌≤◌, ◌<◌}
use Rattle.std.proofs.Math.Dec.{eqb}
use borrow.Author.Tests.{ltb-false, ne_eqb, eqb-true, eqb-false}
use Rattle.integers.specs.Counts.{times}
use Rattle.integers.specs.Ranges.{range}
use Rattle.integers.specs.Running.{up_to}
use Rattle.integers.specs.Sums.{naturals, sum_by, sum_of}
use Rattle.integers.specs.Keep.{is_some}
use Rattle.integers.proofs.KeepLaws.{keep-sum, not_some}
use Rattle.integers.proofs.AscendingLaws.{ascending-once}
use Rattle.grains.specs.Grains.{whole_watts}
use Rattle.book.specs.declared.Supply.{Supply}
use Rattle.book.specs.declared.Supply.TheVariants.{OffTake, Injection}
use Rattle.book.specs.declared.Direction.{Direction}
use Rattle.book.specs.declared.Direction.TheVariants.{Up, Down}
use Rattle.book.specs.Book.{Book}
use Rattle.quarters.specs.Quarters.{month_quarters}
use Rattle.volumes.specs.Series.{Kind, Toe01, Toe02, grains_at, series_watts, series_of}
use Rattle.volumes.proofs.SeriesLaws.{series-prefix, pair-watts}
use Rattle.message.specs.Contents.{Observation, TimeSeries, Partner}
use Rattle.message.specs.Group.{spread}
use Rattle.message.specs.Rows.{Row, series_rows, partner_rows, rows_of}
use Rattle.reports.specs.FileRows.{supply_number, delivery_number, partner_numbers, directions, is_written, partners_of, file_rows, observation_by, observations_by, time_series_by, partner_by, partners_by}
use Rattle.reports.specs.Watts.{watts_of, watts_in}
use Rattle.reports.proofs.PointsLaws.{Inside, no-watts}
use Rattle.integers.proofs.CountsLaws.{times-mem}
use Rattle.integers.proofs.RunningLaws.{up_to-cong}
use Rattle.integers.proofs.SumsLaws.{sum-zero, sum-all, sum-map, sum-flat_map, sum-once, sum-absent}
use Rattle.reports.specs.FileRowsInner.{positions, observation_at, observations_of, time_series, time_series_of, partner_at}

-- ---- a sum over the rows is a sum over partners, directions and positions

spread-sum : {K A : Type 0} (f : K × A → ℕ) (gs : List (K × List A)) → sum_of f (spread gs) ≡ sum_of (λ g. sum_of (λ a. f (g.0, a)) g.1) gs
unfolding spread
spread-sum f gs =
    sum-flat_map naturals f (λ g. map (λ a. (g.0, a)) g.1) gs
    ∙ sum-all naturals (λ g. sum_of f (map (λ a. (g.0, a)) g.1)) (λ g. sum_of (λ a. f (g.0, a)) g.1) gs (λ g. sum-map naturals f (λ a. (g.0, a)) g.1)

-- what is nothing is so by any test
pub nought : (t : Bool) {n : ℕ} → n ≡ 0 → cond t n 0 ≡ 0
nought true e = e
nought false e = refl

nil-sum : {A : Type 0} (f : A → ℕ) → sum_of f [] ≡ 0
unfolding sum_by
nil-sum f = refl

-- the row at a position of a series, written or not
abbrev pub row_at : Book → Kind → ℕ → ℕ → Supply × Direction → ℕ → Row
row_at book kind receiver n d p = (n, ((supply_number d.0, delivery_number d.1), observation_at book kind receiver (series_of n d.0 d.1) p))

module _ (book : Book) (kind : Kind) (receiver : ℕ) (w : Row → ℕ) (nothing : (r : Row) → r.1.1.watts ≡ 0 → w r ≡ 0) where
  series-sum : (n : ℕ) (d : Supply × Direction)
      → sum_of (λ o. w (n, ((supply_number d.0, delivery_number d.1), o))) (observations_of book kind receiver (series_of n d.0 d.1))
      ≡ sum_of (λ p. w (row_at book kind receiver n d p)) (positions book)
  unfolding observations_of observations_by is_written positions observation_at observation_by series_watts
  series-sum n d =
      let s = series_of n d.0 d.1 in
      let f : Observation → ℕ = λ o. w (n, ((supply_number d.0, delivery_number d.1), o)) in
      keep-sum is_written naturals f (λ o e. nothing (n, ((supply_number d.0, delivery_number d.1), o)) (omega (arith, ltb-false 0 o.watts e))) (map (observation_at book kind receiver s) (positions book))
      ∙ sum-map naturals f (observation_at book kind receiver s) (positions book)

  partner-sum : (n : ℕ)
      → sum_of (λ a. w (n, a)) (spread (map series_rows (time_series_of book kind receiver n)))
      ≡ sum_of (λ d. sum_of (λ p. w (row_at book kind receiver n d p)) (positions book)) directions
  unfolding time_series_of partner_at partner_by time_series time_series_by observations_of observations_by
  partner-sum n =
      let all = map (time_series book kind receiver n) directions in
      let f : TimeSeries → ℕ = λ s. sum_of (λ o. w (n, ((s.supply, s.delivery), o))) s.observations in
      let g : (ℕ × ℕ) × List Observation → ℕ = λ g. sum_of (λ o. w (n, (g.0, o))) g.1 in
      spread-sum (λ a. w (n, a)) (map series_rows (time_series_of book kind receiver n))
      ∙ sum-map naturals g series_rows (time_series_of book kind receiver n)
      ∙ keep-sum (λ (s : TimeSeries). is_some s.observations) naturals f (λ s e. none s (not_some s.observations e)) all
      ∙ sum-map naturals f (time_series book kind receiver n) directions
      ∙ sum-all naturals (λ d. f (time_series book kind receiver n d)) (λ d. sum_of (λ p. w (row_at book kind receiver n d p)) (positions book)) directions (λ d. series-sum n d)
    where
      none : (s : TimeSeries) → s.observations ≡ [] → sum_of (λ o. w (n, ((s.supply, s.delivery), o))) s.observations ≡ 0
      none s e = ap (sum_of (λ o. w (n, ((s.supply, s.delivery), o)))) e ∙ nil-sum (λ o. w (n, ((s.supply, s.delivery), o)))

  pub rows-sum : sum_of w (file_rows book kind receiver) ≡ sum_of (λ n. sum_of (λ d. sum_of (λ p. w (row_at book kind receiver n d p)) (positions book)) directions) (partner_numbers book kind receiver)
  unfolding file_rows rows_of partners_of partners_by partner_at partner_by time_series_of time_series
  rows-sum =
      let all = map (partner_at book kind receiver) (partner_numbers book kind receiver) in
      let f : Partner → ℕ = λ p. sum_of (λ a. w (p.number, a)) (spread (map series_rows p.series)) in
      let g : ℕ × List ((ℕ × ℕ) × Observation) → ℕ = λ g. sum_of (λ a. w (g.0, a)) g.1 in
      spread-sum w (map partner_rows (partners_of book kind receiver))
      ∙ sum-map naturals g partner_rows (partners_of book kind receiver)
      ∙ keep-sum (λ (p : Partner). is_some p.series) naturals f (λ p e. none p (not_some p.series e)) all
      ∙ sum-map naturals f (partner_at book kind receiver) (partner_numbers book kind receiver)
      ∙ sum-all naturals (λ n. f (partner_at book kind receiver n)) (λ n. sum_of (λ d. sum_of (λ p. w (row_at book kind receiver n d p)) (positions book)) directions) (partner_numbers book kind receiver) (λ n. partner-sum n)
    where
      none : (p : Partner) → p.series ≡ [] → sum_of (λ a. w (p.number, a)) (spread (map series_rows p.series)) ≡ 0
      none p e = ap (λ l. sum_of (λ a. w (p.number, a)) (spread (map series_rows l))) e ∙ spread-sum (λ a. w (p.number, a)) [] ∙ nil-sum (λ g. sum_of (λ a. w (p.number, (g.0, a))) g.1)

-- ---- one of each is picked

position_absent : (p a n : ℕ) → p < a → times p (range a n) ≡ 0
unfolding times range
position_absent p a zero h = refl
position_absent p a (suc n) h = rw (ne_eqb p a (λ e. omega arith)) (omega (arith, position_absent p (suc a) n (omega arith)))

pub position-once : (p a n : ℕ) → a ≤ p → p < a + n → times p (range a n) ≡ 1
unfolding times range
position-once p a zero h k = absurd (omega arith)
position-once p a (suc n) h k = go (eqb p a) refl (position-once p (suc a) n)
  where
    go : (t : Bool) → eqb p a ≡ t → (suc a ≤ p → p < suc a + n → times p (range (suc a) n) ≡ 1) → cond t 1 0 + times p (range (suc a) n) ≡ 1
    go true e i = let q : p ≡ a = eqb-true p a e in omega (arith, position_absent p (suc a) n (omega arith))
    go false e i = let q : p ≡ a → ⊥ = eqb-false p a e in omega (arith, i (omega (arith, q)) (omega arith))

pick-position : (p : ℕ) (l : List ℕ) → times p l ≡ 1 → (f : ℕ → ℕ) (a b c : Bool) → sum_of (λ q. cond (a && (b && (c && eqb p q))) (f q) 0) l ≡ cond (a && (b && c)) (f p) 0
pick-position p l h f true true true = sum-once naturals p f l h
pick-position p l h f true true false = sum-zero naturals l
pick-position p l h f true false c = sum-zero naturals l
pick-position p l h f false b c = sum-zero naturals l

pick-direction : (a : Bool) (u : Supply) (v : Direction) (f : Supply × Direction → ℕ) → sum_of (λ d. cond (a && (eqb (supply_number u) (supply_number d.0) && eqb (delivery_number v) (delivery_number d.1))) (f d) 0) directions ≡ cond a (f (u, v)) 0
unfolding sum_by directions supply_number delivery_number
pick-direction false u v f = refl
pick-direction true OffTake Up f = omega arith
pick-direction true OffTake Down f = omega arith
pick-direction true Injection Up f = omega arith
pick-direction true Injection Down f = omega arith

module _ (book : Book) (inside : Inside book) (kind : Kind) (receiver : ℕ) where
  pick-partner : (n : ℕ) (u : Supply) (v : Direction) (p : ℕ) → sum_of (λ m. cond (eqb n m) (series_watts book kind receiver (series_of m u v) p) 0) (partner_numbers book kind receiver) ≡ series_watts book kind receiver (series_of n u v) p
  unfolding partner_numbers
  pick-partner n u v p = go (times n (partner_numbers book kind receiver)) refl
    where
      f : ℕ → ℕ
      f m = series_watts book kind receiver (series_of m u v) p

      go : (t : ℕ) → times n (partner_numbers book kind receiver) ≡ t → sum_of (λ m. cond (eqb n m) (f m) 0) (partner_numbers book kind receiver) ≡ f n
      go zero e = sum-absent naturals n f (partner_numbers book kind receiver) e ∙ sym (no-watts book inside kind receiver (series_of n u v) e p)
      go (suc t) e =
          let o = ascending-once _ in
          sum-once naturals n f (partner_numbers book kind receiver) (o.once n (o.only n (times-mem n (partner_numbers book kind receiver) (omega arith))))

  -- at each position of the month, the rows carry the series' watts
  pub carries : (n : ℕ) (u : Supply) (v : Direction) (p : ℕ) → 1 ≤ p → p ≤ month_quarters book.calendar → watts_in (file_rows book kind receiver) n (supply_number u) (delivery_number v) p ≡ series_watts book kind receiver (series_of n u v) p
  unfolding watts_in watts_of positions observation_at observation_by series_watts
  carries n u v p low most =
      let here : ℕ → Supply × Direction → ℕ = λ m d. series_watts book kind receiver (series_of m d.0 d.1) p in
      let of : ℕ → Supply × Direction → ℕ → ℕ = λ m d q. series_watts book kind receiver (series_of m d.0 d.1) q in
      let su = supply_number u in
      let dv = delivery_number v in
      rows-sum book kind receiver (λ r. cond (eqb n r.0 && (eqb su r.1.0.0 && (eqb dv r.1.0.1 && eqb p r.1.1.position))) r.1.1.watts 0) (λ r e. nought (eqb n r.0 && (eqb su r.1.0.0 && (eqb dv r.1.0.1 && eqb p r.1.1.position))) e)
      ∙ sum-all naturals _ (λ m. cond (eqb n m) (here m (u, v)) 0) (partner_numbers book kind receiver) (λ m.
      sum-all naturals _ (λ d. cond (eqb n m && (eqb su (supply_number d.0) && eqb dv (delivery_number d.1))) (here m d) 0) directions (λ d.
      pick-position p (range 1 (month_quarters book.calendar)) (position-once p 1 (month_quarters book.calendar) low (omega arith)) (of m d) (eqb n m) (eqb su (supply_number d.0)) (eqb dv (delivery_number d.1)))
      ∙ pick-direction (eqb n m) u v (here m))
      ∙ pick-partner n u v p

  -- up to each position, "the series' grains up to it, over 30,240 rounded down"
  pub carries-floor : (n : ℕ) (u : Supply) (v : Direction) (p : ℕ) → p ≤ month_quarters book.calendar → up_to (watts_in (file_rows book kind receiver) n (supply_number u) (delivery_number v)) p ≡ whole_watts (up_to (grains_at book kind receiver (series_of n u v)) p)
  carries-floor n u v p most =
      up_to-cong (watts_in (file_rows book kind receiver) n (supply_number u) (delivery_number v)) (series_watts book kind receiver (series_of n u v)) p (λ q low high. carries n u v q low (omega arith))
      ∙ series-prefix book kind receiver (series_of n u v) p

-- a pair's TOE01 and TOE02 files carry the same watts for it
pub pair-carries : (book : Book) → Inside book → (fsp supplier : ℕ) (u : Supply) (v : Direction) (p : ℕ) → 1 ≤ p → p ≤ month_quarters book.calendar
    → watts_in (file_rows book Toe01 fsp) supplier (supply_number u) (delivery_number v) p ≡ watts_in (file_rows book Toe02 supplier) fsp (supply_number u) (delivery_number v) p
pair-carries book inside fsp supplier u v p low most =
    carries book inside Toe01 fsp supplier u v p low most ∙ pair-watts book fsp supplier u v p ∙ sym (carries book inside Toe02 supplier fsp u v p low most)
