-- The rows that are filled of a partner are the file's, the writer can lay them, and lays the partner of them.
use Rattle.std.specs.Prelude.{◌≡◌, refl, Bool, true, false, get_or, drop, set, ltb}
use Rattle.std.proofs.Math.Path.{sym, ap}
use Rattle.std.proofs.Common.{ap₂, subst, take, take_at, ◌∙◌, ⊎_elim, arith, length-append, le-leb, le-ltb, lt-ltb}
use Rattle.std.proofs.Math.Bool.{cond}
use mathlib.Core.List.Memᴰ
use mathlib.Core.List.{List, [], ◌∷◌, ◌++◌, map, flat_map, map-map, map-append, append_assoc, append-nil, Memᴰ}
use Prim.Native.Nat.{ℕ, ◌+◌, ◌≤◌, ◌<◌}
use Rattle.std.proofs.Math.ListN.{length, length-map}
use Rattle.std.proofs.lemmas.List.Edits.{sets, sets-eq}
use Rattle.std.proofs.Math.Seq.{length-sets}
use Rattle.integers.proofs.TestsLaws.{and_both}
use Rattle.integers.specs.Ranges.{range}
use Rattle.integers.specs.Rises.{rises}
use Rattle.integers.specs.All.{All}
use Rattle.integers.specs.Keep.{keep, is_some}
use Rattle.integers.proofs.KeepLaws.{keep-mem, mem-keep, keep-rises, keep-length}
use Rattle.integers.specs.Ascending.{ascending}
use Rattle.integers.proofs.AscendingLaws.{ascending-once}
use Rattle.message.specs.Keys.{number_keys}
use Rattle.message.specs.Group.{group}
use Rattle.message.specs.Rows.{partner_of as regrouped_one}
use Rattle.book.specs.declared.Supply.{Supply}
use Rattle.book.specs.declared.Supply.TheVariants.{OffTake, Injection}
use Rattle.book.specs.declared.Direction.{Direction}
use Rattle.book.specs.declared.Direction.TheVariants.{Up, Down}
use Rattle.book.specs.Book.{Book}
use Rattle.volumes.specs.declared.Series.{Series}
use Rattle.volumes.specs.Series.{Kind, grains_at, series_of}
use Rattle.volumes.specs.SoundInner.{Sound}
use Rattle.volumes.specs.Settlement.{rows}
use Rattle.settlement.specs.StoresLaws.{sets-append}
use Rattle.message.specs.Contents.{Observation, TimeSeries, Partner, number}
use Rattle.message.specs.Valid.{month_of, periods, IsPartner}
use Rattle.message.specs.Bytes.{partner_bytes}
use Rattle.message.specs.Reading.{observed}
use Rattle.message.specs.Group.{spread}
use Rattle.message.specs.Rows.{Row, row_numbers, series_rows, rows_of, partners_of as regrouped}
use Rattle.message.proofs.RowsLaws.{partners-undo}
use Rattle.writer.specs.ContentsInner.{partners_in}
use Rattle.reports.specs.FileRows.{supply_number, delivery_number, directions, partner_numbers, is_written, partners_of, Volumes, observations_by, time_series_by, partner_by, partners_by}
use Rattle.partners.specs.PartnersInner.{partner_if, partner_column, no_partner, Next}
use Rattle.series.specs.SumsInner.{cell_at}
use Rattle.partners.specs.ObservationsInner.{observation_if, observations_in}
use Rattle.partners.specs.ObservationsLaws.{no-observation, one-observation, observations-none, observations-more}
use Rattle.reports.specs.RegisteredInner.{Registered}
use Rattle.reports.proofs.FormLaws.{partners-valid}
use Rattle.partners.specs.PartnerRowsInner.{row_of, rows_by, series_rows_of, partner_rows_of, FileRowsFilled, series_rows_by, partner_rows_by}
use Rattle.quarters.specs.Quarters.{month_quarters}
use Rattle.integers.proofs.AllLaws.{each_all, all-each}
use Rattle.integers.proofs.CountsLaws.{times-mem}
use Rattle.integers.proofs.RangesLaws.{length-range}
use Rattle.message.proofs.GroupLaws.{first_group}
use Rattle.reports.specs.FileRowsInner.{observations_of, partner_at}
use Rattle.writer.specs.RowsInner.{row_in}

-- ---- lists

map-flat_map : {A B C : Type 0} (f : B → C) (g : A → List B) (l : List A) → map f (flat_map g l) ≡ flat_map (λ a. map f (g a)) l
unfolding flat_map
map-flat_map f g [] = refl
map-flat_map f g (a ∷ l) = map-append f (g a) (flat_map g l) ∙ ap (λ r. map f (g a) ++ r) (map-flat_map f g l)

flat_map-map : {A B C : Type 0} (f : B → List C) (g : A → B) (l : List A) → flat_map f (map g l) ≡ flat_map (λ a. f (g a)) l
unfolding flat_map
flat_map-map f g [] = refl
flat_map-map f g (a ∷ l) = ap (λ r. f (g a) ++ r) (flat_map-map f g l)

flat_map-cong : {A B : Type 0} (f g : A → List B) (l : List A) → ((a : A) → f a ≡ g a) → flat_map f l ≡ flat_map g l
unfolding flat_map
flat_map-cong f g [] h = refl
flat_map-cong f g (a ∷ l) h = ap₂ ◌++◌ (h a) (flat_map-cong f g l h)

-- ---- a partner's rows in the file are those of all its series: empty ones have none

spread-some : (l : List TimeSeries) → spread (map series_rows (keep (λ s. is_some s.observations) l)) ≡ spread (map series_rows l)
unfolding spread flat_map keep is_some
spread-some [] = refl
spread-some (s ∷ l) = go s.observations refl (spread-some l)
  where
    go : (o : List Observation) → s.observations ≡ o → spread (map series_rows (keep (λ t. is_some t.observations) l)) ≡ spread (map series_rows l)
        → spread (map series_rows (cond (is_some o) (s ∷ keep (λ t. is_some t.observations) l) (keep (λ t. is_some t.observations) l))) ≡ map (λ a. ((s.supply, s.delivery), a)) s.observations ++ spread (map series_rows l)
    go [] e i = i ∙ ap (λ (r : List Observation). map (λ a. ((s.supply, s.delivery), a)) r ++ spread (map series_rows l)) (sym e)
    go (a ∷ o) e i = ap (λ r. map (λ a. ((s.supply, s.delivery), a)) s.observations ++ r) i

one-rows : (p : Partner) → rows_of (keep (λ q. is_some q.series) (p ∷ [])) ≡ map (λ a. (p.number, a)) (spread (map series_rows p.series))
unfolding rows_of spread flat_map keep is_some
one-rows p = go p.series refl
  where
    go : (l : List TimeSeries) → p.series ≡ l → rows_of (cond (is_some l) (p ∷ []) []) ≡ map (λ a. (p.number, a)) (spread (map series_rows p.series))
    go [] e = sym (ap (λ (r : List TimeSeries). map (λ a. (p.number, a)) (spread (map series_rows r))) e)
    go (s ∷ l) e = append-nil _

pub partner-rows : (volumes : Volumes) (q : ℕ × ℕ) (last partner : ℕ) → rows_of (keep (λ p. is_some p.series) (partner_by volumes q last partner ∷ [])) ≡ partner_rows_by volumes last partner
unfolding partner_by time_series_by partner_rows_by series_rows_by rows_by spread
partner-rows volumes q last partner =
    one-rows (partner_by volumes q last partner)
    ∙ ap (map (λ a. (partner, a))) (spread-some (map (time_series_by volumes q last partner) directions))
    ∙ map-flat_map (λ a. (partner, a)) (λ g. map (λ a. (g.0, a)) g.1) (map series_rows (map (time_series_by volumes q last partner) directions))
    ∙ flat_map-map _ series_rows (map (time_series_by volumes q last partner) directions)
    ∙ flat_map-map _ (time_series_by volumes q last partner) directions
    ∙ flat_map-cong _ (λ (d : Supply × Direction). series_rows_by volumes last (series_of partner d.0 d.1)) directions (λ d. map-map (λ a. (partner, a)) (λ a. ((supply_number d.0, delivery_number d.1), a)) (observations_by (volumes (series_of partner d.0 d.1)) last))

-- ---- the partner of these rows is the file's

months-kept : (t : TimeSeries → Bool) (q : ℕ × ℕ) (l : List TimeSeries) → All (λ (s : TimeSeries). month_of s ≡ q) l → All (λ x. x ≡ q) (map month_of (keep t l))
unfolding All keep
months-kept t q [] h = tt
months-kept t q (s ∷ l) h = go (t s) (months-kept t q l h.1)
  where
    go : (b : Bool) → All (λ x. x ≡ q) (map month_of (keep t l)) → All (λ x. x ≡ q) (map month_of (cond b (s ∷ keep t l) (keep t l)))
    go true i = (h.0, i)
    go false i = i

one-month : (t : Partner → Bool) (q : ℕ × ℕ) (p : Partner) → All (λ x. x ≡ q) (map month_of p.series) → All (λ x. x ≡ q) (periods (keep t (p ∷ [])))
unfolding All keep periods flat_map
one-month t q p h = go (t p)
  where
    go : (b : Bool) → All (λ x. x ≡ q) (periods (cond b (p ∷ []) []))
    go true = subst (All (λ x. x ≡ q)) (sym (append-nil (map month_of p.series))) h
    go false = tt

partner-month : (volumes : Volumes) (q : ℕ × ℕ) (last partner : ℕ) → All (λ x. x ≡ q) (periods (keep (λ p. is_some p.series) (partner_by volumes q last partner ∷ [])))
unfolding partner_by time_series_by directions All
partner-month volumes q last partner = one-month _ q (partner_by volumes q last partner) (months-kept (λ s. is_some s.observations) q (map (time_series_by volumes q last partner) directions) (refl, (refl, (refl, (refl, tt)))))

module _ (book : Book) (kind : Kind) (receiver partner : ℕ) where
  partner-rises : rises 0 (map number (partner_if book kind receiver partner)) ≡ true
  unfolding partner_if rises
  partner-rises = keep-rises (λ (p : Partner). is_some p.series) number 0 (partner_at book kind receiver partner ∷ []) (and_both (le-leb 0 (partner_at book kind receiver partner).number (omega arith)) refl)

  module _ (sound : Sound book) (registered : Registered book) (known : Memᴰ partner (partner_numbers book kind receiver)) where
    partner-ok : All (IsPartner kind) (partner_if book kind receiver partner)
    unfolding partner_if partners_of partners_by partner_at
    partner-ok = each_all (IsPartner kind) _ (λ p m. go p (mem-keep (λ (p : Partner). is_some p.series) (partner_at book kind receiver partner ∷ []) p m))
      where
        all : All (IsPartner kind) (partners_of book kind receiver)
        all = partners-valid book sound registered kind receiver

        go : (p : Partner) → Memᴰ p (partner_at book kind receiver partner ∷ []) × (is_some p.series ≡ true) → IsPartner kind p
        go p (m, e) =
            let q : p ≡ partner_at book kind receiver partner = ⊎_elim (λ x. x) (λ k. absurd (Memᴰ.not-nil k)) (Memᴰ.cases_cons m) in
            all-each (IsPartner kind) (keep (λ (p : Partner). is_some p.series) (map (partner_at book kind receiver) (partner_numbers book kind receiver))) p all
            (keep-mem (λ (p : Partner). is_some p.series) (map (partner_at book kind receiver) (partner_numbers book kind receiver)) p (subst (λ (x : Partner). Memᴰ x (map (partner_at book kind receiver) (partner_numbers book kind receiver))) (sym q) (Memᴰ.map (partner_at book kind receiver) known)) e)

    -- the rows filled, grouped as the writer groups them, are the partner, or none
    pub partner-again : regrouped (book.calendar.year, book.calendar.month) (partner_rows_of book kind receiver partner) ≡ partner_if book kind receiver partner
    unfolding partner_if partner_at
    partner-again =
        let volumes = grains_at book kind receiver in
        let q : ℕ × ℕ = (book.calendar.year, book.calendar.month) in
        ap (regrouped q) (sym (partner-rows volumes q (month_quarters book.calendar) partner))
        ∙ partners-undo kind q (partner_if book kind receiver partner) partner-rises partner-ok (partner-month volumes q (month_quarters book.calendar) partner)

    -- what the writer's emitter lays of them
    pub partner-bytes : (rows : List (List ℕ)) → map row_in rows ≡ partner_rows_of book kind receiver partner
        → flat_map (partner_bytes kind) (partners_in (book.calendar.year, book.calendar.month) rows) ≡ flat_map (partner_bytes kind) (partner_if book kind receiver partner)
    partner-bytes rows e = ap (flat_map (partner_bytes kind)) (ap (regrouped (book.calendar.year, book.calendar.month)) e ∙ partner-again)

-- ---- how many partners that is, and which numbers a scan finds

group-some : {n : ℕ} (q : ℕ × ℕ) (x : Row) (rows : List Row) → length (regrouped q (x ∷ rows)) ≤ n → 1 ≤ n
unfolding regrouped
group-some {n} q x rows h =
    let f = first_group number_keys x rows in
    let e = ap length f.is in
    omega (arith, h, e, length-map (group number_keys (x ∷ rows)) (regrouped_one q))

module _ (book : Book) (kind : Kind) (receiver partner : ℕ) (sound : Sound book) (registered : Registered book) (known : Memᴰ partner (partner_numbers book kind receiver)) where
  one-partner : length (partner_if book kind receiver partner) ≤ 1
  unfolding partner_if
  one-partner = keep-length (λ (p : Partner). is_some p.series) (partner_at book kind receiver partner ∷ [])

  pub partner-count : (end : ℕ) → end ≡ length (partner_rows_of book kind receiver partner) → cond (ltb 0 end) 1 0 ≡ length (partner_if book kind receiver partner)
  unfolding regrouped group
  partner-count end e = go (partner_rows_of book kind receiver partner) e (ap length (partner-again book kind receiver partner sound registered known))
    where
      go : (rows : List Row) → end ≡ length rows → length (regrouped (book.calendar.year, book.calendar.month) rows) ≡ length (partner_if book kind receiver partner) → cond (ltb 0 end) 1 0 ≡ length (partner_if book kind receiver partner)
      go [] e f = rw (le-ltb 0 end (omega arith)) f
      go (x ∷ rows) e f = rw (lt-ltb 0 end (omega arith)) (omega (arith, one-partner, group-some {n = length (partner_if book kind receiver partner)} (book.calendar.year, book.calendar.month) x rows (omega (arith, f))))

pub next_known : (book : Book) (kind : Kind) (receiver low next : ℕ) → Next low (partner_column book.points kind receiver) next → next < no_partner → Memᴰ next (partner_numbers book kind receiver)
unfolding partner_numbers partner_column
next_known book kind receiver low next s h =
    let column = partner_column book.points kind receiver in
    times-mem next (ascending column) (omega (arith, (ascending-once column).once next (s.member h).0))

-- ---- rows stored one behind the other

rows-again : (rows : List Row) → map row_in (map row_numbers rows) ≡ rows
unfolding row_numbers
rows-again [] = refl
rows-again (r ∷ rows) = ap (λ (l : List Row). r ∷ l) (rows-again rows)

pub filled_none : (before : List (List ℕ)) (at : ℕ) → FileRowsFilled [] before at before at
filled_none before at = record { behind = omega arith; list = refl }

pub filled-then : {a b : List Row} {before mid after : List (List ℕ)} {at next last : ℕ} → FileRowsFilled a before at mid next → FileRowsFilled b mid next after last → FileRowsFilled (a ++ b) before at after last
filled-then {a} {b} {before} {mid} {after} {at} {next} {last} f g =
    let e : next ≡ at + length (map row_numbers a) = omega (arith, f.behind, length-map a row_numbers) in
    record {
      behind = omega (arith, f.behind, g.behind, length-append a b);
      list =
          g.list
          ∙ ap₂ (λ (t : List (List ℕ)) (k : ℕ). sets t k (map row_numbers b)) f.list e
          ∙ sets-append before at (map row_numbers a) (map row_numbers b)
          ∙ ap (sets before at) (sym (map-append row_numbers a b));
    }

pub filled_is : {a : List Row} {before after : List (List ℕ)} {at next : ℕ} (b : List Row) → a ≡ b → FileRowsFilled a before at after next → FileRowsFilled b before at after next
filled_is {a} {before} {after} {at} {next} b e f = subst (λ (r : List Row). FileRowsFilled r before at after next) e f

pub filled-length : {a : List Row} {before after : List (List ℕ)} {at next : ℕ} → FileRowsFilled a before at after next → length after ≡ length before
filled-length {a} {before} {after} {at} {next} f = ap length f.list ∙ length-sets before at (map row_numbers a)

pub filled_row : (l : List (List ℕ)) (at : ℕ) (s : Series) (u v p w : ℕ) → u ≡ supply_number s.supply → v ≡ delivery_number s.delivery
    → FileRowsFilled (row_of s (observed (p, w)) ∷ []) l at (set l at (s.partner ∷ u ∷ v ∷ p ∷ w ∷ 0 ∷ [])) (at + 1)
unfolding row_numbers
filled_row l at s u v p w f g = record { behind = omega arith; list = rw (f, g) }

-- the first places are the rows
pub filled-stand : (rows : List Row) (before after : List (List ℕ)) (next : ℕ) → FileRowsFilled rows before 0 after next → length rows ≤ length before → map row_in (take next after) ≡ rows
filled-stand rows before after next f h =
    let n : length (map row_numbers rows) ≡ next = omega (arith, f.behind, length-map rows row_numbers) in
    ap (map row_in)
    (ap (take next) (f.list ∙ sets-eq (map row_numbers rows) before 0 (omega (arith, length-map rows row_numbers))) ∙ take_at (map row_numbers rows) (drop (0 + length (map row_numbers rows)) before) next n)
    ∙ rows-again rows

-- ---- the rows of a series, position by position

module _ (s : Series) where
  pub position-none : (p watts : ℕ) → watts ≡ 0 → [] ≡ rows_by s (observation_if p watts)
  unfolding rows_by
  position-none p watts e = sym (ap (map (row_of s)) (no-observation p watts e))

  pub position-one : (p watts : ℕ) → 0 < watts → (row_of s (observed (p, watts)) ∷ []) ≡ rows_by s (observation_if p watts)
  unfolding rows_by
  position-one p watts h = sym (ap (map (row_of s)) (one-observation p watts h))

  pub positions-none : (l : List ℕ) → [] ≡ rows_by s (observations_in l 0)
  unfolding rows_by
  positions-none l = sym (ap (map (row_of s)) (observations-none l))

  pub positions-more : (l : List ℕ) (i : ℕ) → rows_by s (observations_in l i) ++ rows_by s (observation_if (i + 1) (get_or l i 0)) ≡ rows_by s (observations_in l (i + 1))
  unfolding rows_by
  positions-more l i = sym (ap (map (row_of s)) (observations-more l i) ∙ map-append (row_of s) (observations_in l i) (observation_if (i + 1) (get_or l i 0)))

  -- one a position at most
  pub positions-few : (l : List ℕ) (n : ℕ) → length (rows_by s (observations_in l n)) ≤ n
  unfolding rows_by observations_in
  positions-few l n =
      let all = map (λ p. observed (p, cell_at l p)) (range 1 n) in
      omega (arith, length-map (keep is_written all) (row_of s), keep-length is_written all, length-map (range 1 n) (λ p. observed (p, cell_at l p)), length-range 1 n)

-- the rows of a series' own observations, and of the four series
module _ (book : Book) (kind : Kind) (receiver : ℕ) where
  pub series-rows-are : (s : Series) (l : List Observation) → l ≡ observations_of book kind receiver s → rows_by s l ≡ series_rows_of book kind receiver s
  unfolding series_rows_by observations_of
  series-rows-are s l e = ap (rows_by s) e

  pub partner-parts : (partner : ℕ)
      → ((series_rows_of book kind receiver (series_of partner OffTake Up) ++ series_rows_of book kind receiver (series_of partner OffTake Down)) ++ series_rows_of book kind receiver (series_of partner Injection Up)) ++ series_rows_of book kind receiver (series_of partner Injection Down)
      ≡ partner_rows_of book kind receiver partner
  unfolding partner_rows_by directions flat_map
  partner-parts partner =
      let rows : Supply → Direction → List Row = λ u v. series_rows_of book kind receiver (series_of partner u v) in
      let a = rows OffTake Up in
      let b = rows OffTake Down in
      let c = rows Injection Up in
      let d = rows Injection Down in
      append_assoc (a ++ b) c d ∙ append_assoc a b (c ++ d) ∙ ap (λ (r : List Row). a ++ (b ++ (c ++ r))) (sym (append-nil d))
