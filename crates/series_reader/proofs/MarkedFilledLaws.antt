-- From what the code's contracts say (`Pushed`, `Filled`) to what the laws about marks speak of: a row that was stored (`Stored`), rows that were filled (`Fills`), observations that
-- were passed (`Passed`), a time series that was read (`VolumeRead`), and the series of a partner. By these the laws about marks hold of the code that runs.
use Rattle.std.specs.Prelude.{◌≡◌, refl, cond, ℕ, ◌+◌, ◌*◌, ◌/◌, ◌%◌, ◌^◌, ◌≤◌, ◌<◌, length, ltb, drop, Option, Some, None}
use Rattle.std.proofs.Common.{sym, ap, ◌∙◌, subst, length-append, arith, lt-ltb}
use Rattle.std.proofs.Math.Bool.{true}
use mathlib.Core.List.{List, [], ◌∷◌, ◌++◌, map, flat_map}
use Rattle.text.specs.WrittenInner.{written}
use Rattle.formats.specs.Format.{Res, got, bad}
use Rattle.formats.specs.FormatLaws.{sound-of}
use Rattle.formats.specs.Combine.{map_parse}
use Rattle.formats.specs.Exactly.{fixed_parse}
use Rattle.formats.specs.Rising.{rising_parse}
use Rattle.formats.proofs.RunLaws.{run-map}
use Rattle.formats.proofs.MarksLaws.{Parsed, same_at, parsed, not_there}
use Rattle.cursor.specs.declared.Cursor.{Cursor}
use Rattle.cursor.proofs.ReadsLaws.{left}
use Rattle.cursor.proofs.MarkedReadsLaws.{mark_behind, read_or, reads-parsed}
use Rattle.kinds.specs.declared.Kind.{Kind}
use Rattle.kinds.specs.declared.Kind.TheVariants.{Toe01, Toe02, Toe03}
use Rattle.message.specs.Bytes.{deliveries, series_bytes}
use Rattle.message.specs.Contents.{TimeSeries, position}
use Rattle.message.specs.Valid.{last_position, month_of}
use Rattle.message.specs.Months.{after}
use Rattle.message.specs.Rows.{Row, row_numbers, numbers}
use Rattle.message.specs.Reading.{Volume, of_volume, plain_parse, counted_parse, quantity_parse, position_parse, observation_parse, observations_parse, month_parse, period_parse, volume_parse, own_series_parse, shared_series_parse, series_list_parse}
use Rattle.message.proofs.ObservationForm.{quantity, observation_body, observation, observations, month_body, period}
use Rattle.message.proofs.SeriesForm.{volume_body, volume_of, volume-back, own_body, shared_body}
use Rattle.message.proofs.SeriesListForm.{series_list}
use Rattle.passages.specs.declared.ReadObservation.{ReadObservation}
use Rattle.passages.specs.ViewsInner.{observation_of}
use Rattle.series_reader.specs.declared.rows.Key.{Key}
use Rattle.series_reader.specs.declared.rows.Rows.{Rows}
use Rattle.series_reader.specs.RowsInner.{directions, rows_of_observation, rows_of_observations, rows_of_all, held, with_row, with_rows, Pushed, Filled}
use Rattle.series_reader.specs.RowsInner as stored
use Rattle.series_reader.specs.ViewsInner.{next_observation, volume_kept, series_outline, series_parse, next_series, last_month}
use Rattle.series_reader.proofs.RowsLaws.{rows-fit, rows-counted}
use Rattle.series_reader.proofs.FillingLaws.{filled-got, filled-none, filled-same}
use Rattle.series_reader.proofs.MarkedReadingInner.{Passed, observations_of, VolumeRead, folded}
use Rattle.series_reader.proofs.MarkedReadingLaws.{parsed-ok, any_value, observing}
use Rattle.series_reader.proofs.MarkedItemsLaws.{read-long}
use Rattle.series_reader.proofs.MarkedSeriesInner.{series_form, item, counting, Room, list_form}
use Rattle.series_reader.proofs.MarkedSeriesLaws.{series-long}
use Rattle.series_reader.proofs.MarkedFillingInner.{Fills, Stored, rows_of_series}
use Rattle.series_reader.proofs.MarkedFillingLaws.{fills_same, fills-bad}
use Rattle.series_reader.proofs.MarkedSeriesFillingLaws.{rows-each}

-- ---- a row

one_row : (r : Row) (l : List ℕ) (k : ℕ) → 6 * (k + 1) ≤ length l → k + 1 < 2 ^ 64 → with_row r (l, k) ≡ (written l (6 * k) (row_numbers r), k + 1)
unfolding with_row
one_row r l k room small =
    let t : ltb k (length l / 6) ≡ true = lt-ltb k (length l / 6) (omega arith) in
    let n : (k + 1) % 2 ^ 64 ≡ k + 1 = omega arith in
    let at : k * 6 ≡ 6 * k = omega arith in
    λ i. (cond (t i) (written l (at i) (row_numbers r)) l, n i)

pub pushed-stored : {k : Key} {o : ReadObservation} {before after : Rows} → length before.numbers.now < 2 ^ 64 → Pushed k o before after
    → Stored (k.partner, (directions k, observation_of o)) before.count before.numbers.now after.numbers.now after.count
pushed-stored {k} {o} {before} {after} small h =
    record {
      keeps = h.lent.long;
      wrote = λ room.
          let e = h.row ∙ one_row (k.partner, (directions k, observation_of o)) before.numbers.now before.count room (omega arith) in
          (ap (λ (p : List ℕ × ℕ). p.0) e, ap (λ (p : List ℕ × ℕ). p.1) e);
    }

-- ---- a reading whose rows are stored

fit : (rows : List Row) (l : List ℕ) (k : ℕ) → 6 * (k + length rows) ≤ length l → length l < 2 ^ 64 → with_rows rows (l, k) ≡ (written l (6 * k) (numbers rows), k + length rows)
fit rows l k room small =
    let at : k * 6 ≡ 6 * k = omega arith in
    rows-fit rows l k room (omega arith) ∙ ap (λ (n : ℕ). (written l n (numbers rows), k + length rows)) at

-- what was read from mark to mark, of which the answer is kept, and how many rows it has; where it isn't there, any
pub record FilledRead {A B : Type 0} (f : List ℕ → Res A) (kept : A → B) (rows_of : A → List Row) (c d : Cursor) (before after : Rows) (r : Option B) : Type 0 where
  pub value : A
  pub parsed : Parsed f c.text.now (Some c.at) (mark_behind d r) value
  pub is : (k : B) → r ≡ Some k → kept value ≡ k
  pub counted : (k : B) → r ≡ Some k → before.count + length (rows_of value) < 2 ^ 64 → after.count ≡ before.count + length (rows_of value)

some-none : {B : Type 0} {k : B} → ◌≡◌ {A = Option B} None (Some k) → ⊥
some-none e = let z : ◌≡◌ {A = ℕ} 0 1 = cc in omega arith

some-same : {B : Type 0} {j k : B} → ◌≡◌ {A = Option B} (Some j) (Some k) → j ≡ k
some-same e = cc

module _ {A B : Type 0} {f : List ℕ → Res A} {kept : A → B} {rows_of : A → List Row} {c d : Cursor} {before after : Rows} where
  pub filled-fills : {r : Option B} → length before.numbers.now < 2 ^ 64 → Filled f kept rows_of c d before after r
      → Fills f rows_of c.text.now (Some c.at) before.count before.numbers.now after.numbers.now
  filled-fills {r = None} small h = fills-bad f rows_of c.text.now c.at before.count before.numbers.now after.numbers.now h.lent.long (filled-none h).found
  filled-fills {r = Some k} small h =
      let x = filled-got h in
      record {
        keeps = h.lent.long;
        wrote = λ p v q m g room.
            let same : got x.value (left d) ≡ got v q = sym x.read.found ∙ ap (λ (n : ℕ). f (drop n c.text.now)) (same_at m) ∙ g in
            let is : x.value ≡ v = cc in
            let all : held after ≡ (written before.numbers.now (6 * before.count) (numbers (rows_of v)), before.count + length (rows_of v)) =
            x.rows ∙ ap (λ (w : A). with_rows (rows_of w) (held before)) is ∙ fit (rows_of v) before.numbers.now before.count room small in
            ap (λ (w : List ℕ × ℕ). w.0) all;
      }

  pub filled-read : (other : A) {r : Option B} → Filled f kept rows_of c d before after r → FilledRead f kept rows_of c d before after r
  filled-read other {r = None} h =
      record {
        value = other;
        parsed = not_there f c.text.now c.at other (filled-none h).found;
        is = λ k e. absurd (some-none e);
        counted = λ k e. absurd (some-none e);
      }
  filled-read other {r = Some k} h =
      let x = filled-got h in
      record {
        value = x.value;
        parsed = reads-parsed other x.read;
        is = λ j e. x.is ∙ some-same e;
        counted = λ j e small. ap (λ (w : List ℕ × ℕ). w.1) x.rows ∙ rows-counted (rows_of x.value) (held before) small;
      }

-- ---- observations

-- an observation in its order
pub observation-done : (last low partner : ℕ) (ways : ℕ × ℕ) {c d : Cursor} {before after : Rows} {r : Option ℕ} → length before.numbers.now < 2 ^ 64
    → Filled (next_observation last low) position (rows_of_observation partner ways) c d before after r
    → FilledRead (observing last low) position (rows_of_observation partner ways) c d before after r
    × Fills (observing last low) (rows_of_observation partner ways) c.text.now (Some c.at) before.count before.numbers.now after.numbers.now
unfolding observation_body quantity observation_parse position_parse quantity_parse plain_parse fixed_parse
observation-done last low partner ways small h = (filled-read (record { position = 0; watts = 0 }) h, filled-fills small h)

-- and so many
pub observations-done : (year month n : ℕ) (key : Key) {c d : Cursor} {before after : Rows} {r : Option (Unit {0})} → length before.numbers.now < 2 ^ 64
    → Filled (observations_parse (last_position year month) n) (λ l. tt) (rows_of_observations key.partner (directions key)) c d before after r
    → Passed (observations_of year month n) c.text.now (Some c.at) (mark_behind d r)
    × Fills (observations_of year month n) (flat_map (rows_of_observation key.partner (directions key))) c.text.now (Some c.at) before.count before.numbers.now after.numbers.now
unfolding rows_of_observations observations observation observation_body quantity observations_parse observation_parse position_parse quantity_parse plain_parse rising_parse fixed_parse
observations-done year month n key small h =
    let x = filled-read [] h in
    (record { ran = record { value = x.value; ran = x.parsed.run }; within = x.parsed.within }, filled-fills small h)

-- ---- a time series

-- it was read and its rows were filled: its delivery direction and its month are told, and its rows are counted
pub record VolumeDone (partner supply : ℕ) (c d : Cursor) (before after : Rows) (r : Option (ℕ × (ℕ × ℕ))) : Type 0 where
  pub rows : ℕ
  pub delivery : (read_or (0, (0, 0)) r).0 ≤ 1
  pub read : VolumeRead c.text.now (Some c.at) (mark_behind d r) (read_or (0, (0, 0)) r).0 (read_or (0, (0, 0)) r).1.0 (read_or (0, (0, 0)) r).1.1 rows
  pub fills : Fills volume_body.parse (λ v. rows_of_series partner (of_volume supply v)) c.text.now (Some c.at) before.count before.numbers.now after.numbers.now
  pub counted : (k : ℕ × (ℕ × ℕ)) → r ≡ Some k → before.count + rows < 2 ^ 64 → after.count ≡ before.count + rows

volume-fits : (v : Volume) → volume_body.Ok v → v.0 ≤ 1
unfolding volume_body deliveries
volume-fits v ok = omega (arith, ok.0)

volume-many : (partner supply : ℕ) (v : Volume) → volume_body.Ok v → length (rows_of_series partner (of_volume supply v)) ≡ v.1.0
unfolding of_volume volume_of
volume-many partner supply v ok = rows-each partner (supply, v.0) v.1.1.1 ∙ ap (λ (w : Volume). w.1.0) (volume-back supply v ok)

pub volume-done : (partner supply : ℕ) {c d : Cursor} {before after : Rows} {r : Option (ℕ × (ℕ × ℕ))} → length before.numbers.now < 2 ^ 64
    → Filled volume_parse volume_kept (λ v. stored.rows_of_series partner (of_volume supply v)) c d before after r → VolumeDone partner supply c d before after r
unfolding rows_of_observations volume_body period month_body observations observation observation_body quantity volume_parse counted_parse period_parse month_parse observations_parse observation_parse position_parse quantity_parse plain_parse rising_parse fixed_parse
volume-done partner supply {c} {d} {before} {after} {r = None} small h =
    let x = filled-read (0, (0, ((0, 0), []))) h in
    record {
      rows = 0;
      delivery = omega arith;
      read = record { observations = []; parsed = not_there volume_body.parse c.text.now c.at (0, (0, ((0, 0), []))) (filled-none h).found };
      fills = filled-fills small h;
      counted = λ k e. absurd (some-none e);
    }
volume-done partner supply {c} {d} {before} {after} {r = Some k} small h =
    let x = filled-read (0, (0, ((0, 0), []))) h in
    let v : Volume = x.value in
    let p : Parsed volume_body.parse c.text.now (Some c.at) (Some d.at) v = x.parsed in
    let ok : volume_body.Ok v = parsed-ok volume_body c.text.now (Some c.at) d.at v p in
    let is : volume_kept v ≡ k = x.is k refl in
    let many = volume-many partner supply v ok in
    record {
      rows = v.1.0;
      delivery = subst (λ (w : ℕ × (ℕ × ℕ)). w.0 ≤ 1) is (volume-fits v ok);
      read = record {
        observations = v.1.1.1;
        parsed = subst (λ (w : ℕ × (ℕ × ℕ)). Parsed volume_body.parse c.text.now (Some c.at) (Some d.at) (w.0, (v.1.0, ((w.1.0, w.1.1), v.1.1.1)))) is p;
      };
      fills = filled-fills small h;
      counted = λ j e room.
          let n = x.counted j e in
          rw many at n room;
    }

-- ---- the series of a partner

-- the supply direction that they have together, if any
abbrev pub shared_of : Kind → ℕ → Option ℕ
shared_of Toe01 x = None
shared_of Toe02 x = None
shared_of Toe03 x = Some x

pub list-form : (k : Kind) (x n : ℕ) (seen : ℕ × ℕ) → (list_form k x n seen).parse ≡ series_list_parse (series_parse (shared_of k x)) n seen
unfolding list_form series_list series_form own_body shared_body volume_body period month_body observations observation observation_body quantity series_list_parse own_series_parse shared_series_parse volume_parse counted_parse period_parse month_parse observations_parse observation_parse position_parse quantity_parse plain_parse rising_parse fixed_parse
list-form Toe01 x n seen = refl
list-form Toe02 x n seen = refl
list-form Toe03 x n seen = refl

-- the next one: behind a place, and of the month that was seen
item-form : (k : Kind) (x : ℕ) (st : ℕ × (ℕ × ℕ)) → (item k x st).parse ≡ next_series (shared_of k x) st
unfolding series_form own_body shared_body volume_body period month_body observations observation observation_body quantity own_series_parse shared_series_parse volume_parse counted_parse period_parse month_parse observations_parse observation_parse position_parse quantity_parse plain_parse rising_parse fixed_parse
item-form Toe01 x st = refl
item-form Toe02 x st = refl
item-form Toe03 x st = refl

pub item-done : (k : Kind) (x : ℕ) (st : ℕ × (ℕ × ℕ)) (partner : ℕ) {c d : Cursor} {before after : Rows} {r : Option ((ℕ × ℕ) × (ℕ × ℕ))} → length before.numbers.now < 2 ^ 64
    → Filled (next_series (shared_of k x) st) series_outline (stored.rows_of_series partner) c d before after r
    → FilledRead (item k x st).parse series_outline (rows_of_series partner) c d before after r
    × Fills (item k x st).parse (rows_of_series partner) c.text.now (Some c.at) before.count before.numbers.now after.numbers.now
unfolding rows_of_observations
item-done k x st partner small h =
    let g = filled-same (λ s. ap (λ (f : List ℕ → Res TimeSeries). f s) (sym (item-form k x st))) h in
    (filled-read (record { supply = 0; delivery = 0; year = 0; month = 0; observations = [] }) g, filled-fills small g)

-- they are as many as their counter says
pub list-count : (k : Kind) (x n : ℕ) (seen : ℕ × ℕ) (s : List ℕ) {l : List TimeSeries} {r : List ℕ} → series_list_parse (series_parse (shared_of k x)) n seen s ≡ got l r → length l ≡ n
unfolding list_form series_list
list-count k x n seen s {l} {r} e = (sound-of (list_form k x n seen) s l r (ap (λ (f : List ℕ → Res (List TimeSeries)). f s) (list-form k x n seen) ∙ e)).1.count

list-bytes : (k : Kind) (x n : ℕ) (seen : ℕ × ℕ) (l : List TimeSeries) → (list_form k x n seen).render l ≡ flat_map (series_bytes k) l
unfolding list_form series_list
list-bytes k x n seen l = refl

-- the month and the number of rows behind them
pub tallied : (partner : ℕ) (t : (ℕ × ℕ) × ℕ) (l : List TimeSeries) → folded counting t l ≡ (after t.0 (map month_of l), t.1 + length (flat_map (rows_of_series partner) l))
unfolding folded after flat_map
tallied partner t [] =
    let e : t.1 ≡ t.1 + 0 = omega arith in
    λ i. (t.0, e i)
tallied partner t (s ∷ l) =
    let e : t.1 + length s.observations + length (flat_map (rows_of_series partner) l) ≡ t.1 + length (rows_of_series partner s ++ flat_map (rows_of_series partner) l) =
    omega (arith, length-append (rows_of_series partner s) (flat_map (rows_of_series partner) l), rows-each partner (s.supply, s.delivery) s.observations) in
    tallied partner (counting t s) l ∙ (λ i. (after (month_of s) (map month_of l), e i))

-- rows are no more than bytes
pub series-many : (k : Kind) (partner : ℕ) (l : List TimeSeries) → length (flat_map (rows_of_series partner) l) ≤ length (flat_map (series_bytes k) l)
unfolding flat_map
series-many k partner [] = omega arith
series-many k partner (s ∷ l) =
    omega (
      arith,
      series-many k partner l,
      series-long k s,
      rows-each partner (s.supply, s.delivery) s.observations,
      length-append (rows_of_series partner s) (flat_map (rows_of_series partner) l),
      length-append (series_bytes k s) (flat_map (series_bytes k) l),
    )

-- so many series were read behind the month that was seen, as many bytes as rows before them, and their rows were filled
pub record SeriesDone (k : Kind) (x n : ℕ) (seen : ℕ × ℕ) (partner : ℕ) (c d : Cursor) (before after : Rows) (r : Option (ℕ × ℕ)) : Type 0 where
  pub read : Parsed (map_parse (folded counting (seen, before.count)) (list_form k x n seen).parse) c.text.now (Some c.at) (mark_behind d r) (read_or seen r, after.count)
  pub room : Room (mark_behind d r) after.count
  pub fills : Fills (list_form k x n seen).parse (flat_map (rows_of_series partner)) c.text.now (Some c.at) before.count before.numbers.now after.numbers.now

module _ (k : Kind) (x n : ℕ) (seen : ℕ × ℕ) (partner : ℕ) {c d : Cursor} {before after : Rows} (long : length c.text.now < 2 ^ 64) (small : length before.numbers.now < 2 ^ 64) (room : before.count ≤ c.at) where
  list-fills : {r : Option (ℕ × ℕ)} → Filled (series_list_parse (series_parse (shared_of k x)) n seen) (last_month seen) (rows_of_all partner) c d before after r
      → Fills (list_form k x n seen).parse (flat_map (rows_of_series partner)) c.text.now (Some c.at) before.count before.numbers.now after.numbers.now
  unfolding rows_of_all rows_of_observations
  list-fills h = fills_same (list_form k x n seen).parse (λ q. ap (λ (f : List ℕ → Res (List TimeSeries)). f q) (list-form k x n seen)) (filled-fills small h)

  pub series-done : {r : Option (ℕ × ℕ)} → Filled (series_list_parse (series_parse (shared_of k x)) n seen) (last_month seen) (rows_of_all partner) c d before after r
      → SeriesDone k x n seen partner c d before after r
  unfolding rows_of_all rows_of_observations
  series-done {r = None} h =
      let no : (list_form k x n seen).parse (left c) ≡ bad = ap (λ (f : List ℕ → Res (List TimeSeries)). f (left c)) (list-form k x n seen) ∙ (filled-none h).found in
      record {
        read = any_value (record { run = run-map (folded counting (seen, before.count)) (not_there (list_form k x n seen).parse c.text.now c.at [] no).run; within = tt });
        room = tt;
        fills = list-fills h;
      }
  series-done {r = Some m} h =
      let y = filled-read [] h in
      let l : List TimeSeries = y.value in
      let yes : (list_form k x n seen).parse (left c) ≡ got l (drop d.at c.text.now) = ap (λ (f : List ℕ → Res (List TimeSeries)). f (left c)) (list-form k x n seen) ∙ y.parsed.run.run in
      let within : d.at ≤ length c.text.now = y.parsed.within in
      let far = read-long (list_form k x n seen) c.text.now c.at d.at l c.inside within yes in
      let many : before.count + length (flat_map (rows_of_series partner) l) ≤ d.at = omega (arith, far, ap length (list-bytes k x n seen l), series-many k partner l, room) in
      let count : after.count ≡ before.count + length (flat_map (rows_of_series partner) l) = y.counted m refl (omega (arith, many, long, within)) in
      let month : last_month seen l ≡ m = y.is m refl in
      let told : folded counting (seen, before.count) l ≡ (m, after.count) = tallied partner (seen, before.count) l ∙ (λ i. (month i, sym count i)) in
      record {
        read = subst (λ (v : (ℕ × ℕ) × ℕ). Parsed (map_parse (folded counting (seen, before.count)) (list_form k x n seen).parse) c.text.now (Some c.at) (Some d.at) v) told
            (record { run = run-map (folded counting (seen, before.count)) (parsed (list_form k x n seen).parse c.text.now c.at l d.at yes within).run; within = within });
        room = omega (arith, many, count);
        fills = list-fills h;
      }
