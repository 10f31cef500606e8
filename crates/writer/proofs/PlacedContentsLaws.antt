-- Laws about what rows hold that are told by their places, row by row and run by run: the bytes of the first, and those of the rest, as the first run is the first group (PlacedRunsLaws); and that it is what the rows as arrays hold.
-- They stand for whoever goes by places; the writer goes by ContentsLaws.
use Rattle.std.specs.Prelude.{◌≡◌, refl, true, ◌&&◌, ltb, length, get_or, drop}
use Rattle.std.specs.Simd.{first_chunks}
use Rattle.std.proofs.Math.Path.{ap, subst}
use Rattle.std.proofs.Common.{◌∙◌}
use mathlib.Core.List.{List, [], ◌++◌, map, flat_map, append_assoc}
use Prim.Native.Nat.{ℕ, zero, suc, ◌+◌, ◌-◌, ◌*◌, ◌/◌, ◌^◌, ◌≤◌, ◌<◌}
use Rattle.std.proofs.Math.ListN.{length-map}
use native.Mathlib.Omega.{arith}
use Rattle.integers.proofs.TestsLaws.{and_left, and_right}
use Rattle.kinds.specs.declared.Kind.{Kind}
use Rattle.message.specs.Contents.{Observation}
use Rattle.message.specs.Valid.{last_position}
use Rattle.message.specs.Bytes.{observation_bytes, series_bytes, supply_of, partner_bytes}
use Rattle.message.specs.Reading.{observed, is_period}
use Rattle.message.proofs.ObservationForm.{to-period}
use Rattle.message.specs.Keys.{number_keys, directions_keys}
use Rattle.message.specs.Group.{group}
use Rattle.message.specs.Rows.{Row, rows_from, rows_in, in_sixes, series_of, partner_of, partners_of, contents}
use Rattle.message.specs.Messages.{message_bytes}
use Rattle.writer.specs.Order.{every, ordered}
use Rattle.writer.specs.Rows.{is_row, row_before, of_month, is_rows, rows_message}
use Rattle.writer.specs.ContentsInner as arrays
use Rattle.emitter.specs.PartsInner.{file_head, file_end}
use Rattle.emitter.proofs.PartsLaws.{file-parts}
use Rattle.message.proofs.GroupLaws.{first_group}
use Rattle.writer.proofs.SixesLaws.{rows-chunks}
use Rattle.writer.proofs.PlacedRowsLaws.{row-directed}
use Rattle.writer.proofs.PlacedInner.{row_at, Directed, PartnerRun, DirectionsRun, observations_in, series_at, series_in, partner_at, partners_in, Writable}

-- ---- observations

pub rows-length : (l : List ℕ) (at n : ℕ) → length (rows_from l at n) ≡ n
unfolding rows_from
rows-length l at zero = refl
rows-length l at (suc n) = ap suc (rows-length l (at + 6) n)

pub observations-length : (l : List ℕ) (at n : ℕ) → length (observations_in l at n) ≡ n
unfolding observations_in
observations-length l at n = length-map (rows_from l at n) (λ r. r.1.1) ∙ rows-length l at n

pub observations-none : (l : List ℕ) (at n : ℕ) → n ≡ 0 → flat_map observation_bytes (observations_in l at n) ≡ []
unfolding observations_in rows_from flat_map
observations-none l at n e = rw e

pub observations-step : (l : List ℕ) (at n : ℕ) → 1 ≤ n
    → flat_map observation_bytes (observations_in l at n) ≡ observation_bytes (observed (get_or l (at + 3) 0, get_or l (at + 4) 0)) ++ flat_map observation_bytes (observations_in l (at + 6) (n - 1))
unfolding observations_in rows_from flat_map
observations-step l at n h =
    let e : n ≡ suc (n - 1) = omega arith in
    ap (λ (m : ℕ). flat_map observation_bytes (map (λ r. r.1.1) (rows_from l at m))) e

-- ---- series

module _ (k : Kind) (q : ℕ × ℕ) (l : List ℕ) (at n : ℕ) where
  pub series-none : n ≡ 0 → flat_map (series_bytes k) (series_in q l at n) ≡ []
  unfolding series_in rows_from group flat_map
  series-none e = rw e

  pub series-step : (r : ℕ) → DirectionsRun l at n r
      → flat_map (series_bytes k) (series_in q l at n) ≡ series_bytes k (series_at q l at r) ++ flat_map (series_bytes k) (series_in q l (at + 6 * r) (n - r))
  unfolding series_in observations_in flat_map
  series-step r p = ap (λ (g : List ((ℕ × ℕ) × List Observation)). flat_map (series_bytes k) (map (series_of q) g)) p.first

  pub partners-none : n ≡ 0 → flat_map (partner_bytes k) (partners_in q l at n) ≡ []
  unfolding partners_of rows_from group flat_map
  partners-none e = rw e

  pub partners-step : (r : ℕ) → PartnerRun l at n r
      → flat_map (partner_bytes k) (partners_in q l at n) ≡ partner_bytes k (partner_at q l at r) ++ flat_map (partner_bytes k) (partners_in q l (at + 6 * r) (n - r))
  unfolding partners_of series_in flat_map
  partners-step r p = ap (λ (g : List (ℕ × List ((ℕ × ℕ) × Observation))). flat_map (partner_bytes k) (map (partner_of q) g)) p.first

module _ (q : ℕ × ℕ) (l : List ℕ) (at n : ℕ) where
  pub series-count : length (series_in q l at n) ≡ length (group directions_keys (map (λ r. r.1) (rows_from l at n)))
  unfolding series_in
  series-count = length-map (group directions_keys (map (λ r. r.1) (rows_from l at n))) (series_of q)

  pub partners-count : length (partners_in q l at n) ≡ length (group number_keys (rows_from l at n))
  unfolding partners_of
  partners-count = length-map (group number_keys (rows_from l at n)) (partner_of q)

  -- the first row's supply direction is the first series'
  pub series-supply : 1 ≤ n → supply_of (series_in q l at n) ≡ get_or l (at + 1) 0
  unfolding series_in rows_from supply_of
  series-supply h =
      let e : n ≡ suc (n - 1) = omega arith in
      let f = first_group directions_keys (row_at l at).1 (map (λ r. r.1) (rows_from l (at + 6) (n - 1))) in
      ap (λ (m : ℕ). supply_of (map (series_of q) (group directions_keys (map (λ r. r.1) (rows_from l at m))))) e
      ∙ ap (λ (g : List ((ℕ × ℕ) × List Observation)). supply_of (map (series_of q) g)) f.is

-- ---- a file by its rows

pub message-parts : (k : Kind) (receiver year month : ℕ) (l id moment : List ℕ)
    → file_head k id moment receiver (length (partners_in (year, month) l 0 (length l / 6))) ++ flat_map (partner_bytes k) (partners_in (year, month) l 0 (length l / 6)) ++ file_end k
    ≡ message_bytes (rows_message k receiver year month l id moment)
unfolding contents rows_in
message-parts k receiver year month l id moment =
    let f = contents (rows_message k receiver year month l id moment) in
    append_assoc (file_head f.kind f.id f.moment f.receiver (length f.partners)) (flat_map (partner_bytes f.kind) f.partners) (file_end f.kind) ∙ file-parts f

-- ---- rows that can be written

pub writable-part : {l : List ℕ} {at n year month : ℕ} → Writable l at n year month → (to r m : ℕ) → to ≡ at + 6 * r → r + m ≤ n → Writable l to m year month
writable-part {l} {at} {n} {year} {month} w to r m e h =
    record {
      within = omega (arith, w.within);
      directed = λ j g. subst (λ (p : ℕ). Directed l p) (omega (arith, e)) (w.directed (r + j) (omega (arith, h, g)));
      period = λ s. w.period (omega (arith, h, s));
    }

-- the first row's directions
pub writable-first : {l : List ℕ} {at n year month : ℕ} → Writable l at n year month → 1 ≤ n → Directed l at
writable-first {l} {at} w h = subst (λ (p : ℕ). Directed l p) (omega arith) (w.directed 0 h)

module _ (k : Kind) (last : ℕ) (l : List ℕ) where
  rows-directed : (at n : ℕ) → every (is_row k last) (rows_from l at n) ≡ true → (j : ℕ) → j < n → Directed l (at + 6 * j)
  unfolding every rows_from
  rows-directed at zero e j h = absurd (omega (arith, h))
  rows-directed at (suc n) e zero h = subst (λ (p : ℕ). Directed l p) (omega arith) (row-directed k last l at (and_left (is_row k last (row_at l at)) (every (is_row k last) (rows_from l (at + 6) n)) e))
  rows-directed at (suc n) e (suc j) h =
      subst (λ (p : ℕ). Directed l p) (omega arith) (rows-directed (at + 6) n (and_right (is_row k last (row_at l at)) (every (is_row k last) (rows_from l (at + 6) n)) e) j (omega (arith, h)))

month-writable : (k : Kind) (year month : ℕ) (l : List ℕ) (at n : ℕ) → at + 6 * n ≤ length l → of_month k year month (rows_from l at n) ≡ true → Writable l at n year month
unfolding of_month rows_from
month-writable k year month l at zero w e = record { within = w; directed = λ j h. absurd (omega (arith, h)); period = λ s. absurd (omega (arith, s)) }
month-writable k year month l at (suc n) w e =
    let last = last_position year month in
    let rest = and_right (is_period (year, month)) (every (is_row k last) (rows_from l at (suc n)) && ordered (row_before k) (rows_from l at (suc n))) e in
    record {
      within = w;
      directed = rows-directed k last l at (suc n) (and_left (every (is_row k last) (rows_from l at (suc n))) (ordered (row_before k) (rows_from l at (suc n))) rest);
      period = λ s. to-period (year, month) (and_left (is_period (year, month)) (every (is_row k last) (rows_from l at (suc n)) && ordered (row_before k) (rows_from l at (suc n))) e);
    }

-- rows that a file has can be written
pub rows-writable : (k : Kind) (receiver year month : ℕ) (l : List ℕ) → is_rows k receiver year month l ≡ true → Writable l 0 (length l / 6) year month
unfolding is_rows rows_in
rows-writable k receiver year month l e =
    let b = and_right (ltb receiver (10 ^ 10)) (in_sixes l && of_month k year month (rows_in l)) e in
    month-writable k year month l 0 (length l / 6) (omega arith) (and_right (in_sixes l) (of_month k year month (rows_in l)) b)

-- ---- n rows at a place are the first n arrays of six numbers there

module _ (l : List ℕ) (at n : ℕ) where
  pub observations-placed : observations_in l at n ≡ arrays.observations_in (first_chunks 6 n (drop at l))
  unfolding observations_in
  observations-placed = ap (map (λ (r : Row). r.1.1)) (rows-chunks l at n)

  pub series-placed : (q : ℕ × ℕ) → series_in q l at n ≡ arrays.series_in q (first_chunks 6 n (drop at l))
  unfolding series_in
  series-placed q = ap (λ (rows : List Row). map (series_of q) (group directions_keys (map (λ r. r.1) rows))) (rows-chunks l at n)

  pub partners-placed : (q : ℕ × ℕ) → partners_in q l at n ≡ arrays.partners_in q (first_chunks 6 n (drop at l))
  partners-placed q = ap (partners_of q) (rows-chunks l at n)
