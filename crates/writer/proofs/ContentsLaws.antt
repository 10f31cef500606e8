-- What rows hold, run by run: the bytes of the first, and those of the rest.
use Rattle.std.specs.Prelude.{◌≡◌, refl, true, ◌&&◌, List, [], ◌∷◌, ◌++◌, map, ℕ, suc, ◌+◌, ◌/◌, ◌^◌, ◌≤◌, ◌<◌, ltb, length, get_or, drop}
use Rattle.std.proofs.Common.{sym, ap, ap₂, ◌∙◌, arith, drop-cons, drop_of_length-le}
use Rattle.std.proofs.lemmas.List.{length-map}
use Rattle.std.specs.Simd.{first_chunks}
use mathlib.Core.List.{flat_map, map-map}
use Rattle.integers.proofs.TestsLaws.{and_left, and_right}
use Rattle.kinds.specs.declared.Kind.{Kind}
use Rattle.message.specs.Contents.{Observation, TimeSeries}
use Rattle.message.specs.Valid.{IsPeriod, last_position}
use Rattle.message.specs.Bytes.{observation_bytes, series_bytes, supply_of, partner_bytes}
use Rattle.message.specs.Reading.{observed, is_period}
use Rattle.message.proofs.ObservationForm.{to-period}
use Rattle.message.specs.Keys.{number_keys, directions_keys}
use Rattle.message.specs.Group.{group}
use Rattle.message.specs.Rows.{Row, rows_in, in_sixes, series_of, partner_of, partners_of, contents}
use Rattle.message.specs.Messages.{message_bytes}
use Rattle.message.proofs.GroupLaws.{first_group}
use Rattle.emitter.specs.declared.Title.{Title}
use Rattle.emitter.specs.PartsInner.{series_head, series_end, partner_head, partner_end, file_head, file_end}
use Rattle.emitter.proofs.PartsLaws.{series-parts, partner-parts, file-parts}
use Rattle.writer.specs.Order.{every, ordered}
use Rattle.writer.specs.Rows.{is_row, row_before, of_month, is_rows, rows_message}
use Rattle.writer.specs.RowsInner.{row_in}
use Rattle.writer.specs.RunsInner.{directed_in, FirstRun}
use Rattle.writer.specs.ContentsInner.{observations_in, series_at, series_in, partner_at, partners_in, message_by}
use Rattle.writer.proofs.SixesLaws.{rows-chunks}

-- ---- observations

observations-length : (rows : List (List ℕ)) → length (observations_in rows) ≡ length rows
observations-length rows = length-map (map row_in rows) (λ r. r.1.1) ∙ length-map rows row_in

pub observations-step : (rows : List (List ℕ)) (i : ℕ) → i < length rows
    → flat_map observation_bytes (observations_in (drop i rows))
    ≡ observation_bytes (observed (get_or (get_or rows i []) 3 0, get_or (get_or rows i []) 4 0)) ++ flat_map observation_bytes (observations_in (drop (i + 1) rows))
unfolding flat_map
observations-step rows i h =
    let next : suc i ≡ i + 1 = omega arith in
    ap (λ (l : List (List ℕ)). flat_map observation_bytes (observations_in l)) (drop-cons rows i [] h)
    ∙ ap (λ (k : ℕ). observation_bytes (observed (get_or (get_or rows i []) 3 0, get_or (get_or rows i []) 4 0)) ++ flat_map observation_bytes (observations_in (drop k rows))) next

pub observations-none : (rows : List (List ℕ)) (i : ℕ) → length rows ≤ i → flat_map observation_bytes (observations_in (drop i rows)) ≡ []
unfolding flat_map
observations-none rows i h = ap (λ (l : List (List ℕ)). flat_map observation_bytes (observations_in l)) (drop_of_length-le rows {i = i} h)

-- ---- series and partners

pub series-none : (k : Kind) (q : ℕ × ℕ) (rows : List (List ℕ)) → length rows ≡ 0 → flat_map (series_bytes k) (series_in q rows) ≡ []
unfolding flat_map group
series-none k q [] e = refl
series-none k q (x ∷ rows) e = absurd (omega (arith, e))

pub partners-none : (k : Kind) (q : ℕ × ℕ) (rows : List (List ℕ)) → length rows ≡ 0 → flat_map (partner_bytes k) (partners_in q rows) ≡ []
unfolding flat_map group partners_of
partners-none k q [] e = refl
partners-none k q (x ∷ rows) e = absurd (omega (arith, e))

directed-is : (rows : List (List ℕ)) → map (λ r. r.1) (map row_in rows) ≡ map directed_in rows
directed-is rows = map-map (λ r. r.1) row_in rows

first-series : (q : ℕ × ℕ) (rows : List (List ℕ)) → series_of q ((directed_in (get_or rows 0 [])).0, map (λ x. x.1) (map directed_in rows)) ≡ series_at q rows
first-series q rows =
    ap (λ (o : List Observation). record { supply = get_or (get_or rows 0 []) 1 0; delivery = get_or (get_or rows 0 []) 2 0; year = q.0; month = q.1; observations = o })
    (map-map (λ x. x.1) directed_in rows ∙ sym (map-map (λ r. r.1.1) row_in rows))

-- of rows that were cut behind their first run
module _ (k : Kind) (q : ℕ × ℕ) {rows a b : List (List ℕ)} where
  pub series-cut : FirstRun directions_keys directed_in rows a b
      → flat_map (series_bytes k) (series_in q rows) ≡ series_bytes k (series_at q a) ++ flat_map (series_bytes k) (series_in q b)
  unfolding flat_map
  series-cut r =
      let bytes = flat_map (series_bytes k) in
      ap (λ (g : List ((ℕ × ℕ) × Observation)). bytes (map (series_of q) (group directions_keys g))) (directed-is rows)
      ∙ ap (λ (gs : List ((ℕ × ℕ) × List Observation)). bytes (map (series_of q) gs)) r.first
      ∙ ap₂ (λ (s : TimeSeries) (g : List ((ℕ × ℕ) × Observation)). series_bytes k s ++ bytes (map (series_of q) (group directions_keys g))) (first-series q a) (sym (directed-is b))

  pub partners-cut : FirstRun number_keys row_in rows a b
      → flat_map (partner_bytes k) (partners_in q rows) ≡ partner_bytes k (partner_at q a) ++ flat_map (partner_bytes k) (partners_in q b)
  unfolding partners_of flat_map
  partners-cut r = ap (λ (gs : List (ℕ × List ((ℕ × ℕ) × Observation))). flat_map (partner_bytes k) (map (partner_of q) gs)) r.first

-- the first row's supply direction is the first series'
series-supply : (q : ℕ × ℕ) (rows : List (List ℕ)) → 1 ≤ length rows → supply_of (series_in q rows) ≡ get_or (get_or rows 0 []) 1 0
unfolding supply_of
series-supply q [] h = absurd (omega arith)
series-supply q (x ∷ rows) h =
    let f = first_group directions_keys (row_in x).1 (map (λ r. r.1) (map row_in rows)) in
    ap (λ (g : List ((ℕ × ℕ) × List Observation)). supply_of (map (series_of q) g)) f.is

-- ---- head, what is held, end, of rows

pub series-laid : (k : Kind) (q : ℕ × ℕ) (rows : List (List ℕ))
    → series_head k (get_or (get_or rows 0 []) 1 0) (get_or (get_or rows 0 []) 2 0) (length rows) q.0 q.1 ++ (flat_map observation_bytes (observations_in rows) ++ series_end)
    ≡ series_bytes k (series_at q rows)
series-laid k q rows =
    let s = series_at q rows in
    ap (λ (n : ℕ). series_head k s.supply s.delivery n q.0 q.1 ++ (flat_map observation_bytes s.observations ++ series_end)) (sym (observations-length rows)) ∙ series-parts k s

pub partner-laid : (k : Kind) (q : ℕ × ℕ) (rows : List (List ℕ)) {n : ℕ} → 1 ≤ length rows → n ≡ length (group directions_keys (map (λ r. r.1) (map row_in rows)))
    → partner_head k (get_or (get_or rows 0 []) 0 0) (get_or (get_or rows 0 []) 1 0) n ++ (flat_map (series_bytes k) (series_in q rows) ++ partner_end k)
    ≡ partner_bytes k (partner_at q rows)
partner-laid k q rows h e =
    let p = partner_at q rows in
    let count = length-map (group directions_keys (map (λ r. r.1) (map row_in rows))) (series_of q) in
    ap₂ (λ (d n : ℕ). partner_head k p.number d n ++ (flat_map (series_bytes k) p.series ++ partner_end k)) (sym (series-supply q rows h)) (e ∙ sym count) ∙ partner-parts k p

pub message-laid : (t : Title) (id moment : List ℕ) (rows : List (List ℕ)) {n : ℕ} → n ≡ length (group number_keys (map row_in rows))
    → file_head t.kind id moment t.receiver n ++ (flat_map (partner_bytes t.kind) (partners_in (t.year, t.month) rows) ++ file_end t.kind)
    ≡ message_bytes (message_by t id moment rows)
unfolding contents partners_of
message-laid t id moment rows e =
    let q : ℕ × ℕ = (t.year, t.month) in
    let count = length-map (group number_keys (map row_in rows)) (partner_of q) in
    ap (λ (n : ℕ). file_head t.kind id moment t.receiver n ++ (flat_map (partner_bytes t.kind) (partners_in q rows) ++ file_end t.kind)) (e ∙ sym count)
    ∙ file-parts (contents (message_by t id moment rows))

-- ---- a file by its rows

-- the file of rows that stand as numbers
pub message-is : (t : Title) (id moment l : List ℕ) {rows : List (List ℕ)} → rows ≡ first_chunks 6 (length l / 6) l
    → message_bytes (message_by t id moment rows) ≡ message_bytes (rows_message t.kind t.receiver t.year t.month l id moment)
unfolding rows_in
message-is t id moment l e =
    ap (λ (rows : List Row). message_bytes (record { kind = t.kind; receiver = t.receiver; id = id; moment = moment; year = t.year; month = t.month; rows = rows }))
    (ap (map row_in) e ∙ sym (rows-chunks l 0 (length l / 6)))

month-period : (k : Kind) (year month : ℕ) (rows : List Row) → 1 ≤ length rows → of_month k year month rows ≡ true → IsPeriod year month
unfolding of_month
month-period k year month [] h e = absurd (omega arith)
month-period k year month (r ∷ rows) h e =
    to-period (year, month) (and_left (is_period (year, month)) (every (is_row k (last_position year month)) (r ∷ rows) && ordered (row_before k) (r ∷ rows)) e)

-- rows that a file has, if there are any, are of a month
pub rows-period : (k : Kind) (receiver year month : ℕ) (l : List ℕ) {rows : List (List ℕ)} → rows ≡ first_chunks 6 (length l / 6) l → is_rows k receiver year month l ≡ true → 1 ≤ length rows
    → IsPeriod year month
unfolding is_rows rows_in
rows-period k receiver year month l {rows} e f h =
    let is : map row_in rows ≡ rows_in l = ap (map row_in) e ∙ sym (rows-chunks l 0 (length l / 6)) in
    let m = and_right (in_sixes l) (of_month k year month (rows_in l)) (and_right (ltb receiver (10 ^ 10)) (in_sixes l && of_month k year month (rows_in l)) f) in
    month-period k year month (map row_in rows) (omega (arith, length-map rows row_in)) (ap (of_month k year month) is ∙ m)
