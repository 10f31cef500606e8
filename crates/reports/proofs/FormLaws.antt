-- The file that a sound book gives is a valid one: so its bytes are read, and read as its rows.
use Rattle.std.specs.Prelude.{◌≡◌, Bool, false, cond, ◌&&◌, length}
use Rattle.std.proofs.Math.Path.{refl, sym, ap, subst}
use Rattle.std.proofs.Common.{◌∙◌, mul-suc, mul-le-mul_left, arith, ltb-true, le-leb}
use Rattle.std.proofs.Math.Bool.{true}
use mathlib.Core.List.Memᴰ
use mathlib.Core.List.{List, [], ◌∷◌, map, flat_map, Memᴰ}
use Prim.Native.Nat.{ℕ, zero, suc, ◌*◌, ◌^◌, ◌≤◌, ◌<◌}
use Rattle.std.proofs.Math.ListN.{length-map}
use Rattle.integers.specs.Ranges.{range}
use Rattle.integers.specs.Running.{up_to, floor_at}
use Rattle.integers.specs.Sums.{sum_by, sum_of}
use Rattle.integers.proofs.TestsLaws.{and_both}
use Rattle.integers.specs.Rises.{rises}
use Rattle.integers.specs.All.{All}
use Rattle.integers.specs.Keep.{keep, is_some}
use Rattle.integers.proofs.KeepLaws.{keep-length, mem-keep, keep-rises, some-length, some-member}
use Rattle.integers.proofs.AscendingLaws.{ascending-rises, ascending-once, ascending-length}
use Rattle.moments.specs.Ids.{is_transaction_id}
use Rattle.quarters.specs.declared.Calendar.{Calendar}
use Rattle.book.specs.declared.Supply.{Supply}
use Rattle.book.specs.declared.Supply.TheVariants.{OffTake, Injection}
use Rattle.book.specs.declared.Direction.{Direction}
use Rattle.book.specs.declared.Direction.TheVariants.{Up, Down}
use Rattle.book.specs.declared.Point.{Point}
use Rattle.book.specs.declared.Engagement.{Engagement}
use Rattle.quarters.specs.Quarters.{month_quarters}
use Rattle.quarters.proofs.QuartersLaws.{month-quarters, month-quarters-most}
use Rattle.book.specs.Book.{Book}
use Rattle.volumes.specs.Sheets.{covers, quarter_at}
use Rattle.volumes.specs.declared.Series.{Series}
use Rattle.volumes.specs.Series.{Kind, Toe01, Toe02, Toe03, receiver_of, partner_of, is_engagement, grains_of, grains_at, series_watts, series_of}
use Rattle.volumes.specs.SoundInner.{Sound}
use Rattle.volumes.proofs.SoundLaws.{mem-range}
use Rattle.volumes.proofs.WidthsLaws.{most, delivered-most}
use Rattle.message.specs.Contents.{Observation, TimeSeries, Partner, place, position, number}
use Rattle.message.specs.Bytes.{digits, supply_of}
use Rattle.message.proofs.PositionsLaws.{last-is}
use Rattle.message.specs.Valid.{last_position, IsObservation, IsVolume, IsSeries, OneSupply, IsPartner, is_moment, month_of, periods, first_of, IsFile}
use Rattle.reports.specs.FileRows.{supply_number, delivery_number, is_taken, partner_numbers, directions, is_written, partners_of, file_of, observation_by, observations_by, time_series_by, partner_by, partners_by}
use Rattle.reports.specs.Roles.{receivers}
use Rattle.reports.specs.RegisteredInner.{NumbersFit, Registered}
use Rattle.reports.proofs.PointsLaws.{Of, Inside, watts-point}
use Rattle.integers.proofs.AllLaws.{all_map, each_all, all_append}
use Rattle.integers.proofs.RangesLaws.{length-range}
use Rattle.quarters.specs.QuartersInner.{Ranged, longest_month}
use Rattle.reports.specs.FileRowsInner.{positions, observation_at, observations_of, time_series, time_series_of, partner_at}

-- ---- lists

map_back : {B : Type 0} (f : B → ℕ) (g : ℕ → B) → ((n : ℕ) → f (g n) ≡ n) → (l : List ℕ) → map f (map g l) ≡ l
map_back f g h [] = refl
map_back f g h (n ∷ l) = ap (λ k. k ∷ map f (map g l)) (h n) ∙ ap (λ r. n ∷ r) (map_back f g h l)

range-rises : (a n : ℕ) → rises a (range a n) ≡ true
unfolding rises range
range-rises a zero = refl
range-rises a (suc n) = and_both (le-leb a a (omega arith)) (range-rises (suc a) n)

all-flat_map : {A B : Type 0} (P : B → Type 0) (f : A → List B) (l : List A) → ((a : A) → Memᴰ a l → All P (f a)) → All P (flat_map f l)
unfolding All flat_map
all-flat_map P f [] h = tt
all-flat_map P f (a ∷ l) h = all_append P (f a) (flat_map f l) (h a (Memᴰ.head refl)) (all-flat_map P f l (λ b m. h b (Memᴰ.tail m)))

-- pairs that are all the same are all like the first
all_first : (l : List (ℕ × ℕ)) (q : ℕ × ℕ) → All (λ x. x ≡ q) l → All (λ x. x ≡ first_of l) l
unfolding All first_of
all_first [] q h = tt
all_first (x ∷ l) q h = (refl, all_map (λ y e. e ∙ sym h.0) l h.1)

-- ---- the watts of an observation

grains-few : (book : Book) → Sound book → (kind : Kind) (receiver : ℕ) (s : Series) (p : ℕ) (es : List Engagement) → sum_of (grains_of book kind receiver s p) es ≤ most * length es
unfolding sum_by grains_of
grains-few book sound kind receiver s p [] = omega arith
grains-few book sound kind receiver s p (e ∷ es) =
    omega (arith, mul-suc most (length es), grains-few book sound kind receiver s p es, few (is_engagement book kind receiver s e && covers book.calendar e p) (delivered-most book sound e (quarter_at book.calendar e p)))
  where
    few : (t : Bool) {n : ℕ} → n ≤ most → cond t n 0 ≤ most
    few true h = h
    few false h = omega arith

-- 512 engagements of at most 10^9 watts, and what was left over before
grains-below : (book : Book) → Sound book → (kind : Kind) (receiver : ℕ) (s : Series) (p : ℕ) → grains_at book kind receiver s p ≤ most * 512
unfolding grains_at
grains-below book sound kind receiver s p =
    let k : most * length book.engagements ≤ most * 512 = mul-le-mul_left most sound.few in
    omega (arith, grains-few book sound kind receiver s p book.engagements)

pub watts-below : (book : Book) → Sound book → (kind : Kind) (receiver : ℕ) (s : Series) (p : ℕ) → series_watts book kind receiver s p < 1000000000000
unfolding series_watts floor_at up_to
watts-below book sound kind receiver s zero = omega arith
watts-below book sound kind receiver s (suc p) = omega (arith, grains-below book sound kind receiver s (suc p))

-- ---- positions

-- the month's quarter-hours are as many as the reader's positions
pub month-positions : (c : Calendar) → Ranged c → month_quarters c ≡ last_position c.year c.month
month-positions c h = month-quarters c h ∙ sym (last-is c.year c.month)

partner-fits : (kind : Kind) (point : Point) → NumbersFit point → partner_of kind point < 10 ^ digits kind
unfolding partner_of digits
partner-fits Toe01 point h = h.supplier
partner-fits Toe02 point h = h.fsp
partner-fits Toe03 point h = h.access

supply-two : (u : Supply) → supply_number u < 2
unfolding supply_number
supply-two OffTake = omega arith
supply-two Injection = omega arith

delivery-two : (v : Direction) → delivery_number v < 2
unfolding delivery_number
delivery-two Up = omega arith
delivery-two Down = omega arith

module _ (book : Book) (sound : Sound book) (registered : Registered book) (kind : Kind) (receiver : ℕ) where
  inside : Inside book
  inside e m = (sound.engagements e m).point

  -- ---- a series

  observation-valid : (s : Series) (o : Observation) → Memᴰ o (observations_of book kind receiver s) → IsObservation (last_position book.calendar.year book.calendar.month) o
  unfolding observations_of observations_by is_written positions observation_at observation_by series_watts
  observation-valid s o m = let k = mem-keep is_written (map (observation_at book kind receiver s) (positions book)) o m in go (Memᴰ.of_map (observation_at book kind receiver s) (positions book) k.0) (ltb-true 0 o.watts k.1)
    where
      go : (p : ℕ) × Memᴰ p (range 1 (month_quarters book.calendar)) × (observation_at book kind receiver s p ≡ o) → 0 < o.watts → IsObservation (last_position book.calendar.year book.calendar.month) o
      go (p, m, e) h =
          let r = mem-range 1 (month_quarters book.calendar) p m in
          record {
            within = omega (arith, r.1, ap (λ (x : Observation). x.position) e, month-positions book.calendar sound.ranged);
            some = omega arith;
            below = omega (arith, ap (λ (x : Observation). x.watts) e, watts-below book sound kind receiver s p);
          }

  observations-few : (s : Series) → length (observations_of book kind receiver s) ≤ longest_month
  unfolding observations_of observations_by positions observation_at observation_by series_watts
  observations-few s =
      omega (arith, keep-length is_written (map (observation_at book kind receiver s) (positions book)), length-map (positions book) (observation_at book kind receiver s), length-range 1 (month_quarters book.calendar), month-quarters-most book.calendar sound.ranged)

  observations-rise : (s : Series) → rises 1 (map position (observations_of book kind receiver s)) ≡ true
  unfolding observations_of observations_by positions observation_at observation_by series_watts
  observations-rise s =
      keep-rises is_written position 1 (map (observation_at book kind receiver s) (positions book))
      (rw (map_back position (observation_at book kind receiver s) (λ n. refl) (positions book)) (range-rises 1 (month_quarters book.calendar)))

  volume-valid : (n : ℕ) (d : Supply × Direction) → is_some (observations_of book kind receiver (series_of n d.0 d.1)) ≡ true → IsVolume (time_series book kind receiver n d)
  unfolding time_series time_series_by observations_of observations_by
  volume-valid n d e =
      let s = series_of n d.0 d.1 in
      record {
        delivery = delivery-two d.1;
        period = record { from = sound.ranged.from; to = sound.ranged.to; january = sound.ranged.january; december = sound.ranged.december };
        counted = record { some = some-length (observations_of book kind receiver s) e; fits = omega (arith, observations-few s) };
        rising = observations-rise s;
        each = each_all _ (observations_of book kind receiver s) (λ o m. observation-valid s o m);
      }

  -- a time series that stands in the file, by its directions
  standing : (n : ℕ) (s : TimeSeries) → Memᴰ s (time_series_of book kind receiver n) → (d : Supply × Direction) × (time_series book kind receiver n d ≡ s) × (is_some (observations_of book kind receiver (series_of n d.0 d.1)) ≡ true)
  unfolding time_series_of partner_at partner_by time_series time_series_by observations_of observations_by
  standing n s m = let k = mem-keep (λ (s : TimeSeries). is_some s.observations) (map (time_series book kind receiver n) directions) s m in go (Memᴰ.of_map (time_series book kind receiver n) directions k.0) k.1
    where
      go : (d : Supply × Direction) × Memᴰ d directions × (time_series book kind receiver n d ≡ s) → is_some s.observations ≡ true → (d : Supply × Direction) × (time_series book kind receiver n d ≡ s) × (is_some (observations_of book kind receiver (series_of n d.0 d.1)) ≡ true)
      go (d, m, e) h = (d, e, ap (λ (x : TimeSeries). is_some x.observations) e ∙ h)

  series-valid : (n : ℕ) (s : TimeSeries) → Memᴰ s (time_series_of book kind receiver n) → IsSeries s
  unfolding time_series time_series_by observations_of observations_by
  series-valid n s m = go (standing n s m)
    where
      go : (d : Supply × Direction) × (time_series book kind receiver n d ≡ s) × (is_some (observations_of book kind receiver (series_of n d.0 d.1)) ≡ true) → IsSeries s
      go (d, e, h) = subst IsSeries e (record { supply = supply-two d.0; volume = volume-valid n d h })

  -- it has a point of the receiver and the partner, whose supply direction is its own
  series-point : (n : ℕ) (s : TimeSeries) → Memᴰ s (time_series_of book kind receiver n) → (point : Point) × Memᴰ point book.points × (partner_of kind point ≡ n) × (s.supply ≡ supply_number point.supply)
  unfolding time_series time_series_by observations_of observations_by is_written observation_at observation_by positions series_watts
  series-point n s m = go (standing n s m)
    where
      at : (d : Supply × Direction) → time_series book kind receiver n d ≡ s → (point : Point) × Memᴰ point book.points × Of kind receiver (series_of n d.0 d.1) point → (point : Point) × Memᴰ point book.points × (partner_of kind point ≡ n) × (s.supply ≡ supply_number point.supply)
      at d e (point, k, o) = (point, k, o.partner, sym (ap (λ (x : TimeSeries). x.supply) e) ∙ ap supply_number (sym o.supply))

      watts-of : (series : Series) (o : Observation) → 0 < o.watts → (p : ℕ) × Memᴰ p (positions book) × (observation_at book kind receiver series p ≡ o) → (p : ℕ) × (1 ≤ series_watts book kind receiver series p)
      watts-of series o h (p, k, f) = (p, omega (arith, ap (λ (x : Observation). x.watts) f))

      go : (d : Supply × Direction) × (time_series book kind receiver n d ≡ s) × (is_some (observations_of book kind receiver (series_of n d.0 d.1)) ≡ true) → (point : Point) × Memᴰ point book.points × (partner_of kind point ≡ n) × (s.supply ≡ supply_number point.supply)
      go (d, e, h) =
          let series = series_of n d.0 d.1 in
          let o = some-member (observations_of book kind receiver series) h in
          let k = mem-keep is_written (map (observation_at book kind receiver series) (positions book)) o.0 o.1 in
          let w = watts-of series o.0 (ltb-true 0 o.0.watts k.1) (Memᴰ.of_map (observation_at book kind receiver series) (positions book) k.0) in
          at d e (watts-point book inside kind receiver series w.0 w.1)

  -- ---- a partner

  partner-point : (n : ℕ) → Memᴰ n (partner_numbers book kind receiver) → (point : Point) × Memᴰ point book.points × (partner_of kind point ≡ n)
  unfolding partner_numbers
  partner-point n m = go (Memᴰ.of_map (partner_of kind) (keep (is_taken kind receiver) book.points) ((ascending-once (map (partner_of kind) (keep (is_taken kind receiver) book.points))).only n m))
    where
      go : (point : Point) × Memᴰ point (keep (is_taken kind receiver) book.points) × (partner_of kind point ≡ n) → (point : Point) × Memᴰ point book.points × (partner_of kind point ≡ n)
      go (point, k, e) = (point, (mem-keep (is_taken kind receiver) book.points point k).0, e)

  number-below : (n : ℕ) → Memᴰ n (partner_numbers book kind receiver) → n < 10 ^ digits kind
  number-below n m = go (partner-point n m)
    where
      go : (point : Point) × Memᴰ point book.points × (partner_of kind point ≡ n) → n < 10 ^ digits kind
      go (point, k, e) = subst (λ x. x < 10 ^ digits kind) e (partner-fits kind point (registered.numbered point k))

  series-rise : (n : ℕ) → rises 0 (map place (time_series_of book kind receiver n)) ≡ true
  unfolding time_series_of partner_at partner_by time_series time_series_by directions supply_number delivery_number rises observations_of observations_by
  series-rise n = keep-rises (λ (s : TimeSeries). is_some s.observations) place 0 (map (time_series book kind receiver n) directions) refl

  series-few : (n : ℕ) → length (time_series_of book kind receiver n) ≤ 4
  unfolding time_series_of partner_at partner_by directions time_series time_series_by
  series-few n = keep-length (λ (s : TimeSeries). is_some s.observations) (map (time_series book kind receiver n) directions)

-- "in TOE03 an EAN stands once, with one supply direction": its points share theirs
one_of_all : (l : List TimeSeries) → ((s t : TimeSeries) → Memᴰ s l → Memᴰ t l → s.supply ≡ t.supply) → All (λ (s : TimeSeries). s.supply ≡ supply_of l) l
unfolding supply_of All
one_of_all [] h = tt
one_of_all (t ∷ l) h = (refl, each_all (λ (s : TimeSeries). s.supply ≡ t.supply) l (λ s m. h s t (Memᴰ.tail m) (Memᴰ.head refl)))

one-access : (book : Book) → Sound book → Registered book → (receiver n : ℕ) (s t : TimeSeries) → Memᴰ s (time_series_of book Toe03 receiver n) → Memᴰ t (time_series_of book Toe03 receiver n) → s.supply ≡ t.supply
unfolding partner_of
one-access book sound registered receiver n s t m k = go (series-point book sound registered Toe03 receiver n s m) (series-point book sound registered Toe03 receiver n t k)
  where
    go : (point : Point) × Memᴰ point book.points × (point.access ≡ n) × (s.supply ≡ supply_number point.supply) → (point : Point) × Memᴰ point book.points × (point.access ≡ n) × (t.supply ≡ supply_number point.supply) → s.supply ≡ t.supply
    go (a, i, p, u) (b, j, q, v) = u ∙ ap supply_number (registered.shared a b i j (p ∙ sym q)) ∙ sym v

one-supply : (book : Book) → Sound book → Registered book → (kind : Kind) (receiver n : ℕ) → OneSupply kind (time_series_of book kind receiver n)
one-supply book sound registered Toe01 receiver n = tt
one-supply book sound registered Toe02 receiver n = tt
one-supply book sound registered Toe03 receiver n = one_of_all (time_series_of book Toe03 receiver n) (one-access book sound registered receiver n)

receiver-fits : (kind : Kind) (point : Point) → NumbersFit point → receiver_of kind point < 10 ^ 10
unfolding receiver_of
receiver-fits Toe01 point h = h.fsp
receiver-fits Toe02 point h = h.supplier
receiver-fits Toe03 point h = h.supplier

-- no more partners than points
pub partners-few : (book : Book) (kind : Kind) (receiver : ℕ) → Registered book → length (partners_of book kind receiver) ≤ 256
unfolding partners_of partners_by partner_numbers
partners-few book kind receiver registered =
    let points = keep (is_taken kind receiver) book.points in
    let numbers = partner_numbers book kind receiver in
    omega (arith, keep-length (λ (p : Partner). is_some p.series) (map (partner_by (grains_at book kind receiver) (book.calendar.year, book.calendar.month) (month_quarters book.calendar)) numbers), length-map numbers (partner_by (grains_at book kind receiver) (book.calendar.year, book.calendar.month) (month_quarters book.calendar)), ascending-length (map (partner_of kind) points), length-map points (partner_of kind), keep-length (is_taken kind receiver) book.points, registered.few)

module _ (book : Book) (sound : Sound book) (registered : Registered book) (kind : Kind) (receiver : ℕ) where
  partner-valid : (p : Partner) → Memᴰ p (partners_of book kind receiver) → IsPartner kind p
  unfolding partners_of partners_by partner_at partner_by time_series_of time_series
  partner-valid p m = let k = mem-keep (λ (p : Partner). is_some p.series) (map (partner_at book kind receiver) (partner_numbers book kind receiver)) p m in go (Memᴰ.of_map (partner_at book kind receiver) (partner_numbers book kind receiver) k.0) k.1
    where
      at : (n : ℕ) → Memᴰ n (partner_numbers book kind receiver) → is_some (time_series_of book kind receiver n) ≡ true → IsPartner kind (partner_at book kind receiver n)
      at n m e =
          record {
            number = number-below book sound registered kind receiver n m;
            counted = record { some = some-length (time_series_of book kind receiver n) e; fits = omega (arith, series-few book sound registered kind receiver n) };
            rising = series-rise book sound registered kind receiver n;
            each = each_all IsSeries (time_series_of book kind receiver n) (series-valid book sound registered kind receiver n);
            one = one-supply book sound registered kind receiver n;
          }

      go : (n : ℕ) × Memᴰ n (partner_numbers book kind receiver) × (partner_at book kind receiver n ≡ p) → is_some p.series ≡ true → IsPartner kind p
      go (n, m, e) h = subst (IsPartner kind) e (at n m (ap (λ (x : Partner). is_some x.series) e ∙ h))

  -- all series are of the book's month
  series-month : (n : ℕ) (s : TimeSeries) → Memᴰ s (time_series_of book kind receiver n) → month_of s ≡ (book.calendar.year, book.calendar.month)
  unfolding time_series time_series_by observations_of observations_by
  series-month n s m = go (standing book sound registered kind receiver n s m)
    where
      go : (d : Supply × Direction) × (time_series book kind receiver n d ≡ s) × (is_some (observations_of book kind receiver (series_of n d.0 d.1)) ≡ true) → month_of s ≡ (book.calendar.year, book.calendar.month)
      go (d, e, h) = ap month_of (sym e)

  partner-month : (p : Partner) → Memᴰ p (partners_of book kind receiver) → All (λ q. q ≡ (book.calendar.year, book.calendar.month)) (map month_of p.series)
  unfolding partners_of partners_by partner_at partner_by time_series_of time_series
  partner-month p m = go (Memᴰ.of_map (partner_at book kind receiver) (partner_numbers book kind receiver) (mem-keep (λ (p : Partner). is_some p.series) (map (partner_at book kind receiver) (partner_numbers book kind receiver)) p m).0)
    where
      month : (n : ℕ) (q : ℕ × ℕ) → (s : TimeSeries) × Memᴰ s (time_series_of book kind receiver n) × (month_of s ≡ q) → q ≡ (book.calendar.year, book.calendar.month)
      month n q (s, k, e) = sym e ∙ series-month n s k

      go : (n : ℕ) × Memᴰ n (partner_numbers book kind receiver) × (partner_at book kind receiver n ≡ p) → All (λ q. q ≡ (book.calendar.year, book.calendar.month)) (map month_of p.series)
      go (n, k, e) =
          subst (λ (x : Partner). All (λ q. q ≡ (book.calendar.year, book.calendar.month)) (map month_of x.series)) e
          (each_all _ (map month_of (time_series_of book kind receiver n)) (λ q j. month n q (Memᴰ.of_map month_of (time_series_of book kind receiver n) j)))

  pub book-month : All (λ q. q ≡ (book.calendar.year, book.calendar.month)) (periods (partners_of book kind receiver))
  unfolding periods
  book-month = all-flat_map _ (λ (p : Partner). map month_of p.series) (partners_of book kind receiver) partner-month

  pub partners-rise : rises 0 (map number (partners_of book kind receiver)) ≡ true
  unfolding partners_of partners_by partner_at partner_by partner_numbers time_series_of time_series
  partners-rise =
      keep-rises (λ (p : Partner). is_some p.series) number 0 (map (partner_at book kind receiver) (partner_numbers book kind receiver))
      (rw (map_back number (partner_at book kind receiver) (λ n. refl) (partner_numbers book kind receiver)) (ascending-rises (map (partner_of kind) (keep (is_taken kind receiver) book.points))))

  pub partners-valid : All (IsPartner kind) (partners_of book kind receiver)
  partners-valid = each_all (IsPartner kind) (partners_of book kind receiver) partner-valid

  receiver-below : Memᴰ receiver (receivers book kind) → receiver < 10 ^ 10
  unfolding receivers
  receiver-below m = go (Memᴰ.of_map (receiver_of kind) book.points m)
    where
      go : (point : Point) × Memᴰ point book.points × (receiver_of kind point ≡ receiver) → receiver < 10 ^ 10
      go (point, k, e) = subst (λ n. n < 10 ^ 10) e (receiver-fits kind point (registered.numbered point k))

  -- the file of a receiver in its role, with an ID and a moment in form
  pub file-valid : (id moment : List ℕ) → Memᴰ receiver (receivers book kind) → is_transaction_id id ≡ true → is_moment moment ≡ true → IsFile (file_of book kind receiver id moment)
  unfolding file_of
  file-valid id moment m e f =
      record {
        receiver = receiver-below m;
        id = e;
        moment = f;
        fits = omega (arith, partners-few book kind receiver registered);
        rising = partners-rise;
        each = partners-valid;
        same = all_first (periods (partners_of book kind receiver)) (book.calendar.year, book.calendar.month) book-month;
      }
