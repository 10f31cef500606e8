-- Rows that are judged row by row to be a file's are the rows of a valid file, and no others are.
use Rattle.std.specs.Prelude.{◌≡◌, Bool, true, ◌&&◌, leb, length}
use Rattle.std.proofs.Math.Path.{refl, sym, ap, subst}
use Rattle.std.proofs.Common.{◌∙◌, arith}
use mathlib.Core.List.{List, [], ◌∷◌, map, map-map, flat_map}
use Prim.Native.Nat.{ℕ, suc, ◌+◌, ◌*◌, ◌^◌, ◌≤◌, ◌<◌}
use Rattle.std.proofs.Math.Dec.{eqb, ltb}
use Rattle.std.proofs.Math.ListN.{length-map}
use borrow.Author.Tests.{leb-true, le-leb, ltb-true, lt-ltb, eqb-true, eq-eqb}
use Rattle.integers.proofs.TestsLaws.{and_left, and_right, and_both}
use Rattle.integers.specs.Rises.{rises}
use Rattle.integers.specs.All.{All}
use Rattle.kinds.specs.declared.Kind.{Kind}
use Rattle.kinds.specs.declared.Kind.TheVariants.{Toe01, Toe02, Toe03}
use Rattle.message.specs.Contents.{Observation, TimeSeries, Partner, position, place, number}
use Rattle.message.specs.Bytes.{digits, supply_of}
use Rattle.message.specs.Valid.{most, last_position, IsObservation, IsPeriod, IsSeries, OneSupply, IsPartner, is_moment, month_of, periods, first_of}
use Rattle.message.proofs.PositionsLaws.{position-small}
use Rattle.message.specs.Reading.{is_period}
use Rattle.message.proofs.ObservationForm.{to-period, from-period}
use Rattle.message.specs.Keys.{number_keys, directions_keys}
use Rattle.message.specs.Group.{Keys, group}
use Rattle.message.specs.Rows.{Row, rows_in, in_sixes, series_of, partner_of, partners_of, Message, contents, IsMessage}
use Rattle.message.proofs.RowsLaws.{first-month}
use Rattle.moments.specs.Ids.{is_transaction_id}
use Rattle.writer.specs.Order.{every, follow, ordered, by, both}
use Rattle.writer.specs.Rows.{is_observation, is_directions, is_number, one_supply, later_directions, later, is_row, row_before, of_month, is_rows, rows_message}
use Rattle.integers.proofs.AllLaws.{all_map, all_of, all_append, all_both, all_of_map, map-all}
use Rattle.message.proofs.GroupLaws.{first_group}
use Rattle.writer.proofs.OrderLaws.{every-group, full-groups, every-all, all-every, ordered-map, ordered-both, rises-follow, keys_of, in_order, order-groups}
use Rattle.integers.proofs.RisesLaws.{rises-few}

-- ---- observations

observation-to : (last : ℕ) (o : Observation) → is_observation last o ≡ true → IsObservation last o × (1 ≤ o.position)
unfolding is_observation
observation-to last o e =
    let p = and_left (leb 1 o.position && leb o.position last) (leb 1 o.watts && ltb o.watts 1000000000000) e in
    let w = and_right (leb 1 o.position && leb o.position last) (leb 1 o.watts && ltb o.watts 1000000000000) e in (
      record {
        within = leb-true o.position last (and_right (leb 1 o.position) (leb o.position last) p);
        some = leb-true 1 o.watts (and_left (leb 1 o.watts) (ltb o.watts 1000000000000) w);
        below = ltb-true o.watts 1000000000000 (and_right (leb 1 o.watts) (ltb o.watts 1000000000000) w);
      },
      leb-true 1 o.position (and_left (leb 1 o.position) (leb o.position last) p),
    )

observation-from : (last : ℕ) (o : Observation) → IsObservation last o × (1 ≤ o.position) → is_observation last o ≡ true
unfolding is_observation
observation-from last o h =
    and_both (and_both (le-leb 1 o.position h.1) (le-leb o.position last h.0.within)) (and_both (le-leb 1 o.watts h.0.some) (lt-ltb o.watts 1000000000000 h.0.below))

-- positions rise from 1 on, so each is at least 1
pub rises-least : (low : ℕ) (l : List ℕ) → rises low l ≡ true → All (λ n. low ≤ n) l
unfolding rises All
rises-least low [] e = tt
rises-least low (n ∷ l) e =
    let h = leb-true low n (and_left (leb low n) (rises (suc n) l) e) in
    (h, all_map (λ m g. omega (arith, g)) l (rises-least (suc n) l (and_right (leb low n) (rises (suc n) l) e)))

-- numbers in order rise from the least
ordered-rises : (low : ℕ) (l : List ℕ) → All (λ n. low ≤ n) l → ordered ltb l ≡ true → rises low l ≡ true
unfolding ordered All rises
ordered-rises low [] v e = refl
ordered-rises low (a ∷ l) v e = rises-follow low a l ∙ and_both (le-leb low a v.0) e

rises-ordered : (low : ℕ) (l : List ℕ) → rises low l ≡ true → ordered ltb l ≡ true
unfolding ordered
rises-ordered low [] e = refl
rises-ordered low (a ∷ l) e = and_right (leb low a) (follow ltb a l) (sym (rises-follow low a l) ∙ e)

-- what a series' observations are
record Observed (last : ℕ) (l : List Observation) : Type 0 where
  each : All (IsObservation last) l
  rising : rises 1 (map position l) ≡ true
  few : length l ≤ last

observed-to : (last : ℕ) (l : List Observation) → every (is_observation last) l ≡ true → ordered later l ≡ true → Observed last l
unfolding later
observed-to last l v e =
    let good = every-all (is_observation last) (observation-to last) l v in
    let r = ordered-rises 1 (map position l) (all_of_map (λ n. 1 ≤ n) position l (all_map (λ o h. h.1) l good)) (ordered-map position ltb l ∙ e) in
    let below = all_of_map (λ n. n < suc last) position l (all_map (λ o h. omega (arith, h.0.within)) l good) in
    record {
      each = all_map (λ o h. h.0) l good;
      rising = r;
      few = omega (arith, length-map l position, rises-few 1 (suc last) (map position l) (omega arith) r below);
    }

observed-from : (last : ℕ) (l : List Observation) → All (IsObservation last) l → rises 1 (map position l) ≡ true → (every (is_observation last) l ≡ true) × (ordered later l ≡ true)
unfolding later
observed-from last l v r = (
  all-every (is_observation last) (observation-from last) l
      (all_both (IsObservation last) (λ (o : Observation). 1 ≤ o.position) l v (map-all (λ n. 1 ≤ n) position l (rises-least 1 (map position l) r))),
  sym (ordered-map position ltb l) ∙ rises-ordered 1 (map position l) r,
)

-- ---- series

directions-to : (p : ℕ × ℕ) → is_directions p ≡ true → (p.0 < 2) × (p.1 < 2)
unfolding is_directions
directions-to p e = (ltb-true p.0 2 (and_left (ltb p.0 2) (ltb p.1 2) e), ltb-true p.1 2 (and_right (ltb p.0 2) (ltb p.1 2) e))

directions-from : (p : ℕ × ℕ) → (p.0 < 2) × (p.1 < 2) → is_directions p ≡ true
unfolding is_directions
directions-from p h = and_both (lt-ltb p.0 2 h.0) (lt-ltb p.1 2 h.1)

module _ (q : ℕ × ℕ) where
  abbrev last : ℕ
  last = last_position q.0 q.1

  series-to : IsPeriod q.0 q.1 → (g : (ℕ × ℕ) × List Observation) → both is_directions (every (is_observation last)) g ≡ true → ordered later g.1 ≡ true → 1 ≤ length g.1
      → IsSeries (series_of q g)
  series-to period g v e some =
      let p = directions-to g.0 (and_left (is_directions g.0) (every (is_observation last) g.1) v) in
      let o = observed-to last g.1 (and_right (is_directions g.0) (every (is_observation last) g.1) v) e in
      record {
        supply = p.0;
        volume =
            record {
              delivery = p.1;
              period = period;
              counted = record { some = some; fits = omega (arith, o.few, position-small q.0 q.1) };
              rising = o.rising;
              each = o.each;
            };
      }

  series-from : (g : (ℕ × ℕ) × List Observation) → IsSeries (series_of q g) → (both is_directions (every (is_observation last)) g ≡ true) × (ordered later g.1 ≡ true)
  series-from g s =
      let o = observed-from last g.1 s.volume.each s.volume.rising in
      (and_both (directions-from g.0 (s.supply, s.volume.delivery)) o.0, o.1)

-- ---- partners

module _ (q : ℕ × ℕ) where
  same-to : (a : ℕ × ℕ) (l : List ((ℕ × ℕ) × List Observation)) → follow (λ (b c : ℕ × ℕ). eqb b.0 c.0) a (keys_of l) ≡ true → All (λ (s : TimeSeries). s.supply ≡ a.0) (map (series_of q) l)
  unfolding follow All
  same-to a [] e = tt
  same-to a (g ∷ l) e =
      let f = eqb-true a.0 g.0.0 (and_left (eqb a.0 g.0.0) (follow (λ (b c : ℕ × ℕ). eqb b.0 c.0) g.0 (keys_of l)) e) in
      let r = same-to g.0 l (and_right (eqb a.0 g.0.0) (follow (λ (b c : ℕ × ℕ). eqb b.0 c.0) g.0 (keys_of l)) e) in
      (sym f, all_map (λ s h. h ∙ sym f) (map (series_of q) l) r)

  same_from : (a : ℕ × ℕ) (l : List ((ℕ × ℕ) × List Observation)) → All (λ (s : TimeSeries). s.supply ≡ a.0) (map (series_of q) l) → follow (λ (b c : ℕ × ℕ). eqb b.0 c.0) a (keys_of l) ≡ true
  unfolding follow All
  same_from a [] v = refl
  same_from a (g ∷ l) v =
      and_both (eq-eqb a.0 g.0.0 (sym v.0)) (same_from g.0 l (all_map (λ s h. h ∙ sym v.0) (map (series_of q) l) v.1))

  always : {A : Type 0} (l : List A) → ordered (λ (a b : A). true) l ≡ true
  unfolding ordered follow
  always [] = refl
  always (a ∷ []) = refl
  always (a ∷ b ∷ l) = always (b ∷ l)

  one-to : (k : Kind) (l : List ((ℕ × ℕ) × List Observation)) → ordered (λ (a b : ℕ × ℕ). one_supply k a.0 b.0) (keys_of l) ≡ true → OneSupply k (map (series_of q) l)
  unfolding one_supply ordered All supply_of
  one-to Toe01 l e = tt
  one-to Toe02 l e = tt
  one-to Toe03 [] e = tt
  one-to Toe03 (g ∷ l) e = (refl, same-to g.0 l e)

  one_from : (k : Kind) (l : List ((ℕ × ℕ) × List Observation)) → OneSupply k (map (series_of q) l) → ordered (λ (a b : ℕ × ℕ). one_supply k a.0 b.0) (keys_of l) ≡ true
  unfolding one_supply ordered All supply_of
  one_from Toe01 l v = always (keys_of l)
  one_from Toe02 l v = always (keys_of l)
  one_from Toe03 [] v = refl
  one_from Toe03 (g ∷ l) v = same_from g.0 l v.1

abbrev directions_place : ℕ × ℕ → ℕ
directions_place p = p.0 * 2 + p.1

abbrev directions_rising : ℕ × ℕ → ℕ × ℕ → Bool
directions_rising a b = ltb (directions_place a) (directions_place b)

abbrev directions_one : Kind → ℕ × ℕ → ℕ × ℕ → Bool
directions_one k a b = one_supply k a.0 b.0

-- a series' place is that of its directions
places : (q : ℕ × ℕ) (l : List ((ℕ × ℕ) × List Observation)) → map place (map (series_of q) l) ≡ map directions_place (keys_of l)
places q l = map-map place (series_of q) l ∙ sym (map-map directions_place (λ x. x.0) l)

group-some : {K A : Type 0} (E : Keys K) (l : List (K × A)) → 1 ≤ length l → 1 ≤ length (group E l)
group-some E [] h = absurd (omega arith)
group-some E (x ∷ l) h = omega (arith, ap length (first_group E x l).is)

from_zero : (l : List ℕ) → All (λ n. 0 ≤ n) l
from_zero l = all_of (λ n. 0 ≤ n) (λ n. omega arith) l

numbers_fit : (k : Kind) → 10 ^ digits k ≤ most
unfolding digits
numbers_fit Toe01 = omega arith
numbers_fit Toe02 = omega arith
numbers_fit Toe03 = omega arith

-- what a partner's series are, those of the directions' groups
module _ (k : Kind) (q : ℕ × ℕ) where
  abbrev good_part : (ℕ × ℕ) × Observation → Bool
  good_part = both is_directions (is_observation (last q))

  abbrev before_part : (ℕ × ℕ) × Observation → (ℕ × ℕ) × Observation → Bool
  before_part = by directions_keys (later_directions k) later

  pub record PartSeries (gs : List ((ℕ × ℕ) × List Observation)) : Type 0 where
    each : All IsSeries (map (series_of q) gs)
    rising : rises 0 (map place (map (series_of q) gs)) ≡ true
    one : OneSupply k (map (series_of q) gs)

  groups-to : IsPeriod q.0 q.1 → (gs : List ((ℕ × ℕ) × List Observation)) → All (λ g. 1 ≤ length g.1) gs → every (both is_directions (every (is_observation (last q)))) gs ≡ true
      → in_order directions_keys (later_directions k) later gs ≡ true → PartSeries gs
  unfolding in_order later_directions
  groups-to period gs full v e =
      let o = and_left (ordered (later_directions k) (keys_of gs)) (every (λ g. ordered later g.1) gs) e in
      let w = and_right (ordered (later_directions k) (keys_of gs)) (every (λ g. ordered later g.1) gs) e in
      let r = sym (ordered-both directions_rising (directions_one k) (keys_of gs)) ∙ o in
      let good = every-all (both is_directions (every (is_observation (last q)))) (λ g h. h) gs v in
      let inside = every-all (λ (g : (ℕ × ℕ) × List Observation). ordered later g.1) (λ g h. h) gs w in
      let both = all_both _ _ gs good (all_both _ _ gs inside full) in
      record {
        each = all_of_map IsSeries (series_of q) gs (all_map (λ g h. series-to q period g h.0 h.1.0 h.1.1) gs both);
        rising =
            ap (rises 0) (places q gs)
            ∙ ordered-rises 0 (map directions_place (keys_of gs)) (from_zero (map directions_place (keys_of gs))) (ordered-map directions_place ltb (keys_of gs) ∙ and_left (ordered directions_rising (keys_of gs)) (ordered (directions_one k) (keys_of gs)) r);
        one = one-to q k gs (and_right (ordered directions_rising (keys_of gs)) (ordered (directions_one k) (keys_of gs)) r);
      }

  groups-from : (gs : List ((ℕ × ℕ) × List Observation)) → All IsSeries (map (series_of q) gs) → rises 0 (map place (map (series_of q) gs)) ≡ true → OneSupply k (map (series_of q) gs)
      → (every (both is_directions (every (is_observation (last q)))) gs ≡ true) × (in_order directions_keys (later_directions k) later gs ≡ true)
  unfolding in_order later_directions
  groups-from gs v r s =
      let each = all_map (λ g h. series-from q g h) gs (map-all IsSeries (series_of q) gs v) in
      let up = sym (ordered-map directions_place ltb (keys_of gs)) ∙ rises-ordered 0 (map directions_place (keys_of gs)) (sym (ap (rises 0) (places q gs)) ∙ r) in (
        all-every (both is_directions (every (is_observation (last q)))) (λ g h. h.0) gs each,
        and_both (ordered-both directions_rising (directions_one k) (keys_of gs) ∙ and_both up (one_from q k gs s)) (all-every (λ (g : (ℕ × ℕ) × List Observation). ordered later g.1) (λ g h. h.1) gs each),
      )

  few-series : (l : List TimeSeries) → All IsSeries l → rises 0 (map place l) ≡ true → length l ≤ 4
  few-series l v r =
      omega (arith, length-map l place, rises-few 0 4 (map place l) (omega arith) r (all_of_map (λ n. n < 4) place l (all_map (λ s h. omega (arith, h.supply, h.volume.delivery)) l v)))

  partner-to : IsPeriod q.0 q.1 → (g : ℕ × List ((ℕ × ℕ) × Observation)) → both (is_number k) (every good_part) g ≡ true → ordered before_part g.1 ≡ true → 1 ≤ length g.1
      → IsPartner k (partner_of q g)
  unfolding is_number
  partner-to period g v e some =
      let h = group directions_keys g.1 in
      let s = groups-to period h (full-groups directions_keys g.1)
      (every-group directions_keys is_directions (is_observation (last q)) g.1 ∙ and_right (is_number k g.0) (every good_part g.1) v)
      (order-groups directions_keys (later_directions k) later g.1 ∙ e) in
      record {
        number = ltb-true g.0 (10 ^ digits k) (and_left (is_number k g.0) (every good_part g.1) v);
        counted =
            record {
              some = omega (arith, length-map h (series_of q), group-some directions_keys g.1 some);
              fits = omega (arith, few-series (map (series_of q) h) s.each s.rising);
            };
        rising = s.rising;
        each = s.each;
        one = s.one;
      }

  partner-from : (g : ℕ × List ((ℕ × ℕ) × Observation)) → IsPartner k (partner_of q g) → (both (is_number k) (every good_part) g ≡ true) × (ordered before_part g.1 ≡ true)
  unfolding is_number
  partner-from g p =
      let h = groups-from (group directions_keys g.1) p.each p.rising p.one in (
        and_both (lt-ltb g.0 (10 ^ digits k) p.number) (sym (every-group directions_keys is_directions (is_observation (last q)) g.1) ∙ h.0),
        sym (order-groups directions_keys (later_directions k) later g.1) ∙ h.1,
      )

  -- ---- the partners of rows

  few-partners : (l : List Partner) → All (IsPartner k) l → rises 0 (map number l) ≡ true → length l ≤ most
  few-partners l v r =
      omega (arith, length-map l number, numbers_fit k, rises-few 0 (10 ^ digits k) (map number l) (omega arith) r (all_of_map (λ n. n < 10 ^ digits k) number l (all_map (λ p h. h.number) l v)))

  pub record Partners (l : List Partner) : Type 0 where
    pub each : All (IsPartner k) l
    pub rising : rises 0 (map number l) ≡ true
    pub fits : length l ≤ most

  pub partners-to : IsPeriod q.0 q.1 → (rows : List Row) → every (is_row k (last q)) rows ≡ true → ordered (row_before k) rows ≡ true → Partners (partners_of q rows)
  unfolding partners_of in_order
  partners-to period rows v e =
      let gs = group number_keys rows in
      let w = every-group number_keys (is_number k) good_part rows ∙ v in
      let o = order-groups number_keys ltb before_part rows ∙ e in
      let good = every-all (both (is_number k) (every good_part)) (λ g h. h) gs w in
      let inside = every-all (λ (g : ℕ × List ((ℕ × ℕ) × Observation)). ordered before_part g.1) (λ g h. h) gs (and_right (ordered ltb (keys_of gs)) (every (λ g. ordered before_part g.1) gs) o) in
      let both = all_both _ _ gs good (all_both _ _ gs inside (full-groups number_keys rows)) in
      let each = all_of_map (IsPartner k) (partner_of q) gs (all_map (λ g h. partner-to period g h.0 h.1.0 h.1.1) gs both) in
      let up = ap (rises 0) (map-map number (partner_of q) gs) ∙ ordered-rises 0 (keys_of gs) (from_zero (keys_of gs)) (and_left (ordered ltb (keys_of gs)) (every (λ g. ordered before_part g.1) gs) o) in
      record { each = each; rising = up; fits = few-partners (map (partner_of q) gs) each up }

  pub partners-from : (rows : List Row) → All (IsPartner k) (partners_of q rows) → rises 0 (map number (partners_of q rows)) ≡ true → (every (is_row k (last q)) rows ≡ true) × (ordered (row_before k) rows ≡ true)
  unfolding partners_of in_order
  partners-from rows v r =
      let gs = group number_keys rows in
      let each = all_map (λ g h. partner-from g h) gs (map-all (IsPartner k) (partner_of q) gs v) in
      let up = rises-ordered 0 (keys_of gs) (sym (ap (rises 0) (map-map number (partner_of q) gs)) ∙ r) in (
        sym (every-group number_keys (is_number k) good_part rows) ∙ all-every (both (is_number k) (every good_part)) (λ g h. h.0) gs each,
        sym (order-groups number_keys ltb before_part rows) ∙ and_both up (all-every (λ (g : ℕ × List ((ℕ × ℕ) × Observation)). ordered before_part g.1) (λ g h. h.1) gs each),
      )

-- ---- the file of rows

module _ (q : ℕ × ℕ) where
  same-months : (gs : List ((ℕ × ℕ) × List Observation)) → All (λ p. p ≡ q) (map month_of (map (series_of q) gs))
  unfolding All
  same-months [] = tt
  same-months (g ∷ gs) = (refl, same-months gs)

  groups-months : (gs : List (ℕ × List ((ℕ × ℕ) × Observation))) → All (λ p. p ≡ q) (periods (map (partner_of q) gs))
  unfolding All periods flat_map
  groups-months [] = tt
  groups-months (g ∷ gs) =
      all_append (λ p. p ≡ q) (map month_of (map (series_of q) (group directions_keys g.1))) (periods (map (partner_of q) gs)) (same-months (group directions_keys g.1)) (groups-months gs)

  rows-months : (x : Row) (rows : List Row) → All (λ p. p ≡ first_of (periods (partners_of q (x ∷ rows)))) (periods (partners_of q (x ∷ rows)))
  unfolding partners_of
  rows-months x rows = all_map (λ p h. h ∙ sym (first-month q x rows)) (periods (map (partner_of q) (group number_keys (x ∷ rows)))) (groups-months (group number_keys (x ∷ rows)))

  -- the month is that of the first row's series
  first-period : (k : Kind) (x : Row) (rows : List Row) → All (IsPartner k) (partners_of q (x ∷ rows)) → IsPeriod q.0 q.1
  unfolding partners_of All
  first-period k x rows v =
      let a = first_group number_keys x rows in
      let b = first_group directions_keys x.1 a.more in
      let w = subst (λ (gs : List (ℕ × List ((ℕ × ℕ) × Observation))). All (IsPartner k) (map (partner_of q) gs)) a.is v in
      let s = subst (λ (gs : List ((ℕ × ℕ) × List Observation)). All IsSeries (map (series_of q) gs)) b.is w.0.each in
      s.0.volume.period

module _ (k : Kind) (receiver year month : ℕ) (id moment : List ℕ) where
  abbrev of_rows : List Row → Message
  of_rows rows = record { kind = k; receiver = receiver; id = id; moment = moment; year = year; month = month; rows = rows }

  message-some : (x : Row) (rows : List Row) → receiver < 10 ^ 10 → is_transaction_id id ≡ true → is_moment moment ≡ true → of_month k year month (x ∷ rows) ≡ true → IsMessage (of_rows (x ∷ rows))
  unfolding contents of_month
  message-some x rows r i m e =
      let rest = and_right (is_period (year, month)) (every (is_row k (last_position year month)) (x ∷ rows) && ordered (row_before k) (x ∷ rows)) e in
      let period = to-period (year, month) (and_left (is_period (year, month)) (every (is_row k (last_position year month)) (x ∷ rows) && ordered (row_before k) (x ∷ rows)) e) in
      let p = partners-to k (year, month) period (x ∷ rows) (and_left (every (is_row k (last_position year month)) (x ∷ rows)) (ordered (row_before k) (x ∷ rows)) rest)
      (and_right (every (is_row k (last_position year month)) (x ∷ rows)) (ordered (row_before k) (x ∷ rows)) rest) in
      record {
        file = record { receiver = r; id = i; moment = m; fits = p.fits; rising = p.rising; each = p.each; same = rows-months (year, month) x rows };
        none = λ z. absurd (omega (arith, z));
      }

  message-of : (rows : List Row) → receiver < 10 ^ 10 → is_transaction_id id ≡ true → is_moment moment ≡ true → of_month k year month rows ≡ true → IsMessage (of_rows rows)
  unfolding contents of_month partners_of group rises All periods flat_map
  message-of [] r i m e =
      record {
        file = record { receiver = r; id = i; moment = m; fits = omega arith; rising = refl; each = tt; same = tt };
        none = λ z. (
          eqb-true year 0 (and_left (eqb year 0) (eqb month 0) e),
          eqb-true month 0 (and_right (eqb year 0) (eqb month 0) e),
        );
      }
  message-of (x ∷ rows) r i m e = message-some x rows r i m e

  of-message : (rows : List Row) → IsMessage (of_rows rows) → of_month k year month rows ≡ true
  unfolding contents of_month
  of-message [] m = let z = m.none refl in and_both (eq-eqb year 0 z.0) (eq-eqb month 0 z.1)
  of-message (x ∷ rows) m =
      let p = partners-from k (year, month) (x ∷ rows) m.file.each m.file.rising in
      and_both (from-period (year, month) (first-period (year, month) k x rows m.file.each)) (and_both p.0 p.1)

pub rows-message : (k : Kind) (receiver year month : ℕ) (l id moment : List ℕ) → is_rows k receiver year month l ≡ true → is_transaction_id id ≡ true → is_moment moment ≡ true
    → IsMessage (rows_message k receiver year month l id moment)
unfolding is_rows
rows-message k receiver year month l id moment e i m =
    let a = and_left (ltb receiver (10 ^ 10)) (in_sixes l && of_month k year month (rows_in l)) e in
    let b = and_right (ltb receiver (10 ^ 10)) (in_sixes l && of_month k year month (rows_in l)) e in
    message-of k receiver year month id moment (rows_in l) (ltb-true receiver (10 ^ 10) a) i m (and_right (in_sixes l) (of_month k year month (rows_in l)) b)

pub message-rows : (k : Kind) (receiver year month : ℕ) (l id moment : List ℕ) → in_sixes l ≡ true → IsMessage (rows_message k receiver year month l id moment)
    → is_rows k receiver year month l ≡ true
unfolding is_rows contents
message-rows k receiver year month l id moment six m =
    and_both (lt-ltb receiver (10 ^ 10) m.file.receiver) (and_both six (of-message k receiver year month id moment (rows_in l) m))
