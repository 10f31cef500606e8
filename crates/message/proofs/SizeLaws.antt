-- How long a valid file is: a row takes at least 69 and at most 86 bytes, a partner beside its rows at most 1,769, and the rest at most 302.
use Rattle.std.specs.Prelude.{◌≡◌, true, ◌&&◌, ℕ, zero, suc, ◌+◌, ◌*◌, ◌/◌, ◌≤◌, ◌<◌, leb, length}
use mathlib.Core.List.{List, [], ◌∷◌, map, flat_map}
use Rattle.std.proofs.Math.ListN.{length-append}
use Rattle.std.proofs.lemmas.List.{length-map}
use native.Mathlib.Omega.{arith}
use Rattle.std.proofs.Common.{leb-true}
use Rattle.integers.proofs.TestsLaws.{and_left, and_right}
use Rattle.integers.proofs.RisesLaws.{rises-few}
use Rattle.integers.specs.All.{All}
use Rattle.text.specs.Ascii.{bytes}
use Rattle.text.specs.Decimal.{fixed, plain}
use Rattle.text.proofs.DecimalLaws.{length-fixed, few-digits}
use Rattle.formats.specs.Words.{word_at}
use Rattle.moments.specs.Moments.{period_start, period_end}
use Rattle.moments.specs.MomentsLaws.{length-moment}
use Rattle.moments.specs.Ids.{is_transaction_id}
use Rattle.formats.specs.Name.{name_byte, each}
use Rattle.kinds.specs.declared.Kind.{Kind}
use Rattle.kinds.specs.declared.Kind.TheVariants.{Toe01, Toe02, Toe03}
use Rattle.message.specs.Contents.{Observation, TimeSeries, Partner, File, place}
use Rattle.message.specs.Bytes.{opening, ending, closing, element, root, counter, group, partner, digits, quantity_bytes, observation_bytes, period_bytes, supplies, deliveries, supply_bytes, volume_bytes, in_series, with_partner, series_bytes, supply_of, partner_bytes, file_bytes}
use Rattle.message.specs.Valid.{most, last_position, IsObservation, IsSeries, IsPartner, IsFile}
use Rattle.message.proofs.PositionsLaws.{position-small}
use Rattle.message.proofs.FileForm.{moment-length}
use Rattle.message.specs.Group.{spread}
use Rattle.message.specs.Rows.{series_rows, partner_rows, rows_of}
use Rattle.integers.proofs.AllLaws.{all_map, all_of_map}
use Rattle.quarters.specs.QuartersInner.{longest_month}

-- ---- numbers

-- ---- an observation

length-observation : (o : Observation) → length (observation_bytes o) ≡ 73 + length (plain o.position) + length (plain (o.watts / 1000))
unfolding observation_bytes quantity_bytes opening ending closing bytes
length-observation o = simp (length-append, length-fixed) (omega arith)

observation-most : (last : ℕ) (o : Observation) → last ≤ longest_month → IsObservation last o → length (observation_bytes o) ≤ 86
observation-most last o h v =
    omega (arith, length-observation o, few-digits 4 o.position (omega arith) (omega (arith, v.within)), few-digits 9 (o.watts / 1000) (omega arith) (omega (arith, v.below)))

observations-least : (l : List Observation) → 69 * length l ≤ length (flat_map observation_bytes l)
unfolding flat_map
observations-least [] = omega arith
observations-least (o ∷ l) = omega (arith, length-append (observation_bytes o) (flat_map observation_bytes l), length-observation o, observations-least l)

observations-most : (last : ℕ) (l : List Observation) → last ≤ longest_month → All (IsObservation last) l → length (flat_map observation_bytes l) ≤ 86 * length l
unfolding flat_map All
observations-most last [] h v = omega arith
observations-most last (o ∷ l) h v = omega (arith, length-append (observation_bytes o) (flat_map observation_bytes l), observation-most last o h v.0, observations-most last l h v.1)

-- ---- a time series

spread-length : {K A : Type 0} (g : K × List A) (gs : List (K × List A)) → length (spread (g ∷ gs)) ≡ length g.1 + length (spread gs)
unfolding spread flat_map
spread-length {K} {A} g gs =
    let f : A → K × A = λ a. (g.0, a) in
    omega (arith, length-append (map f g.1) (spread gs), length-map g.1 f)

counter-most : (n : ℕ) → n ≤ most → length (plain n) ≤ 20
counter-most n h = few-digits 20 n (omega arith) (omega arith)

delivery-word : (n : ℕ) → length (word_at deliveries n) ≤ 12
unfolding deliveries word_at bytes
delivery-word zero = omega arith
delivery-word (suc zero) = omega arith
delivery-word (suc (suc n)) = omega arith

supply-most : (n : ℕ) → length (supply_bytes n) ≤ 44
unfolding supply_bytes supplies word_at opening ending closing bytes
supply-most zero = omega arith
supply-most (suc zero) = omega arith
supply-most (suc (suc n)) = omega arith

length-period : (year month : ℕ) → length (period_bytes year month) ≡ 150
unfolding period_bytes opening ending closing bytes
length-period year month = simp length-append (omega (arith, length-moment (period_start year month), length-moment (period_end year month)))

length-volume : (s : TimeSeries) → length (volume_bytes s) ≡ 291 + length (word_at deliveries s.delivery) + length (plain (length s.observations)) + length (flat_map observation_bytes s.observations)
unfolding volume_bytes opening ending closing bytes
length-volume s = simp length-append (omega (arith, length-period s.year s.month))

in-series : (k : Kind) (b : List ℕ) → length (in_series k b) ≤ length b
in-series Toe01 b = omega arith
in-series Toe02 b = omega arith
in-series Toe03 b = omega arith

length-series : (k : Kind) (s : TimeSeries) → length (series_bytes k s) ≡ 31 + length (in_series k (supply_bytes s.supply)) + length (volume_bytes s)
unfolding series_bytes opening ending closing bytes
length-series k s = simp length-append (omega arith)

series-most : (k : Kind) (s : TimeSeries) → IsSeries s → length (series_bytes k s) ≤ 398 + 86 * length s.observations
series-most k s v =
    let w = v.volume in
    omega (
      arith,
      length-series k s,
      in-series k (supply_bytes s.supply),
      supply-most s.supply,
      length-volume s,
      delivery-word s.delivery,
      counter-most (length s.observations) w.counted.fits,
      observations-most (last_position s.year s.month) s.observations (position-small s.year s.month) w.each,
    )

module _ (k : Kind) where
  all-series-least : (l : List TimeSeries) → 69 * length (spread (map series_rows l)) ≤ length (flat_map (series_bytes k) l)
  unfolding flat_map spread
  all-series-least [] = omega arith
  all-series-least (s ∷ l) =
      omega (arith, spread-length (series_rows s) (map series_rows l), length-append (series_bytes k s) (flat_map (series_bytes k) l), length-series k s, length-volume s, observations-least s.observations, all-series-least l)

  all-series-most : (l : List TimeSeries) → All IsSeries l → length (flat_map (series_bytes k) l) ≤ 398 * length l + 86 * length (spread (map series_rows l))
  unfolding flat_map All
  all-series-most [] v = omega arith
  all-series-most (s ∷ l) v =
      omega (arith, spread-length (series_rows s) (map series_rows l), length-append (series_bytes k s) (flat_map (series_bytes k) l), series-most k s v.0, all-series-most l v.1)

-- ---- a partner

-- two directions of supply and two of delivery
four-series : (k : Kind) (p : Partner) → IsPartner k p → length p.series ≤ 4
four-series k p v =
    omega (arith, length-map p.series place, rises-few 0 4 (map place p.series) (omega arith) v.rising (all_of_map (λ n. n < 4) place p.series (all_map (λ s h. omega (arith, h.supply, h.volume.delivery)) p.series v.each)))

length-partner : (k : Kind) (p : Partner) → length (partner_bytes k p) ≡ length (element (group k) (element (partner k) (fixed (digits k) p.number))) + length (with_partner k (supply_bytes (supply_of p.series))) + 37 + length (plain (length p.series)) + length (flat_map (series_bytes k) p.series)
unfolding partner_bytes opening ending closing bytes
length-partner k p = simp length-append (omega arith)

partner-head : (k : Kind) (n : ℕ) (b : List ℕ) → length b ≤ 44 → length (element (group k) (element (partner k) (fixed (digits k) n))) + length (with_partner k b) ≤ 120
unfolding group partner digits opening ending closing bytes
partner-head Toe01 n b h = simp (length-append, length-fixed) (omega arith)
partner-head Toe02 n b h = simp (length-append, length-fixed) (omega arith)
partner-head Toe03 n b h = simp (length-append, length-fixed) (omega arith)

partner-most : (k : Kind) (p : Partner) → IsPartner k p → length (partner_bytes k p) ≤ 1769 + 86 * length (partner_rows p).1
partner-most k p v =
    let b = supply_bytes (supply_of p.series) in
    omega (arith, length-partner k p, partner-head k p.number b (supply-most (supply_of p.series)), counter-most (length p.series) v.counted.fits, four-series k p v, all-series-most k p.series v.each)

module _ (k : Kind) where
  partners-least : (l : List Partner) → 69 * length (rows_of l) ≤ length (flat_map (partner_bytes k) l)
  unfolding flat_map rows_of spread
  partners-least [] = omega arith
  partners-least (p ∷ l) =
      omega (arith, spread-length (partner_rows p) (map partner_rows l), length-append (partner_bytes k p) (flat_map (partner_bytes k) l), length-partner k p, all-series-least k p.series, partners-least l)

  partners-most : (l : List Partner) → All (IsPartner k) l → length (flat_map (partner_bytes k) l) ≤ 1769 * length l + 86 * length (rows_of l)
  unfolding flat_map rows_of All
  partners-most [] v = omega arith
  partners-most (p ∷ l) v =
      omega (arith, spread-length (partner_rows p) (map partner_rows l), length-append (partner_bytes k p) (flat_map (partner_bytes k) l), partner-most k p v.0, partners-most l v.1)

-- ---- a file

length-file : (f : File) → length (file_bytes f)
    ≡ length (element (root f.kind) (element (counter f.kind) (plain (length f.partners)))) + (31 + length f.id) + (47 + length f.moment) + 35 + length (flat_map (partner_bytes f.kind) f.partners)
unfolding file_bytes opening ending closing bytes
length-file f = simp (length-append, length-fixed) (omega arith)

file-head : (k : Kind) (b : List ℕ) → length (element (root k) (element (counter k) b)) ≤ 104 + length b
unfolding root counter opening ending closing bytes
file-head Toe01 b = simp length-append (omega arith)
file-head Toe02 b = simp length-append (omega arith)
file-head Toe03 b = simp length-append (omega arith)

id-most : (s : List ℕ) → is_transaction_id s ≡ true → length s ≤ 36
unfolding is_transaction_id
id-most s e = leb-true (length s) 36 (and_right (leb 1 (length s)) (leb (length s) 36) (and_left (leb 1 (length s) && leb (length s) 36) (each name_byte s) e))

pub file-least : (f : File) → 69 * length (rows_of f.partners) ≤ length (file_bytes f)
file-least f = omega (arith, length-file f, partners-least f.kind f.partners)

pub file-most : (f : File) → IsFile f → length (file_bytes f) ≤ 302 + 1769 * length f.partners + 86 * length (rows_of f.partners)
file-most f v =
    omega (arith, length-file f, file-head f.kind (plain (length f.partners)), counter-most (length f.partners) v.fits, id-most f.id v.id, moment-length f.moment v.moment, partners-most f.kind f.partners v.each)
