-- Every number of a sound book fits its width: readings, limits and requests are at most 10^9 watts, and at most three of them add up to a number
-- of a row, and three corrections for each engagement to one of a sheet.
use Rattle.std.specs.Prelude.{◌≡◌, refl, Bool, cond, eqb, leb, ℤ, negsuc, neg_ℤ, ◌+ℤ◌, ◌-ℤ◌, ◌*ℤ◌, length, get_or, None}
use Rattle.std.proofs.Math.Logic.{⊎_elim}
use Rattle.std.proofs.Math.Bool.{true, false}
use mathlib.Core.List.Memᴰ
use mathlib.Core.List.{List, [], ◌∷◌, map, flat_map, zip, zip_with, Memᴰ}
use Prim.Native.Nat.{ℕ, zero, suc, ◌+◌, ◌-◌, ◌*◌, ◌^◌, ◌≤◌, ◌<◌}
use Rattle.std.proofs.Common.{mul_assoc, mul_comm, mul-suc, mul-le-mul_left, div-mul-le_self, SFits}
use Rattle.std.proofs.Math.Nat.{mul-le-mul_right}
use native.Mathlib.Omega.{arith}
use Rattle.std.proofs.Math.IntN.{pos}
use Rattle.std.specs.Int.{w64}
use Rattle.integers.proofs.ZLaws.{one-0, sum, dif, neg, mul, sfits}
use Rattle.integers.specs.Ranges.{range}
use Rattle.integers.specs.Sums.{sum_by, sum_z}
use Rattle.wire.specs.Readings.{Reading}
use Rattle.grains.specs.Grains.{per_watt, grains, grains_z, share}
use Rattle.book.specs.declared.Method.{Method}
use Rattle.book.specs.declared.Method.TheVariants.{LastQuarter, HighXOfY, Adjusted}
use Rattle.book.specs.declared.Direction.{Direction}
use Rattle.book.specs.declared.Direction.TheVariants.{Up, Down}
use Rattle.book.specs.declared.Point.{Point}
use Rattle.book.specs.declared.Engagement.{Engagement}
use Rattle.book.specs.Header.{splits}
use Rattle.book.specs.Book.{Book}
use Rattle.volumes.specs.Quarters.{start, reference}
use Rattle.volumes.specs.Baseline.{no_point, point_of, watts, mean, reading_before, window, day_reading, own_reading, own_window, day_window, taken, high, addend, last_reading, baseline_by, baseline}
use Rattle.volumes.specs.Settlement.{requested_at, limited, delivered_by, delivered, signed, source_correction, fsp_correction, injection_correction, corrections}
use Rattle.volumes.specs.Sheets.{covers, quarter_at, parties_of, share_of, correction_at, sheet_at}
use Rattle.volumes.proofs.SplitLaws.{source-most, injection-most}
use Rattle.volumes.specs.SoundInner.{Bounded, Limited, OnTerms, Sound}

-- bounds of sums, differences and multiples
pub bounded-add : {m n : ℕ} {a b : ℤ} → Bounded m a → Bounded n b → Bounded (m + n) (a +ℤ b)
bounded-add {a = a} {b = b} p q = record { above = omega (arith, sum a b, one-0 a, one-0 b); below = omega (arith, sum a b, one-0 a, one-0 b) }

pub bounded-sub : {m n : ℕ} {a b : ℤ} → Bounded m a → Bounded n b → Bounded (m + n) (a -ℤ b)
bounded-sub {a = a} {b = b} p q = record { above = omega (arith, dif a b, one-0 a, one-0 b); below = omega (arith, dif a b, one-0 a, one-0 b) }

pub bounded-neg : {n : ℕ} {z : ℤ} → Bounded n z → Bounded n (neg_ℤ z)
bounded-neg {z = z} h = record { above = omega (arith, neg z); below = omega (arith, neg z) }

pub bounded-mul : {n : ℕ} {z : ℤ} (k : ℕ) → Bounded n z → Bounded (n * k) (z *ℤ pos k)
bounded-mul {z = z} k h = record { above = rw (mul z k).ups (mul-le-mul_right k h.above); below = rw (mul z k).dns (mul-le-mul_right k h.below) }

pub bounded-more : {m n : ℕ} {z : ℤ} → Bounded m z → m ≤ n → Bounded n z
bounded-more h k = record { above = omega arith; below = omega arith }

pub bounded-zero : {n : ℕ} → Bounded n (pos 0)
bounded-zero = record { above = omega arith; below = omega arith }

pub bounded-sum : {A : Type 0} (n : ℕ) (f : A → ℤ) (l : List A) → ((a : A) → Memᴰ a l → Bounded n (f a)) → Bounded (n * length l) (sum_z f l)
unfolding sum_by
bounded-sum n f [] h = bounded-zero
bounded-sum n f (a ∷ l) h = bounded-more (bounded-add (h a (Memᴰ.head refl)) (bounded-sum n f l (λ b m. h b (Memᴰ.tail m)))) (omega (arith, mul-suc n (length l)))

pub bounded-fits : {n : ℕ} {z : ℤ} → Bounded n z → n < 2 ^ 63 → SFits w64 z
bounded-fits {z = z} h k = sfits w64 z (record { above = omega arith; below = omega arith })

-- the largest reading, limit and request, in grains
abbrev pub most : ℕ
most = grains (10 ^ 9)

-- a mean is no greater than the greatest reading
pub mean-bounded : (n : ℕ) (l : List Reading) → ((r : Reading) → Memᴰ r l → Bounded n (watts r)) → Bounded (grains n) (mean l)
unfolding mean
mean-bounded n l h =
    bounded-more (bounded-mul (share (length l)) (bounded-sum n watts l h)) (rw (mul_assoc n (length l) (share (length l))) (mul-le-mul_left n (rw (mul_comm (length l) (share (length l))) (div-mul-le_self per_watt (length l)))))

-- a reading's list, and what is read before
module _ (book : Book) (s : Sound book) (e : Engagement) where
  before-bounded : (p q n : ℕ) → Bounded (10 ^ 9) (watts (reading_before book p q n))
  unfolding reading_before watts
  before-bounded p q n = go (leb n q)
    where
      go : (t : Bool) → Bounded (10 ^ 9) (watts (cond t (book.reading p (q - n)) None))
      go true = s.readings p (q - n)
      go false = bounded-zero

  window-bounded : (p q : ℕ) (r : Reading) → Memᴰ r (window book p q) → Bounded (10 ^ 9) (watts r)
  unfolding window
  window-bounded p q r m = go (Memᴰ.of_map _ (range 0 12) m)
    where
      go : (i : ℕ) × Memᴰ i (range 0 12) × (reading_before book p q (24 - i) ≡ r) → Bounded (10 ^ 9) (watts r)
      go (i, k, f) = rw (← f) (before-bounded p q (24 - i))

  windows-bounded : (l : List ℕ) (r : Reading) → Memᴰ r (flat_map (day_window book e) l) → Bounded (10 ^ 9) (watts r)
  unfolding flat_map day_window
  windows-bounded [] r m = absurd (Memᴰ.not-nil m)
  windows-bounded (d ∷ l) r m = ⊎_elim (window-bounded e.point (reference book.calendar e d 0) r) (windows-bounded l r) (Memᴰ.append_cases (day_window book e d) m)

  high-bounded : (k : ℕ) → Bounded most (high book e k)
  unfolding high day_reading
  high-bounded k = mean-bounded (10 ^ 9) (map (day_reading book e k) (taken book e)) (λ r m. go (Memᴰ.of_map _ (taken book e) m))
    where
      go : {r : Reading} → (d : ℕ) × Memᴰ d (taken book e) × (day_reading book e k d ≡ r) → Bounded (10 ^ 9) (watts r)
      go (d, m, f) = rw (← f) (s.readings e.point (reference book.calendar e d k))

  addend-bounded : Bounded (2 * most) (addend book e)
  unfolding addend own_window
  addend-bounded =
      bounded-sub (mean-bounded (10 ^ 9) (own_window book e) (window-bounded e.point (start book.calendar e))) (mean-bounded (10 ^ 9) (flat_map (day_window book e) (taken book e)) (windows-bounded (taken book e)))

  by-bounded : (m : Method) (k : ℕ) → Bounded (3 * most) (baseline_by m book e k)
  unfolding baseline_by last_reading
  by-bounded LastQuarter k = bounded-more (bounded-mul per_watt (before-bounded e.point (start book.calendar e) (e.notice + 1))) (omega arith)
  by-bounded HighXOfY k = bounded-more (high-bounded k) (omega arith)
  by-bounded Adjusted k = bounded-more (bounded-add (high-bounded k) addend-bounded) (omega arith)

  -- a baseline
  pub baseline-bounded : (k : ℕ) → Bounded (3 * most) (baseline book e k)
  unfolding baseline
  baseline-bounded k = by-bounded (point_of book e).method k

  -- the largest watts of the engagement's point
  point-limited : Limited (point_of book e)
  unfolding point_of
  point-limited = go book.points e.point s.points
    where
      go : (l : List Point) (n : ℕ) → ((point : Point) → Memᴰ point l → Limited point) → Limited (get_or l n no_point)
      go [] n h = record { upward = omega arith; downward = omega arith }
      go (point ∷ l) zero h = h point (Memᴰ.head refl)
      go (point ∷ l) (suc n) h = go l n (λ q m. h q (Memᴰ.tail m))

  -- a delivered volume
  pub delivered-most : (k : ℕ) → delivered book e k ≤ most
  unfolding delivered limited delivered_by
  delivered-most k = by_most e.direction (baseline book e k) (grains_z (watts (own_reading book e k)))
    where
      limit : (z : ℤ) (n : ℕ) → n ≤ 10 ^ 9 → limited z n ≤ most
      limit (pos m) n h = let k : n * per_watt ≤ 1000000000 * per_watt = mul-le-mul_right per_watt h in omega arith
      limit (negsuc m) n h = omega arith

      by_most : (d : Direction) (base read : ℤ) → delivered_by d (point_of book e) base read ≤ most
      by_most Up base read = limit (base -ℤ read) (point_of book e).upward point-limited.upward
      by_most Down base read = limit (read -ℤ base) (point_of book e).downward point-limited.downward

  signed-bounded : (d : Direction) (n : ℕ) (z : ℤ) → Bounded n z → Bounded n (signed d z)
  unfolding signed
  signed-bounded Up n z h = h
  signed-bounded Down n z h = bounded-neg h

  -- the corrections
  pub source-bounded : (k : ℕ) → Bounded most (source_correction book e k)
  unfolding source_correction
  source-bounded k =
      let base = baseline book e k in
      let read = grains_z (watts (own_reading book e k)) in
      signed-bounded e.direction most _ (record { above = omega (arith, source-most book.version e.direction base read (delivered book e k), delivered-most k); below = omega arith })

  pub injection-bounded : (k : ℕ) → Bounded most (injection_correction book e k)
  unfolding injection_correction
  injection-bounded k =
      let base = baseline book e k in
      let read = grains_z (watts (own_reading book e k)) in
      signed-bounded e.direction most _ (record { above = omega (arith, injection-most book.version e.direction base read (delivered book e k), delivered-most k); below = omega arith })

  pub fsp-bounded : OnTerms e → (k : ℕ) → Bounded most (fsp_correction book e k)
  unfolding fsp_correction requested_at
  fsp-bounded t k = signed-bounded e.direction most (pos (grains e.requested) -ℤ pos (delivered book e k)) (apart (grains e.requested) (delivered book e k) (mul-le-mul_right per_watt t.most) (delivered-most k))
    where
      apart : (m n : ℕ) → m ≤ most → n ≤ most → Bounded most (pos m -ℤ pos n)
      apart m n h k = record { above = omega (arith, dif (pos m) (pos n)); below = omega (arith, dif (pos m) (pos n)) }

  -- the five numbers of a row
  pub row_fits : OnTerms e → (k : ℕ) → SFits w64 (baseline book e k) × SFits w64 (pos (delivered book e k)) × SFits w64 (source_correction book e k) × SFits w64 (fsp_correction book e k) × SFits w64 (injection_correction book e k)
  row_fits t k =
      (bounded-fits (baseline-bounded k) (omega arith), bounded-fits {n = most} (record { above = delivered-most k; below = omega arith }) (omega arith), bounded-fits (source-bounded k) (omega arith), bounded-fits (fsp-bounded t k) (omega arith), bounded-fits (injection-bounded k) (omega arith))

  -- what one engagement adds to a sheet
  pub correction-bounded : OnTerms e → (party p : ℕ) → Bounded (3 * most) (correction_at book party p e)
  unfolding correction_at share_of parties_of corrections zip zip_with sum_by
  correction-bounded t party p = covered (covers book.calendar e p) (all (splits book.version) (quarter_at book.calendar e p))
    where
      one : (b : Bool) (z : ℤ) → Bounded most z → Bounded most (cond b z (pos 0))
      one true z h = h
      one false z h = bounded-zero

      all : (b : Bool) (k : ℕ) → Bounded (3 * most) (share_of party (zip ((point_of book e).sourceparty ∷ (point_of book e).fspparty ∷ cond b ((point_of book e).injectionparty ∷ []) []) (corrections book e k)))
      all true k =
          bounded-more
          (bounded-add (one (eqb (point_of book e).sourceparty party) (source_correction book e k) (source-bounded k))
          (bounded-add (one (eqb (point_of book e).fspparty party) (fsp_correction book e k) (fsp-bounded t k))
          (bounded-add (one (eqb (point_of book e).injectionparty party) (injection_correction book e k) (injection-bounded k)) (bounded-zero {n = 0})))) (omega arith)
      all false k =
          bounded-more
          (bounded-add (one (eqb (point_of book e).sourceparty party) (source_correction book e k) (source-bounded k))
          (bounded-add (one (eqb (point_of book e).fspparty party) (fsp_correction book e k) (fsp-bounded t k)) (bounded-zero {n = 0}))) (omega arith)

      covered : (b : Bool) {z : ℤ} → Bounded (3 * most) z → Bounded (3 * most) (cond b z (pos 0))
      covered true h = h
      covered false h = bounded-zero

-- a number of a sheet, and what some of the engagements make of it
pub sheet-part-fits : (book : Book) → Sound book → (l : List Engagement) → ((e : Engagement) → Memᴰ e l → OnTerms e) → length l ≤ 512 → (party p : ℕ) → SFits w64 (sum_z (correction_at book party p) l)
sheet-part-fits book s l h few party p = bounded-fits (bounded-more (bounded-sum (3 * most) (correction_at book party p) l (λ e m. correction-bounded book s e (h e m) party p)) (mul-le-mul_left (3 * most) few)) (omega arith)

pub sheet-fits : (book : Book) → Sound book → (party p : ℕ) → SFits w64 (sheet_at book party p)
unfolding sheet_at
sheet-fits book s party p = sheet-part-fits book s book.engagements s.terms s.few party p
