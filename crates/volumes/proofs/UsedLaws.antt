-- No reading that goes into an accepted book's volumes is missing: taken days are eligible, an eligible day has its readings, and an engagement that settles has its own.
use Rattle.std.specs.Prelude.{◌≡◌, Bool, false, not, ◌&&◌, ℕ, zero, suc, ◌+◌, ◌<◌, ◌≤◌, take}
use Rattle.std.proofs.Math.Path.{refl, sym}
use Rattle.std.proofs.Common.{ap, ◌∙◌, ⊎_elim, eq-or-lt_of_le, arith}
use Rattle.std.proofs.Math.Bool.{true, and-eq-true_iff}
use mathlib.Core.List.Memᴰ
use mathlib.Core.List.{List, [], ◌∷◌, map, flat_map, Memᴰ}
use Rattle.std.proofs.lemmas.Bool.{not-true}
use Rattle.integers.specs.Ranges.{range}
use Rattle.integers.proofs.KeepLaws.{mem-keep}
use Rattle.wire.specs.Readings.{Reading}
use Rattle.book.specs.declared.Method.TheVariants.{LastQuarter, Adjusted}
use Rattle.book.specs.declared.Engagement.{Engagement}
use Rattle.book.specs.Book.{Book}
use Rattle.volumes.specs.Quarters.{quarter_hours}
use Rattle.volumes.specs.Ranking.{ranked}
use Rattle.volumes.proofs.RankingLaws.{from-ranked}
use Rattle.volumes.specs.Baseline.{point_of, known, complete, own_reading, day_reading, day_readings, own_window, day_window, windowed, allowed, suits, engaged, regular, eligible, before, eligible_days, x_of, y_of, latest, day_sum, taken, last_reading}
use Rattle.volumes.proofs.BaselineLaws.{complete-append}
use Rattle.volumes.specs.Settlement.{needed_by, needed}
use Rattle.volumes.proofs.SettlementLaws.{Settles}

-- lists of readings
pub complete-known : (l : List Reading) → complete l ≡ true → (r : Reading) → Memᴰ r l → known r ≡ true
unfolding complete
complete-known [] e r m = absurd (Memᴰ.not-nil m)
complete-known (s ∷ l) e r m =
    let b = (and-eq-true_iff (known s) (complete l)).0 e in
    ⊎_elim (λ q. ap known q ∙ b.0) (complete-known l b.1 r) (Memᴰ.cases_cons m)

pub known-complete : (l : List Reading) → ((r : Reading) → Memᴰ r l → known r ≡ true) → complete l ≡ true
unfolding complete
known-complete [] h = refl
known-complete (s ∷ l) h = rw (h s (Memᴰ.head refl)) (known-complete l (λ r m. h r (Memᴰ.tail m)))

pub range-mem : (a n i : ℕ) → a ≤ i → i < a + n → Memᴰ i (range a n)
unfolding range
range-mem a zero i h k = absurd (omega arith)
range-mem a (suc n) i h k = ⊎_elim (λ e. Memᴰ.head (sym e)) (λ l. Memᴰ.tail (range-mem (suc a) n i l (omega arith))) (eq-or-lt_of_le h)

in_take : {A : Type 0} (n : ℕ) (l : List A) (a : A) → Memᴰ a (take n l) → Memᴰ a l
in_take zero l a m = absurd (Memᴰ.not-nil m)
in_take (suc n) [] a m = m
in_take (suc n) (b ∷ l) a m = ⊎_elim (λ e. Memᴰ.head e) (λ k. Memᴰ.tail (in_take n l a k)) (Memᴰ.cases_cons m)

days-before : (a d : ℕ) → Memᴰ d (before a) → d < a
unfolding before
days-before zero d m = absurd (Memᴰ.not-nil m)
days-before (suc a) d m = ⊎_elim (λ e. omega arith) (λ k. let h : d < a = days-before a d k in omega arith) (Memᴰ.cases_cons m)

-- "a day isn't eligible if the book holds an engagement ..", "A clock-change day is never a reference day ..", and "if it has A's category, isn't excluded and misses no
-- reading ..": the parts that other laws go by
pub eligible-is : (book : Book) (e : Engagement) (d : ℕ) → eligible book e d ≡ (not (engaged book e.point d) && (regular book e d && suits book e d))
unfolding eligible
eligible-is book e d = refl

pub suits-is : (book : Book) (e : Engagement) (d : ℕ) → suits book e d ≡ (allowed book e d && (complete (day_readings book e d) && windowed (point_of book e).method (day_window book e d)))
unfolding suits
suits-is book e d = refl

-- an eligible day: it has no engagement, is regular, has what allows it, its readings and, by method 2, its 12
pub record Eligible (book : Book) (e : Engagement) (d : ℕ) : Type 0 where
  pub free : engaged book e.point d ≡ false
  pub regular : regular book e d ≡ true
  pub allowed : allowed book e d ≡ true
  pub whole : complete (day_readings book e d) ≡ true
  pub windowed : windowed (point_of book e).method (day_window book e d) ≡ true

pub eligible-day : (book : Book) (e : Engagement) (d : ℕ) → eligible book e d ≡ true → Eligible book e d
eligible-day book e d h =
    let r = complete (day_readings book e d) && windowed (point_of book e).method (day_window book e d) in
    let n = (and-eq-true_iff (not (engaged book e.point d)) (regular book e d && suits book e d)).0 (sym (eligible-is book e d) ∙ h) in
    let c = (and-eq-true_iff (regular book e d) (suits book e d)).0 n.1 in
    let f = (and-eq-true_iff (allowed book e d) r).0 (sym (suits-is book e d) ∙ c.1) in
    let g = (and-eq-true_iff (complete (day_readings book e d)) (windowed (point_of book e).method (day_window book e d))).0 f.1 in
    record { free = not-true (engaged book e.point d) n.0; regular = c.0; allowed = f.0; whole = g.0; windowed = g.1 }

-- no day is eligible and has an engagement of the point
pub engaged-not : (book : Book) (e : Engagement) (d : ℕ) → engaged book e.point d ≡ true → eligible book e d ≡ false
engaged-not book e d h = eligible-is book e d ∙ ap (λ (b : Bool). not b && (regular book e d && suits book e d)) h

module _ (book : Book) (e : Engagement) where
  -- "day d before A is eligible": each day that is taken
  pub taken-eligible : (d : ℕ) → Memᴰ d (taken book e) → (eligible book e d ≡ true) × (d < e.day)
  unfolding taken latest eligible_days
  taken-eligible d m =
      let k = mem-keep (eligible book e) (before e.day) d (in_take (y_of book e) (eligible_days book e) d (from-ranked (day_sum book e) d (latest book e) (in_take (x_of book e) (ranked (day_sum book e) (latest book e)) d m))) in
      (k.1, days-before e.day d k.0)

  taken-day : (d : ℕ) → Memᴰ d (taken book e) → Eligible book e d
  taken-day d m = eligible-day book e d (taken-eligible d m).0

  -- no day that is taken has an engagement of the point
  pub taken_free : (d : ℕ) → Memᴰ d (taken book e) → engaged book e.point d ≡ false
  taken_free d m = (taken-day d m).free

  pub taken-known : (k d : ℕ) → k < e.count → Memᴰ d (taken book e) → known (day_reading book e k d) ≡ true
  unfolding day_readings quarter_hours
  taken-known k d h m = complete-known (day_readings book e d) (taken-day d m).whole (day_reading book e k d) (Memᴰ.map (λ j. day_reading book e j d) (range-mem 0 e.count k (omega arith) (omega arith)))

  pub high-complete : (k : ℕ) → k < e.count → complete (map (day_reading book e k) (taken book e)) ≡ true
  high-complete k h = known-complete (map (day_reading book e k) (taken book e)) (λ r m. go r (Memᴰ.of_map (day_reading book e k) (taken book e) m))
    where
      go : (r : Reading) → (d : ℕ) × Memᴰ d (taken book e) × (day_reading book e k d ≡ r) → known r ≡ true
      go r (d, m, q) = ap known (sym q) ∙ taken-known k d h m

  pub windows-complete : (point_of book e).method ≡ Adjusted → complete (flat_map (day_window book e) (taken book e)) ≡ true
  unfolding flat_map complete windowed
  windows-complete a = all (taken book e) (λ d m. sym (ap (λ x. windowed x (day_window book e d)) a) ∙ (taken-day d m).windowed)
    where
      all : (l : List ℕ) → ((d : ℕ) → Memᴰ d l → windowed Adjusted (day_window book e d) ≡ true) → complete (flat_map (day_window book e) l) ≡ true
      all [] h = refl
      all (d ∷ l) h = complete-append (day_window book e d) (flat_map (day_window book e) l) ∙ rw (h d (Memᴰ.head refl), all l (λ f m. h f (Memᴰ.tail m)))

  -- an engagement that settles: its own readings, its own 12, and method 0's
  settled-both : Settles book e → (complete (map (own_reading book e) (quarter_hours e)) ≡ true) × (complete (needed_by (point_of book e).method book e) ≡ true)
  unfolding needed
  settled-both s = (and-eq-true_iff (complete (map (own_reading book e) (quarter_hours e))) (complete (needed_by (point_of book e).method book e))).0 (sym (complete-append (map (own_reading book e) (quarter_hours e)) (needed_by (point_of book e).method book e)) ∙ s.known)

  pub own-known : Settles book e → (k : ℕ) → k < e.count → known (own_reading book e k) ≡ true
  unfolding quarter_hours
  own-known s k h = complete-known (map (own_reading book e) (quarter_hours e)) (settled-both s).0 (own_reading book e k) (Memᴰ.map (own_reading book e) (range-mem 0 e.count k (omega arith) (omega arith)))

  pub own-window-complete : Settles book e → (point_of book e).method ≡ Adjusted → complete (own_window book e) ≡ true
  unfolding needed_by
  own-window-complete s a = sym (ap (λ x. complete (needed_by x book e)) a) ∙ (settled-both s).1

  pub last-known : Settles book e → (point_of book e).method ≡ LastQuarter → known (last_reading book e) ≡ true
  unfolding needed_by
  last-known s a = complete-known (last_reading book e ∷ []) (sym (ap (λ x. complete (needed_by x book e)) a) ∙ (settled-both s).1) (last_reading book e) (Memᴰ.head refl)
