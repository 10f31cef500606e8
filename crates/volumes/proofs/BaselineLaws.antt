-- Exactly X days are taken, those with the greatest sums; all results are whole grains; and what a loop over readings goes by.
use Rattle.std.specs.Prelude.{◌≡◌, refl, ◌⊎◌, Bool, true, false, ◌&&◌, ℕ, suc, ◌+◌, ◌-◌, ◌*◌, ◌≤◌, ◌<◌, ℤ, ◌+ℤ◌, ◌*ℤ◌, length, ◌≤ℤ◌}
use Rattle.std.proofs.Math.Path.{sym, ap, ap₂}
use Rattle.std.proofs.Common.{◌∙◌, mul_assoc, mul_comm, add-mul, zero-mul, arith, length-take, le-leb}
use Rattle.std.proofs.Math.Logic.{inl, inr, ⊎_elim}
use Rattle.std.proofs.Math.Bool.{and-true}
use mathlib.Core.List.{List, [], ◌∷◌, ◌++◌, map, flat_map, Memᴰ}
use Rattle.std.proofs.Math.IntN.{pos, ◌-ℤ◌, +ℤ_idr}
use Rattle.std.proofs.lemmas.List.{length-map}
use Rattle.std.proofs.lemmas.Bool.{lt-leb}
use Rattle.integers.proofs.ZLaws.{up, dn, eq_z, sum, dif, mul}
use Rattle.integers.specs.Ranges.{range}
use Rattle.integers.specs.Sums.{integers, sum_by, sum_z}
use Rattle.wire.specs.Readings.{Reading}
use Rattle.grains.specs.Grains.{per_watt, grains_z, share}
use Rattle.grains.specs.GrainsLaws.{shares-x, shares-12x}
use Rattle.book.specs.declared.Engagement.{Engagement}
use Rattle.book.specs.Book.{Book}
use Rattle.volumes.proofs.OrderLaws.{le-library}
use Rattle.volumes.specs.Quarters.{quarter_hours}
use Rattle.volumes.proofs.RankingLaws.{length-ranked, largest}
use Rattle.volumes.specs.Baseline.{watts, known, complete, mean, reading_before, window, day_reading, day_readings, own_window, day_window, eligible_days, x_of, y_of, latest, day_sum, taken, high, addend}
use Rattle.grains.specs.GrainsInner.{Shares}
use Rattle.integers.proofs.SumsLaws.{sum-append, sum-cong, sum-swap, sum-map, sum-flat_map}
use Rattle.volumes.specs.RankingInner.{sum_of_largest}
use Rattle.integers.proofs.RangesLaws.{map-range-next, map-range-cong}
use Rattle.integers.proofs.ListsLaws.{length-flat_map}

pub complete-append : (l m : List Reading) → complete (l ++ m) ≡ (complete l && complete m)
unfolding complete
complete-append [] m = refl
complete-append (r ∷ l) m = go (known r) (complete-append l m)
  where
    go : (t : Bool) → complete (l ++ m) ≡ (complete l && complete m) → (t && complete (l ++ m)) ≡ ((t && complete l) && complete m)
    go true e = e
    go false e = refl

-- one more reading
pub complete-next : (f : ℕ → Reading) (a n : ℕ) → complete (map f (range a (suc n))) ≡ (complete (map f (range a n)) && known (f (a + n)))
unfolding complete
complete-next f a n = ap complete (map-range-next f a n) ∙ complete-append (map f (range a n)) (f (a + n) ∷ []) ∙ ap (λ t. complete (map f (range a n)) && t) (and-true (known (f (a + n))))

pub watts-next : (f : ℕ → Reading) (a n : ℕ) → sum_z watts (map f (range a (suc n))) ≡ sum_z watts (map f (range a n)) +ℤ watts (f (a + n))
unfolding sum_by
watts-next f a n = ap (sum_z watts) (map-range-next f a n) ∙ sum-append integers watts (map f (range a n)) (f (a + n) ∷ []) ∙ ap (λ z. sum_z watts (map f (range a n)) +ℤ z) (+ℤ_idr (watts (f (a + n))))

-- the 12 from quarter-hour q - 24 on, which lie in the calendar where q is 24 or more
pub window-inside : (book : Book) (p q : ℕ) → 24 ≤ q → window book p q ≡ map (λ i. book.reading p (q - 24 + i)) (range 0 12)
unfolding window reading_before
window-inside book p q h =
    map-range-cong _ _ 0 12 (λ i low most.
    let e : q - (24 - i) ≡ q - 24 + i = omega arith in
    rw (le-leb (24 - i) q (omega arith), e))

pub window-outside : (book : Book) (p q : ℕ) → q < 24 → complete (window book p q) ≡ false
unfolding window reading_before range complete known
window-outside book p q h = rw (lt-leb 24 q h)

module _ (book : Book) (e : Engagement) where
  -- "The Y latest eligible days are taken; of them the X": X of them where there are Y
  pub taken-length : x_of book e ≤ y_of book e → y_of book e ≤ length (eligible_days book e) → length (taken book e) ≡ x_of book e
  unfolding taken latest
  taken-length h k = simp (length-take, length-ranked) (omega arith)

  -- "with the greatest sum": a latest day that is left has no greater sum than one that is taken
  pub taken-largest : (d f : ℕ) → Memᴰ d (taken book e) → Memᴰ f (latest book e) → Memᴰ f (taken book e) ⊎ (day_sum book e f ≤ℤ day_sum book e d)
  unfolding taken
  taken-largest d f m k = ⊎_elim inl (λ h. inr (le-library h)) (largest (day_sum book e) (x_of book e) (latest book e) d f m k)

-- products with natural numbers
mul-mul : (z : ℤ) (m n : ℕ) → (z *ℤ pos m) *ℤ pos n ≡ z *ℤ pos (m * n)
mul-mul z m n = eq_z _ _ (omega (arith, mul z m, mul (z *ℤ pos m) n, mul z (m * n), mul_assoc (up z) m n, mul_assoc (dn z) m n, ap (λ t. t * n) (mul z m).ups, ap (λ t. t * n) (mul z m).dns))

mul-swap : (z : ℤ) (m n : ℕ) → (z *ℤ pos m) *ℤ pos n ≡ (z *ℤ pos n) *ℤ pos m
mul-swap z m n = mul-mul z m n ∙ ap (λ k. z *ℤ pos k) (mul_comm m n) ∙ sym (mul-mul z n m)

dif-mul : (a c : ℤ) (n : ℕ) → (a -ℤ c) *ℤ pos n ≡ a *ℤ pos n -ℤ c *ℤ pos n
dif-mul a c n = eq_z _ _ (omega (arith, mul (a -ℤ c) n, (dif (a *ℤ pos n) (c *ℤ pos n)).law, mul a n, mul c n, law))
  where
    law : up (a -ℤ c) * n + dn a * n + up c * n ≡ dn (a -ℤ c) * n + up a * n + dn c * n
    law = rw (← add-mul (up (a -ℤ c)) (dn a) n, ← add-mul (up (a -ℤ c) + dn a) (up c) n, ← add-mul (dn (a -ℤ c)) (up a) n, ← add-mul (dn (a -ℤ c) + up a) (dn c) n) (ap (λ t. t * n) (dif a c).law)

sum-mul : (a c : ℤ) (n : ℕ) → (a +ℤ c) *ℤ pos n ≡ a *ℤ pos n +ℤ c *ℤ pos n
sum-mul a c n = eq_z _ _ (omega (arith, mul (a +ℤ c) n, (sum (a *ℤ pos n) (c *ℤ pos n)).law, mul a n, mul c n, law))
  where
    law : up (a +ℤ c) * n + dn a * n + dn c * n ≡ dn (a +ℤ c) * n + up a * n + up c * n
    law = rw (← add-mul (up (a +ℤ c)) (dn a) n, ← add-mul (up (a +ℤ c) + dn a) (dn c) n, ← add-mul (dn (a +ℤ c)) (up a) n, ← add-mul (dn (a +ℤ c) + up a) (up c) n) (ap (λ t. t * n) (sum a c).law)

sum_z-mul : {A : Type 0} (f : A → ℤ) (n : ℕ) (l : List A) → sum_z (λ a. f a *ℤ pos n) l ≡ sum_z f l *ℤ pos n
unfolding sum_by
sum_z-mul f n [] = ap pos (sym (zero-mul n))
sum_z-mul f n (a ∷ l) = ap (λ z. f a *ℤ pos n +ℤ z) (sum_z-mul f n l) ∙ sym (sum-mul (f a) (sum_z f l) n)

-- "all results are whole grains": the mean of n readings, n times, is their sum
pub mean-whole : (l : List Reading) (n : ℕ) → length l ≡ n → Shares n → mean l *ℤ pos n ≡ grains_z (sum_z watts l)
unfolding mean
mean-whole l n e h = rw e (mul-mul (sum_z watts l) (share n) n ∙ ap (λ k. sum_z watts l *ℤ pos k) (mul_comm (share n) n ∙ h.whole))

pub window-12 : (book : Book) (p q : ℕ) → length (window book p q) ≡ 12
unfolding window range
window-12 book p q = refl

-- X baselines are the X readings, and 12 X addends X times the own 12 less the 12 of each day
module _ (book : Book) (e : Engagement) (low : 1 ≤ x_of book e) (most : x_of book e ≤ 10) (all : length (taken book e) ≡ x_of book e) where
  pub high-whole : (k : ℕ) → high book e k *ℤ pos (x_of book e) ≡ grains_z (sum_z (λ d. watts (day_reading book e k d)) (taken book e))
  unfolding high
  high-whole k =
      mean-whole (map (day_reading book e k) (taken book e)) (x_of book e) (length-map (taken book e) (day_reading book e k) ∙ all) (shares-x (x_of book e) low most)
      ∙ ap grains_z (sum-map integers watts (day_reading book e k) (taken book e))

  own : mean (own_window book e) *ℤ pos 12 ≡ grains_z (sum_z watts (own_window book e))
  unfolding own_window
  own = mean-whole (own_window book e) 12 (window-12 _ _ _) (shares-12x 1 (omega arith) (omega arith))

  days : mean (flat_map (day_window book e) (taken book e)) *ℤ pos (12 * x_of book e) ≡ grains_z (sum_z (λ d. sum_z watts (day_window book e d)) (taken book e))
  unfolding day_window
  days =
      mean-whole (flat_map (day_window book e) (taken book e)) (12 * x_of book e) (length-flat_map 12 (day_window book e) (λ d. window-12 _ _ _) (taken book e) ∙ ap (λ n. 12 * n) all) (shares-12x (x_of book e) low most)
      ∙ ap grains_z (sum-flat_map integers watts (day_window book e) (taken book e))

  pub addend-whole : addend book e *ℤ pos (12 * x_of book e) ≡ grains_z (sum_z watts (own_window book e) *ℤ pos (x_of book e) -ℤ sum_z (λ d. sum_z watts (day_window book e d)) (taken book e))
  unfolding addend
  addend-whole =
      dif-mul (mean (own_window book e)) (mean (flat_map (day_window book e) (taken book e))) (12 * x_of book e)
      ∙ ap₂ ◌-ℤ◌ (sym (mul-mul (mean (own_window book e)) 12 (x_of book e)) ∙ ap (λ z. z *ℤ pos (x_of book e)) own ∙ mul-swap (sum_z watts (own_window book e)) per_watt (x_of book e)) days
      ∙ sym (dif-mul (sum_z watts (own_window book e) *ℤ pos (x_of book e)) (sum_z (λ d. sum_z watts (day_window book e d)) (taken book e)) per_watt)

-- the baselines of an engagement, added up, are the mean of the X largest day sums; for bounds on them, by LargestLaws (C-22)
pub high_sum : (book : Book) (e : Engagement) → length (taken book e) ≡ x_of book e → sum_z (high book e) (quarter_hours e) ≡ sum_of_largest (day_sum book e) (x_of book e) (latest book e) *ℤ pos (share (x_of book e))
unfolding high mean sum_of_largest taken day_sum day_readings
high_sum book e all =
    sum-cong integers _ _ (quarter_hours e) (λ k m. ap₂ (λ z n. z *ℤ pos (share n)) (sum-map integers watts (day_reading book e k) (taken book e)) (length-map (taken book e) (day_reading book e k) ∙ all))
    ∙ sum_z-mul (λ k. sum_z (λ d. watts (day_reading book e k d)) (taken book e)) (share (x_of book e)) (quarter_hours e)
    ∙ ap (λ z. z *ℤ pos (share (x_of book e))) (sum-swap integers (λ k d. watts (day_reading book e k d)) (quarter_hours e) (taken book e) ∙ sum-cong integers _ _ (taken book e) (λ d m. sym (sum-map integers watts (λ k. day_reading book e k d) (quarter_hours e))))
