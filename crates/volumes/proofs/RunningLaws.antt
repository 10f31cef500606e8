-- A series' running sum of grains fits 64 bits: an engagement adds to no more positions than it has quarter-hours, and no more than the largest volume to each.
use Rattle.std.specs.Prelude.{◌≡◌, refl, Bool, ◌&&◌, ℕ, zero, suc, ◌+◌, ◌-◌, ◌*◌, ◌^◌, ◌≤◌, ◌<◌, min, leb, ltb, length}
use Rattle.std.proofs.Math.Bool.{true, false, cond, and-eq-true_iff}
use mathlib.Core.List.{List, [], ◌∷◌, Memᴰ}
use Rattle.std.proofs.Common.{mul-suc, mul-le-mul_left, leb-true, ltb-true}
use native.Mathlib.Omega.{arith}
use Rattle.integers.specs.Sums.{sum_by, sum_of}
use Rattle.integers.specs.Running.{up_to}
use Rattle.book.specs.declared.Engagement.{Engagement}
use Rattle.book.specs.Book.{Book}
use Rattle.volumes.specs.Settlement.{delivered, row_count}
use Rattle.quarters.proofs.QuartersLaws.{quarters-most}
use Rattle.volumes.specs.Sheets.{start_position, covers, quarter_at}
use Rattle.volumes.specs.declared.Series.{Series}
use Rattle.volumes.specs.Series.{Kind, is_engagement, grains_of, grains_at}
use Rattle.volumes.specs.SoundInner.{Placed, Sound}
use Rattle.volumes.proofs.WidthsLaws.{most, delivered-most}
use Rattle.integers.proofs.RunningLaws.{up_to-zero, up_to-add}
use Rattle.quarters.specs.QuartersInner.{longest_day, most_rows}

-- at most m at each of the n positions from a on, and nothing elsewhere
pub record Only (m a n : ℕ) (g : ℕ → ℕ) : Type 0 where
  pub each : (p : ℕ) → g p ≤ m
  pub else : (p : ℕ) → (leb a p && ltb p (a + n)) ≡ false → g p ≡ 0

only-up-to : (m a n : ℕ) (g : ℕ → ℕ) → Only m a n g → (p : ℕ) → up_to g p ≤ m * min n (suc p - a)
unfolding up_to
only-up-to m a n g h zero = omega arith
only-up-to m a n g h (suc p) = go (leb a (suc p) && ltb (suc p) (a + n)) refl (only-up-to m a n g h p)
  where
    go : (t : Bool) → (leb a (suc p) && ltb (suc p) (a + n)) ≡ t → up_to g p ≤ m * min n (suc p - a) → up_to g p + g (suc p) ≤ m * min n (suc (suc p) - a)
    go true e ih =
        let b = (and-eq-true_iff (leb a (suc p)) (ltb (suc p) (a + n))).0 e in
        let s : min n (suc (suc p) - a) ≡ suc (min n (suc p - a)) = omega (arith, leb-true a (suc p) b.0, ltb-true (suc p) (a + n) b.1) in
        rw s (omega (arith, mul-suc m (min n (suc p - a)), h.each (suc p)))
    go false e ih =
        let k : m * min n (suc p - a) ≤ m * min n (suc (suc p) - a) = mul-le-mul_left m (omega arith) in
        omega (arith, h.else (suc p) e)

only-all : (m a n : ℕ) (g : ℕ → ℕ) → Only m a n g → (p : ℕ) → up_to g p ≤ m * n
only-all m a n g h p =
    let k : m * min n (suc p - a) ≤ m * n = mul-le-mul_left m (omega arith) in
    omega (arith, only-up-to m a n g h p)

module _ (book : Book) (s : Sound book) (kind : Kind) (receiver : ℕ) (series : Series) where
  engagement-only : (e : Engagement) → Only most (start_position book.calendar e) e.count (λ p. grains_of book kind receiver series p e)
  unfolding grains_of covers
  engagement-only e = record { each = λ p. few (is_engagement book kind receiver series e && covers book.calendar e p) (delivered-most book s e (quarter_at book.calendar e p)); else = λ p f. rw f (none (is_engagement book kind receiver series e) (delivered book e (quarter_at book.calendar e p))) }
    where
      few : (t : Bool) {n : ℕ} → n ≤ most → cond t n 0 ≤ most
      few true h = h
      few false h = omega arith

      none : (t : Bool) (n : ℕ) → cond (t && false) n 0 ≡ 0
      none true n = refl
      none false n = refl

  -- the grains of some engagements up to a position
  part-most : (es : List Engagement) (p : ℕ) → up_to (λ q. sum_of (grains_of book kind receiver series q) es) p ≤ most * sum_of (λ e. e.count) es
  unfolding sum_by
  part-most [] p = omega (arith, up_to-zero (λ q. 0) p (λ q. refl))
  part-most (e ∷ es) p =
      omega (arith, up_to-add (λ q. grains_of book kind receiver series q e) (λ q. sum_of (grains_of book kind receiver series q) es) p, only-all most (start_position book.calendar e) e.count (λ q. grains_of book kind receiver series q e) (engagement-only e) p, part-most es p)

  -- "the series' grains up to it": no more than the largest volume for each row
  pub running-most : (p : ℕ) → up_to (grains_at book kind receiver series) p ≤ most * row_count book
  unfolding grains_at row_count
  running-most p = part-most book.engagements p

-- at most a longest day's rows for each of 512 engagements, so that the sum is below 2^63
count-few : (book : Book) (es : List Engagement) → ((e : Engagement) → Memᴰ e es → Placed book.calendar (length book.points) e) → sum_of (λ e. e.count) es ≤ longest_day * length es
unfolding sum_by
count-few book [] h = omega arith
count-few book (e ∷ es) h = let p = h e (Memᴰ.head refl) in omega (arith, p.ends, quarters-most book.calendar e.day, count-few book es (λ f m. h f (Memᴰ.tail m)))

pub rows_few : (book : Book) → Sound book → row_count book ≤ most_rows
unfolding row_count
rows_few book s = omega (arith, count-few book book.engagements s.engagements, s.few)

pub running-fits : (book : Book) → Sound book → (kind : Kind) (receiver : ℕ) (series : Series) (p : ℕ) → up_to (grains_at book kind receiver series) p < 2 ^ 63
running-fits book s kind receiver series p = omega (arith, running-most book s kind receiver series p, rows_few book s)
