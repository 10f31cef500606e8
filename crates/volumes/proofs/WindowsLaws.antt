-- A window touches a clock-change day where its place is one of the first 24 and the clocks change on the day before: its 12 end 12 quarter-hours before the place, and no day
-- has fewer than 92. One that touches none has all of its 12 on days of 96.
use Rattle.std.specs.Prelude.{◌≡◌, refl, Bool, true, false, ◌&&◌, ℕ, zero, suc, ◌+◌, ◌≤◌, ◌<◌, T, eqb, leb, ltb}
use Rattle.std.proofs.Common.{sym, ap₂, ◌∙◌, subst, arith, ltb-true, ltb-false, eqb-true, lt-ltb, le-ltb, le-leb}
use Rattle.std.proofs.Math.Bool.{and-false}
use Rattle.std.proofs.lemmas.Bool.{eqb-false, lt-leb}
use Rattle.integers.specs.First.{any_below}
use Rattle.integers.proofs.FirstLaws.{any-of}
use Rattle.quarters.specs.declared.Calendar.{Calendar}
use Rattle.quarters.specs.Quarters.{days_of, quarters, is_clock_change, day_start}
use Rattle.quarters.specs.QuartersInner.{usual_day}
use Rattle.quarters.proofs.QuartersLaws.{quarters-range, no_change, day-start-next, day-start-mono}
use Rattle.volumes.specs.Quarters.{touches_day, touches}

never : true ≡ false → ⊥
never e = subst T e tt

none_below : (test : ℕ → Bool) (n : ℕ) → ((b : ℕ) → b < n → test b ≡ false) → any_below test n ≡ false
unfolding any_below
none_below test zero h = refl
none_below test (suc n) h = rw (none_below test n (λ b l. h b (omega arith)), h n (omega arith))

-- ---- a window and a day

-- one of its 12 lies on the day
pub touches-day : (c : Calendar) (q b i : ℕ) → i < 12 → day_start c b + 24 ≤ q + i → q + i < day_start c (suc b) + 24 → touches_day c q b ≡ true
unfolding touches_day
touches-day c q b i few from to =
    any-of _ i 12 few (ap₂ ◌&&◌ (le-leb (day_start c b + 24) (q + i) from) (lt-ltb (q + i) (day_start c (suc b) + 24) to))

-- all of its 12 lie behind the day, or before it
pub untouched-behind : (c : Calendar) (q b : ℕ) → day_start c (suc b) + 24 ≤ q → touches_day c q b ≡ false
unfolding touches_day
untouched-behind c q b h =
    none_below _ 12 (λ i few. rw (le-ltb (q + i) (day_start c (suc b) + 24) (omega arith)) (and-false (leb (day_start c b + 24) (q + i))))

pub untouched-before : (c : Calendar) (q b : ℕ) → q ≤ day_start c b + 12 → touches_day c q b ≡ false
unfolding touches_day
untouched-before c q b h = none_below _ 12 (λ i few. rw (lt-leb (day_start c b + 24) (q + i) (omega arith)))

-- ---- a window and the clock

-- each of the 12 of a window that touches none lies on a day of 96
pub window-on-96 : (c : Calendar) (q b i : ℕ) → touches c q ≡ false → b < days_of c → i < 12 → day_start c b + 24 ≤ q + i → q + i < day_start c (suc b) + 24 → quarters c b ≡ usual_day
unfolding touches
window-on-96 c q b i none h few from to = no_change c b (go (is_clock_change c b) refl)
  where
    go : (t : Bool) → is_clock_change c b ≡ t → t ≡ false
    go false e = refl
    go true e = absurd (never (sym (any-of _ b (days_of c) h (ap₂ ◌&&◌ e (touches-day c q b i few from to))) ∙ none))

-- what code tests
unfoldable pub changes_before : Calendar → ℕ → Bool
changes_before c zero = false
changes_before c (suc d) = is_clock_change c d

module _ (c : Calendar) (d p : ℕ) (usual : is_clock_change c d ≡ false) (below : p ≤ usual_day) where
  -- no other day but the one before can be touched and be one
  same : (b : ℕ) → is_clock_change c b ≡ false → (is_clock_change c b && touches_day c (day_start c d + p) b) ≡ false
  same b e = rw e

  apart : (b : ℕ) → touches_day c (day_start c d + p) b ≡ false → (is_clock_change c b && touches_day c (day_start c d + p) b) ≡ false
  apart b e = rw e (and-false (is_clock_change c b))

  earlier : (b : ℕ) → suc b < d → (is_clock_change c b && touches_day c (day_start c d + p) b) ≡ false
  earlier b l =
      apart b (untouched-behind c (day_start c d + p) b (omega (arith, day-start-next c (suc b), (quarters-range c (suc b)).least, day-start-mono c (suc (suc b)) d l)))

  later : (b : ℕ) → d < b → (is_clock_change c b && touches_day c (day_start c d + p) b) ≡ false
  later b l =
      apart b (untouched-before c (day_start c d + p) b (omega (arith, day-start-next c d, no_change c d usual, day-start-mono c (suc d) b l)))

  others : (b : ℕ) → (suc b ≡ d → (is_clock_change c b && touches_day c (day_start c d + p) b) ≡ false) → (is_clock_change c b && touches_day c (day_start c d + p) b) ≡ false
  others b before = go (ltb b d) (eqb b d) (eqb (suc b) d) refl refl refl
    where
      go : (x y z : Bool) → ltb b d ≡ x → eqb b d ≡ y → eqb (suc b) d ≡ z → (is_clock_change c b && touches_day c (day_start c d + p) b) ≡ false
      go true y true e f g = before (eqb-true (suc b) d g)
      go true y false e f g = earlier b (omega (arith, ltb-true b d e, eqb-false (suc b) d g))
      go false true z e f g = same b (subst (λ (a : ℕ). is_clock_change c a ≡ false) (sym (eqb-true b d f)) usual)
      go false false z e f g = later b (omega (arith, ltb-false b d e, eqb-false b d f))

-- the window from 24 before quarter-hour p of day d
pub touches-is : (c : Calendar) (d p : ℕ) → is_clock_change c d ≡ false → d < days_of c → p ≤ usual_day → touches c (day_start c d + p) ≡ (ltb p 24 && changes_before c d)
unfolding touches changes_before
touches-is c zero p usual inside below =
    none_below _ (days_of c) (λ b l. others c 0 p usual below b (λ z. absurd (omega arith)))
    ∙ sym (and-false (ltb p 24))
touches-is c (suc d) p usual inside below = go (ltb p 24) (is_clock_change c d) refl refl
  where
    q : ℕ
    q = day_start c (suc d) + p

    test : ℕ → Bool
    test b = is_clock_change c b && touches_day c q b

    no : test d ≡ false → any_below test (days_of c) ≡ false
    no t = none_below test (days_of c) (λ b l. others c (suc d) p usual below b (λ z. let e : b ≡ d = omega arith in subst (λ (a : ℕ). test a ≡ false) (sym e) t))

    go : (x y : Bool) → ltb p 24 ≡ x → is_clock_change c d ≡ y → any_below test (days_of c) ≡ (x && y)
    go true true e f =
        any-of test d (days_of c) (omega arith)
        (ap₂ ◌&&◌ f (touches-day c q d 0 (omega arith) (omega (arith, day-start-next c d, (quarters-range c d).least)) (omega (arith, ltb-true p 24 e))))
    go true false e f = no (rw f)
    go false y e f = no (apart c (suc d) p usual below d (untouched-behind c q d (omega (arith, ltb-false p 24 e))))
