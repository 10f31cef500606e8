-- A day is eligible where its category is A's, it isn't closed, the clocks don't change on it, its readings are there and, for method 2, its window is and touches no day on which they do.
use Rattle.std.specs.Prelude.{◌≡◌, refl, Bool, false, Some, None, ◌||◌, ℕ, eqb, get_or}
use Rattle.std.proofs.Math.Path.{sym, ap, ap₂}
use Rattle.std.proofs.Common.{◌∙◌}
use Rattle.std.proofs.Math.Bool.{true, not, ◌&&◌, and-true, and-false}
use mathlib.Core.List.{List}
use Rattle.wire.specs.Readings.{Reading}
use Rattle.quarters.specs.Quarters.{is_clock_change}
use Rattle.book.specs.Register.{excludes}
use Rattle.book.specs.Book.{Book}
use Rattle.volumes.specs.Quarters.{reference}
use Rattle.volumes.specs.Baseline.{complete, day_readings, day_window, windowed, allowed, suits, engaged, clear, regular, eligible, day_sum}
use Rattle.volumes.proofs.UsedLaws.{eligible-is, suits-is}
use Rattle.baseline.specs.declared.shown.Shown.{Shown}
use Rattle.baseline.specs.TallyInner.{Summed}
use Rattle.baseline.specs.RunsInner.{standing}
use Rattle.baseline.specs.ShownInner.{Shows, alike, Refers, window_in}
use Rattle.baseline.specs.ShownLaws.{day-standing, day-window}

-- the day's readings are there and, for method 2, its window is and touches no clock-change day
abbrev rest : Shown → Book → ℕ → Bool
rest shown book d =
    complete (day_readings book shown.e d)
    && (windowed shown.point.method (day_window book shown.e d)
    && clear shown.point.method shown.c (reference shown.c shown.e d 0))

-- one test for the mask and the engagements
arrange : (engaged excluded same change whole windowed clear : Bool)
    → (not engaged && ((not change && clear) && ((same && not excluded) && (whole && windowed)))) ≡ ((same && (not (excluded || engaged) && not change)) && (whole && (windowed && clear)))
arrange true true true change whole windowed clear = refl
arrange true true false change whole windowed clear = refl
arrange true false true change whole windowed clear = refl
arrange true false false change whole windowed clear = refl
arrange false true true true whole windowed clear = refl
arrange false true true false whole windowed clear = and-false clear
arrange false true false true whole windowed clear = refl
arrange false true false false whole windowed clear = and-false clear
arrange false false true true whole windowed clear = refl
arrange false false false true whole windowed clear = refl
arrange false false false false whole windowed clear = and-false clear
arrange false false true false true true clear = and-true clear
arrange false false true false true false clear = and-false clear
arrange false false true false false windowed clear = and-false clear

module _ {shown : Shown} {calendar readings : List ℕ} {book : Book} (s : Shows shown calendar readings book) (d : ℕ) where
  -- document 01's part of eligibility
  suits-by : suits book shown.e d ≡ ((eqb (get_or calendar d 0) (get_or calendar shown.e.day 0) && not (excludes shown.point.mask d)) && (complete (day_readings book shown.e d) && windowed shown.point.method (day_window book shown.e d)))
  unfolding allowed
  suits-by =
      suits-is book shown.e d
      ∙ (λ i. (eqb (s.category d i) (s.category shown.e.day i) && not (excludes (s.owner i).mask d)) && (complete (day_readings book shown.e d) && windowed (s.owner i).method (day_window book shown.e d)))

  -- the clock's part
  regular-by : regular book shown.e d ≡ (not (is_clock_change shown.c d) && clear shown.point.method shown.c (reference shown.c shown.e d 0))
  unfolding regular
  regular-by = λ i. not (is_clock_change (s.when i) d) && clear (s.owner i).method (s.when i) (reference (s.when i) shown.e d 0)

  eligible-by : (b : Bool) → alike calendar shown d ≡ b → eligible book shown.e d ≡ (b && rest shown book d)
  eligible-by b h =
      let whole = complete (day_readings book shown.e d) in
      let win = windowed shown.point.method (day_window book shown.e d) in
      let free = clear shown.point.method shown.c (reference shown.c shown.e d 0) in
      let same = eqb (get_or calendar d 0) (get_or calendar shown.e.day 0) in
      let change = is_clock_change shown.c d in
      eligible-is book shown.e d
      ∙ ap₂ (λ (r t : Bool). not (engaged book shown.e.point d) && (r && t)) regular-by suits-by
      ∙ arrange (engaged book shown.e.point d) (excludes shown.point.mask d) same change whole win free
      ∙ ap (λ (t : Bool). (same && (not t && not change)) && rest shown book d) (sym (s.closed d))
      ∙ ap (λ (t : Bool). t && rest shown book d) h

  pub refers-not : alike calendar shown d ≡ false → Refers book shown.e d None
  refers-not h = eligible-by false h

  -- a reading of the day is missing
  pub refers-part : alike calendar shown d ≡ true → complete (standing readings shown.c shown.e d) ≡ false → Refers book shown.e d None
  refers-part h k = eligible-by true h ∙ ap (λ (t : Bool). t && (windowed shown.point.method (day_window book shown.e d) && clear shown.point.method shown.c (reference shown.c shown.e d 0))) (ap complete (day-standing s d) ∙ k)

  -- none is: then it is the window that tells
  pub eligible-window : alike calendar shown d ≡ true → complete (standing readings shown.c shown.e d) ≡ true
      → eligible book shown.e d ≡ (windowed shown.point.method (window_in readings (reference shown.c shown.e d 0)) && clear shown.point.method shown.c (reference shown.c shown.e d 0))
  eligible-window h k =
      eligible-by true h
      ∙ ap₂ (λ (t : Bool) (l : List Reading). t && (windowed shown.point.method l && clear shown.point.method shown.c (reference shown.c shown.e d 0))) (ap complete (day-standing s d) ∙ k) (day-window s d)

  pub refers : alike calendar shown d ≡ true → (sum : ℕ) (good : Bool) → complete (standing readings shown.c shown.e d) ≡ true → Summed (standing readings shown.c shown.e d) shown.e.count sum
      → good ≡ (windowed shown.point.method (window_in readings (reference shown.c shown.e d 0)) && clear shown.point.method shown.c (reference shown.c shown.e d 0))
      → (good ≡ false → Refers book shown.e d None) × (good ≡ true → Refers book shown.e d (Some sum))
  unfolding day_sum
  refers h sum good k t g =
      let is = eligible-window h k ∙ sym g in (
        λ b. is ∙ b,
        λ b. (is ∙ b, rw (day-standing s d) (t.over k)),
      )
