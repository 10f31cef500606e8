-- What is read of the days that are taken is what the definitions look at.
use Rattle.std.specs.Prelude.{◌≡◌, Bool, true, false, ℕ, ◌-◌, ◌≤◌, ltb}
use Rattle.std.proofs.Math.Path.{refl, sym, ap₂}
use Rattle.std.proofs.Common.{ap, ◌∙◌, ltb-true, ltb-false}
use mathlib.Core.List.{List, [], ◌∷◌, ◌++◌, map, flat_map}
use native.Mathlib.Omega.{arith}
use Rattle.integers.specs.Ranges.{range}
use Rattle.integers.specs.All.{All}
use Rattle.wire.specs.Readings.{reading_at}
use Rattle.book.specs.declared.Point.{Point}
use Rattle.book.specs.declared.Method.TheVariants.{Adjusted}
use Rattle.book.specs.Book.{Book}
use Rattle.volumes.specs.Quarters.{reference}
use Rattle.volumes.specs.Baseline.{complete, day_reading, day_window, windowed, eligible}
use Rattle.volumes.proofs.UsedLaws.{eligible-day}
use Rattle.baseline.specs.declared.shown.Shown.{Shown}
use Rattle.baseline.specs.ShownInner.{Shows}
use Rattle.baseline.specs.ShownLaws.{day-reading, day-window, window-run, window-early}
use Rattle.baseline.specs.RunsInner.{day_runs}
use Rattle.baseline.specs.TakenInner.{Serves}

module _ {shown : Shown} {calendar readings : List ℕ} {book : Book} (s : Shows shown calendar readings book) where
  -- quarter-hour k of the days
  pub quarter-runs : (k : ℕ) (l : List ℕ) → day_runs readings shown.c shown.e k 0 1 l ≡ map (day_reading book shown.e k) l
  unfolding flat_map range
  quarter-runs k [] = refl
  quarter-runs k (d ∷ l) =
      let none : reference shown.c shown.e d k - 0 ≡ reference shown.c shown.e d k = omega arith in
      ap₂ ◌∷◌ (ap (reading_at readings) none ∙ sym (day-reading s k d)) (quarter-runs k l)

  -- the windows of the days, where method 2 looks at them
  window-lies : (d : ℕ) → shown.point.method ≡ Adjusted → eligible book shown.e d ≡ true → complete (day_window book shown.e d) ≡ true
  unfolding windowed
  window-lies d m i = rw (ap (λ (p : Point). p.method) s.owner ∙ m) at (eligible-day book shown.e d i).windowed

  pub window-inside : (d : ℕ) → shown.point.method ≡ Adjusted → eligible book shown.e d ≡ true → 24 ≤ reference shown.c shown.e d 0
  window-inside d m i = go (ltb (reference shown.c shown.e d 0) 24) refl
    where
      go : (b : Bool) → ltb (reference shown.c shown.e d 0) 24 ≡ b → 24 ≤ reference shown.c shown.e d 0
      go false f = ltb-false (reference shown.c shown.e d 0) 24 f
      go true f =
          let early = window-early readings (reference shown.c shown.e d 0) (ltb-true (reference shown.c shown.e d 0) 24 f) in
          let whole = sym (ap complete (day-window s d)) ∙ window-lies d m i in
          let z : ◌≡◌ {A = ℕ} 0 1 = cc in absurd (omega arith)

  pub window-runs : (l : List ℕ) → shown.point.method ≡ Adjusted → All (Serves book shown.e) l → day_runs readings shown.c shown.e 0 24 12 l ≡ flat_map (day_window book shown.e) l
  unfolding flat_map All
  window-runs [] m g = refl
  window-runs (d ∷ l) m g =
      ap₂ ◌++◌ (sym (day-window s d ∙ window-run readings (reference shown.c shown.e d 0) (window-inside d m g.0.good))) (window-runs l m g.1)
