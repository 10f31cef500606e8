-- From the levels that are read to the baselines that document 01 states.
use Rattle.std.proofs.Math.Path.{◌≡◌, sym, ap}
use Rattle.std.specs.Prelude.{refl, Bool, true, false, cond, ℕ, ◌+◌, ◌-◌, ◌*◌, ◌%◌, ◌≤◌, ◌<◌, leb, ℤ, ◌+ℤ◌, ◌-ℤ◌, ◌*ℤ◌, take, get_or, None, drop, replicate}
use Rattle.std.proofs.Common.{subst, ◌∙◌, length-take, length-take-le, take-take, drop_at, ltb-false, leb-true}
use mathlib.Core.List.{List, ◌++◌, map, flat_map}
use native.Mathlib.Omega.{arith}
use Rattle.std.proofs.lemmas.List.{get_or-replicate}
use Rattle.std.proofs.Math.IntN.{pos, +ℤ_idr}
use Rattle.std.proofs.Math.ListN.{length, length-map, get_or-map, get_or-append}
use Rattle.integers.specs.Sums.{sum_z}
use Rattle.integers.proofs.ZLaws.{Over}
use Rattle.grains.specs.Grains.{grains, share}
use Rattle.wire.specs.Readings.{Reading, reading_at}
use Rattle.book.specs.declared.Engagement.{Engagement}
use Rattle.book.specs.declared.Point.{Point}
use Rattle.book.specs.declared.Method.{Method}
use Rattle.book.specs.declared.Method.TheVariants.{LastQuarter, HighXOfY, Adjusted}
use Rattle.quarters.specs.Quarters.{day_start}
use Rattle.book.specs.Book.{Book}
use Rattle.volumes.specs.Quarters.{start, reference_quarter, reference}
use Rattle.volumes.specs.Baseline.{point_of, watts, known, complete, mean, day_reading, day_window, own_window, last_reading, taken, high, addend, baseline_by, baseline, eligible_days, y_of}
use Rattle.volumes.proofs.BaselineLaws.{window-12}
use Rattle.volumes.specs.Settlement.{too_few}
use Rattle.volumes.proofs.SettlementLaws.{settles}
use Rattle.volumes.proofs.UsedLaws.{high-complete, windows-complete, own-window-complete, last-known}
use Rattle.baseline.specs.declared.shown.Shown.{Shown}
use Rattle.baseline.specs.ShownInner.{Fits, before_in, window_in}
use Rattle.baseline.specs.ShownLaws.{own-window, before_at, start-at, stands, stands_on}
use Rattle.baseline.specs.RunsInner.{days_in, starts_in, day_runs, Lies, Lie}
use Rattle.baseline.specs.RunsLaws.{start_at}
use Rattle.baseline.specs.LevelsInner.{Lasts, Adds}
use Rattle.baseline.specs.LevelsLaws.{quarter-runs, window-runs, window-inside}
use Rattle.baseline.specs.RanksInner.{RankedTo}
use Rattle.baseline.specs.RanksLaws.{key-count}
use Rattle.baseline.specs.TakenInner.{Serves, Took}
use Rattle.baseline.specs.TakenLaws.{took}
use Rattle.baseline.specs.NeedsInner.{looks_back}
use Rattle.baseline.specs.FillsInner.{Raises, Added}
use Rattle.baseline.specs.FilledInner.{Unrefused, Levels, LevelsFilled}
use Rattle.integers.proofs.AllLaws.{all-at}
use Rattle.wire.specs.ReadingsInner.{raise}
use Rattle.integers.proofs.ListsLaws.{length-flat_map}

enough : (book : Book) (e : Engagement) (m : Method) → looks_back m ≡ true → too_few m (y_of book e) (length (eligible_days book e)) ≡ false → y_of book e ≤ length (eligible_days book e)
unfolding looks_back too_few
enough book e LastQuarter b f = let z : ◌≡◌ {A = ℕ} 0 1 = cc in absurd (omega arith)
enough book e HighXOfY b f = ltb-false (length (eligible_days book e)) (y_of book e) f
enough book e Adjusted b f = ltb-false (length (eligible_days book e)) (y_of book e) f

own-length : (book : Book) (e : Engagement) → length (own_window book e) ≡ 12
unfolding own_window
own-length book e = window-12 book e.point (start book.calendar e)

day-length : (book : Book) (e : Engagement) (d : ℕ) → length (day_window book e d) ≡ 12
unfolding day_window
day-length book e d = window-12 book e.point (reference book.calendar e d 0)

known-inside : (readings : List ℕ) (q n : ℕ) → known (before_in readings q n) ≡ true → n ≤ q
unfolding known
known-inside readings q n h = go (leb n q) refl h
  where
    go : (b : Bool) → leb n q ≡ b → known (cond b (reading_at readings (q - n)) None) ≡ true → n ≤ q
    go true e k = leb-true n q e
    go false e k = let z : ◌≡◌ {A = ℕ} 0 1 = cc in absurd (omega arith)

module _ {shown : Shown} {calendar readings : List ℕ} {book : Book} (s : Unrefused shown calendar readings book) where
  method-is : (point_of book shown.e).method ≡ shown.point.method
  method-is = ap (λ (p : Point). p.method) s.shows.owner

  -- the ranking has its Y days, and the first X keys tell the days that are taken
  pub took-days : (keys : List ℕ) (n : ℕ) → n ≤ length keys → looks_back shown.point.method ≡ true → shown.x ≤ shown.y → RankedTo book shown.e shown.y (take n keys) → Took book shown.e (take shown.x keys)
  took-days keys n inside back few r =
      let full : shown.x ≤ n = omega (arith, key-count r, length-take-le n keys, length-take shown.y (eligible_days book shown.e), enough book shown.e shown.point.method back (rw method-is at (settles book shown.e s.good).enough), s.shows.wants) in
      rw (← take-take shown.x n keys full) (took book shown.e (take n keys) shown.x shown.y r s.shows.takes s.shows.wants)

  -- as many as keys
  took-count : {keys : List ℕ} → Took book shown.e keys → length (taken book shown.e) ≡ length keys
  took-count {keys} t = sym (ap length t.days) ∙ length-map keys (λ k. k % 64)

  -- a quarter-hour's mean
  pub high-level : (keys : List ℕ) (k add r : ℕ) (z : ℤ) → Took book shown.e keys → k < shown.e.count → Over (grains (2 * raise)) z add
      → Raises (day_runs readings shown.c shown.e k 0 1 (days_in keys)) (length keys) add r → Over (grains (3 * raise)) (high book shown.e k +ℤ z) r
  unfolding high mean
  high-level keys k add r z t h o raises =
      let runs : day_runs readings shown.c shown.e k 0 1 (days_in keys) ≡ map (day_reading book shown.e k) (taken book shown.e) = ap (day_runs readings shown.c shown.e k 0 1) t.days ∙ quarter-runs s.shows k (taken book shown.e) in
      let count : length (map (day_reading book shown.e k) (taken book shown.e)) ≡ length keys = length-map (taken book shown.e) (day_reading book shown.e k) ∙ took-count t in
      rw count (subst (λ (l : List Reading). Over (grains (3 * raise)) (sum_z watts l *ℤ pos (share (length keys)) +ℤ z) r) runs (raises.level z (ap complete runs ∙ high-complete book shown.e k h) o))

  -- method 2's addend
  pub addend-level-is : (keys : List ℕ) (r : ℕ) → Took book shown.e keys → shown.point.method ≡ Adjusted
      → Adds (window_in readings (start shown.c shown.e)) (day_runs readings shown.c shown.e 0 24 12 (days_in keys)) (length keys) r → Over (grains (2 * raise)) (addend book shown.e) r
  unfolding addend mean
  addend-level-is keys r t m adds =
      let own = sym (own-window s.shows) in
      let runs = ap (day_runs readings shown.c shown.e 0 24 12) t.days ∙ window-runs s.shows (taken book shown.e) m t.each in
      let mine : length (own_window book shown.e) ≡ 12 = own-length book shown.e in
      let count : length (flat_map (day_window book shown.e) (taken book shown.e)) ≡ 12 * length keys = length-flat_map 12 (day_window book shown.e) (λ d. day-length book shown.e d) (taken book shown.e) ∙ ap (λ (n : ℕ). 12 * n) (took-count t) in
      let here = method-is ∙ m in
      rw (mine, count)
      (subst (λ (l : List Reading). Over (grains (2 * raise)) (sum_z watts (own_window book shown.e) *ℤ pos (share 12) -ℤ sum_z watts l *ℤ pos (share (12 * length keys))) r) runs
      (subst (λ (l : List Reading). Over (grains (2 * raise)) (sum_z watts l *ℤ pos (share 12) -ℤ sum_z watts (day_runs readings shown.c shown.e 0 24 12 (days_in keys)) *ℤ pos (share (12 * length keys))) r) own
      (adds.level (ap complete own ∙ own-window-complete book shown.e (settles book shown.e s.good) here) (ap complete runs ∙ windows-complete book shown.e here))))

  -- what the methods make of these
  pub by-mean : (keys : List ℕ) (k add r : ℕ) → Took book shown.e keys → shown.point.method ≡ HighXOfY → k < shown.e.count → add ≡ grains (2 * raise)
      → Raises (day_runs readings shown.c shown.e k 0 1 (days_in keys)) (length keys) add r → Over (grains (3 * raise)) (baseline book shown.e k) r
  unfolding baseline baseline_by
  by-mean keys k add r t m h a raises =
      rw (method-is ∙ m) (rw (+ℤ_idr (high book shown.e k)) at (high-level keys k add r (pos 0) t h (record { law = omega arith }) raises))

  pub by-addend : (keys : List ℕ) (k add r : ℕ) → Took book shown.e keys → shown.point.method ≡ Adjusted → k < shown.e.count
      → Adds (window_in readings (start shown.c shown.e)) (day_runs readings shown.c shown.e 0 24 12 (days_in keys)) (length keys) add
      → Raises (day_runs readings shown.c shown.e k 0 1 (days_in keys)) (length keys) add r → Over (grains (3 * raise)) (baseline book shown.e k) r
  unfolding baseline baseline_by
  by-addend keys k add r t m h adds raises = rw (method-is ∙ m) (high-level keys k add r (addend book shown.e) t h (addend-level-is keys add t m adds) raises)

  last-is : last_reading book shown.e ≡ before_in readings (start shown.c shown.e) (shown.e.notice + 1)
  unfolding last_reading
  last-is = before_at s.shows (start book.calendar shown.e) (shown.e.notice + 1) ∙ ap (λ (q : ℕ). before_in readings q (shown.e.notice + 1)) (start-at s.shows)

  last-there : shown.point.method ≡ LastQuarter → known (before_in readings (start shown.c shown.e) (shown.e.notice + 1)) ≡ true
  last-there m = ap known (sym last-is) ∙ last-known book shown.e (settles book shown.e s.good) (method-is ∙ m)

  pub last-inside : shown.point.method ≡ LastQuarter → shown.e.notice + 1 ≤ start shown.c shown.e
  last-inside m = known-inside readings (start shown.c shown.e) (shown.e.notice + 1) (last-there m)

  pub by_last : (k r : ℕ) → shown.point.method ≡ LastQuarter → Lasts (before_in readings (start shown.c shown.e) (shown.e.notice + 1)) r → Over (grains (3 * raise)) (baseline book shown.e k) r
  unfolding baseline baseline_by
  by_last k r m lasts = rw (method-is ∙ m, last-is) (lasts.level (last-there m))

  -- the days that are taken can be read
  pub serves-at : (keys : List ℕ) → Took book shown.e keys → (j : ℕ) → j < length keys → Serves book shown.e (get_or keys j 0 % 64)
  serves-at keys t j i =
      subst (Serves book shown.e) (get_or-map (λ k. k % 64) keys j 0) (all-at (Serves book shown.e) (days_in keys) j 0 (rw t.days t.each) (omega (arith, length-map keys (λ k. k % 64))))

  lie-of : (keys : List ℕ) → Took book shown.e keys → (place back n : ℕ) → n ≤ 12 → ((d : ℕ) → Serves book shown.e d → Lies readings place back n (day_start shown.c d)) → Lie readings (starts_in shown.c keys) place back n
  lie-of keys t place back n short lies =
      record {
        short = short;
        lies = λ j i.
            let h : j < length keys = omega (arith, length-map keys (λ k. day_start shown.c (k % 64))) in
            rw (start_at shown.c keys j h) (lies (get_or keys j 0 % 64) (serves-at keys t j h));
      }

  pub lie-quarters : (keys : List ℕ) → Fits shown calendar readings → Took book shown.e keys → (k : ℕ) → k < shown.e.count → Lie readings (starts_in shown.c keys) (reference_quarter shown.c shown.e.day (shown.e.first + k)) 0 1
  unfolding reference
  lie-quarters keys f t k h =
      let own = stands shown calendar readings f in
      lie-of keys t (reference_quarter shown.c shown.e.day (shown.e.first + k)) 0 1 (omega arith)
      (λ d v. let m = (stands_on shown calendar readings d f v.early).each k h in record { inside = omega (arith, own.few); from = omega arith; room = omega (arith, own.roomy) })

  pub lie-windows : (keys : List ℕ) → Fits shown calendar readings → Took book shown.e keys → shown.point.method ≡ Adjusted → Lie readings (starts_in shown.c keys) (reference_quarter shown.c shown.e.day (shown.e.first + 0)) 24 12
  unfolding reference
  lie-windows keys f t w =
      let own = stands shown calendar readings f in
      lie-of keys t (reference_quarter shown.c shown.e.day (shown.e.first + 0)) 24 12 (omega arith)
      (λ d v.
      let m = (stands_on shown calendar readings d f v.early).each 0 f.some in
      let q = window-inside s.shows d w v.good in
      record { inside = omega (arith, own.few); from = q; room = omega (arith, own.roomy) })

  -- methods 1 and 2 together
  pub by-days : (keys : List ℕ) (k add r : ℕ) (m : Method) → shown.point.method ≡ m → looks_back m ≡ true → Took book shown.e keys → k < shown.e.count
      → Added m (window_in readings (start shown.c shown.e)) (day_runs readings shown.c shown.e 0 24 12 (days_in keys)) (length keys) add
      → Raises (day_runs readings shown.c shown.e k 0 1 (days_in keys)) (length keys) add r → Over (grains (3 * raise)) (baseline book shown.e k) r
  unfolding looks_back
  by-days keys k add r LastQuarter m b t h a raises = let z : ◌≡◌ {A = ℕ} 0 1 = cc in absurd (omega arith)
  by-days keys k add r HighXOfY m b t h a raises = by-mean keys k add r t m h (a.plain refl) raises
  by-days keys k add r Adjusted m b t h a raises = by-addend keys k add r t m h (a.adjusted refl) raises

  -- and method 0
  pub method-0 : (m : Method) → shown.point.method ≡ m → looks_back m ≡ false → shown.point.method ≡ LastQuarter
  unfolding looks_back
  method-0 LastQuarter m b = m
  method-0 HighXOfY m b = let z : ◌≡◌ {A = ℕ} 0 1 = cc in absurd (omega arith)
  method-0 Adjusted m b = let z : ◌≡◌ {A = ℕ} 0 1 = cc in absurd (omega arith)

-- the first places are filled
pub levels-filled : {shown : Shown} {calendar readings : List ℕ} (before all : List ℕ) → length all ≡ shown.e.count → Levels shown calendar readings all → LevelsFilled shown calendar readings before (all ++ drop shown.e.count before)
levels-filled {shown} {calendar} {readings} before all count f =
    let n = shown.e.count in
    let same : (k : ℕ) → k < n → get_or all k 0 ≡ get_or (all ++ drop n before) k 0 = λ k h. sym (get_or-append all (drop n before) 0 k (omega arith)) in
    record {
      small = λ k h. omega (arith, f.small k h, same k h);
      levels = λ book s k h. subst (Over (grains (3 * raise)) (baseline book shown.e k)) (same k h) (f.levels book s k h);
      rest = drop_at all (drop n before) n count;
    }

-- one level in all of them, where the method doesn't look back
pub flat-levels : {shown : Shown} {calendar readings : List ℕ} (level : ℕ) → looks_back shown.point.method ≡ false → Lasts (before_in readings (start shown.c shown.e) (shown.e.notice + 1)) level → Levels shown calendar readings (replicate shown.e.count level)
flat-levels {shown} {calendar} {readings} level back lasts =
    let n = shown.e.count in
    let each : (k : ℕ) → k < n → get_or (replicate n level) k 0 ≡ level = λ k h. get_or-replicate n k level 0 h in
    record {
      small = λ k h. omega (arith, each k h, lasts.small);
      levels = λ book s k h. rw (each k h) (by_last s k level (method-0 s shown.point.method refl back) lasts);
    }
