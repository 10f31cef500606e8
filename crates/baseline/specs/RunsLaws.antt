-- The readings of a reference day lie in two runs, before the turn of a clock-change day and behind it, and runs of several days grow by one day.
use Rattle.std.specs.Prelude.{◌≡◌, refl, Bool, true, false, Option, Some, cond, ◌&&◌, ℕ, zero, suc, ◌+◌, ◌-◌, ◌*◌, ◌%◌, ◌≤◌, ◌<◌, eqb, leb, ltb, length, take, get_or}
use Rattle.std.proofs.Common.{sym, ap, ap₂, ◌∙◌, le-leb, ltb-true, ltb-false, add-mul, one-mul, zero-add, arith, subst, take-suc}
use mathlib.Core.List.{List, [], ◌∷◌, ◌++◌, map, flat_map, map-append, append-nil}
use Rattle.std.proofs.lemmas.Bool.{lt-leb}
use Rattle.std.proofs.Math.Bool.{and-false}
use Rattle.integers.specs.Ranges.{range}
use Rattle.std.proofs.Math.ListN.{get_or-map, length-map}
use Rattle.wire.specs.Readings.{Reading, reading_at}
use Rattle.quarters.specs.declared.Calendar.{Calendar}
use Rattle.book.specs.declared.Engagement.{Engagement}
use Rattle.quarters.specs.Quarters.{days_of, quarters, day_start}
use Rattle.quarters.specs.QuartersInner.{usual_day}
use Rattle.volumes.specs.Quarters.{quarter_hours, looks_at, reference_quarter, reference}
use Rattle.volumes.proofs.QuartersLaws.{reference-most, reference-below, day-before-inside}
use Rattle.volumes.specs.Baseline.{complete}
use Rattle.volumes.proofs.BaselineLaws.{complete-append}
use Rattle.baseline.specs.TallyInner.{in_run, Summed, Tallied}
use Rattle.baseline.specs.TallyLaws.{sum-both, joined, tally-append}
use Rattle.baseline.specs.RunsInner.{standing, turn, together, StandsOn, days_in, starts_in, day_run, day_runs, start_run, start_runs}
use Rattle.integers.proofs.RangesLaws.{range-shift, range_split, map-range-cong}
use Rattle.integers.proofs.ListsLaws.{flat_map-append}

flat_map-one : {A B : Type 0} (f : A → List B) (a : A) → flat_map f (a ∷ []) ≡ f a
unfolding flat_map
flat_map-one f a = append-nil (f a)

-- where a key's day starts
pub start_at : (c : Calendar) (keys : List ℕ) (j : ℕ) → j < length keys → get_or (starts_in c keys) j 0 ≡ day_start c (get_or keys j 0 % 64)
unfolding day_start
start_at c keys j h = get_or-map (λ k. day_start c (k % 64)) keys j 0

-- the runs of days by their starts are those of the days
pub starts-runs : (readings : List ℕ) (c : Calendar) (e : Engagement) (k back n : ℕ) (keys : List ℕ)
    → start_runs readings (reference_quarter c e.day (e.first + k)) back n (starts_in c keys) ≡ day_runs readings c e k back n (days_in keys)
unfolding flat_map reference
starts-runs readings c e k back n [] = refl
starts-runs readings c e k back n (d ∷ l) = ap (λ (m : List Reading). day_run readings c e k back n (d % 64) ++ m) (starts-runs readings c e k back n l)

-- what is said of the one is said of the other
pub by-starts : (P : List Reading → ℕ → Type 0) (readings : List ℕ) (c : Calendar) (e : Engagement) (k back n : ℕ) (keys : List ℕ) {starts : List ℕ} → starts ≡ starts_in c keys
    → P (start_runs readings (reference_quarter c e.day (e.first + k)) back n starts) (length starts) → P (day_runs readings c e k back n (days_in keys)) (length keys)
by-starts P readings c e k back n keys {starts} is p =
    let runs = ap (start_runs readings (reference_quarter c e.day (e.first + k)) back n) is ∙ starts-runs readings c e k back n keys in
    let count = ap length is ∙ length-map keys (λ j. day_start c (j % 64)) in
    subst (λ (m : ℕ). P (day_runs readings c e k back n (days_in keys)) m) count (subst (λ (l : List Reading). P l (length starts)) runs p)

-- one day's run more
day-more : (P : List Reading → ℕ → Type 0) (readings starts : List ℕ) (place back n j : ℕ) → j < length starts
    → P (start_runs readings place back n (take j starts) ++ start_run readings place back n (get_or starts j 0)) (j * n + n)
    → P (start_runs readings place back n (take (j + 1) starts)) ((j + 1) * n)
day-more P readings starts place back n j h p =
    let s = get_or starts j 0 in
    let next : j + 1 ≡ suc j = omega arith in
    let run = start_run readings place back n in
    let list : start_runs readings place back n (take (j + 1) starts) ≡ start_runs readings place back n (take j starts) ++ run s = ap (λ (m : ℕ). flat_map run (take m starts)) next ∙ ap (flat_map run) (take-suc starts j 0 h) ∙ flat_map-append run (take j starts) (s ∷ []) ∙ ap (λ (m : List Reading). flat_map run (take j starts) ++ m) (flat_map-one run s) in
    let count : (j + 1) * n ≡ j * n + n = add-mul j 1 n ∙ ap (λ (m : ℕ). j * n + m) (one-mul n) in
    rw (list, count) p

-- its tally: whether all readings are there, and their sum
pub runs-more : (readings starts : List ℕ) (place back n j : ℕ) (t u : Option ℕ) → j < length starts → Tallied (start_runs readings place back n (take j starts)) (j * n) t
    → Tallied (start_run readings place back n (get_or starts j 0)) n u
    → Tallied (start_runs readings place back n (take (j + 1) starts)) ((j + 1) * n) (joined t u)
runs-more readings starts place back n j t u h f g =
    day-more (λ l m. Tallied l m (joined t u)) readings starts place back n j h
    (tally-append (start_runs readings place back n (take j starts)) (start_run readings place back n (get_or starts j 0)) (j * n) n t u f g)

-- and the sum alone
pub sums-more : (readings starts : List ℕ) (place back n j t u : ℕ) → j < length starts → Summed (start_runs readings place back n (take j starts)) (j * n) t
    → Summed (start_run readings place back n (get_or starts j 0)) n u
    → Summed (start_runs readings place back n (take (j + 1) starts)) ((j + 1) * n) (t + u)
sums-more readings starts place back n j t u h f g =
    day-more (λ l m. Summed l m (t + u)) readings starts place back n j h
    (sum-both (start_runs readings place back n (take j starts)) (start_run readings place back n (get_or starts j 0)) (j * n) n t u f g)

-- ---- what stands for the engagement's quarter-hours on a reference day is two runs of readings, the second empty where none of them turns

-- on one side of the turn neighbours look at neighbours
before-turn : (n q k : ℕ) → q + k < turn n → looks_at n (q + k) ≡ looks_at n q + k
unfolding looks_at
before-turn n q k h = go (eqb n 92) (eqb n 100) h
  where
    go : (a b : Bool) → q + k < cond a 8 (cond b 12 0) → cond (a && leb 8 (q + k)) (q + k + 4) (cond (b && leb 12 (q + k)) (q + k - 4) (q + k)) ≡ cond (a && leb 8 q) (q + 4) (cond (b && leb 12 q) (q - 4) q) + k
    go true true l = rw (lt-leb 8 (q + k) l, lt-leb 8 q (omega arith), lt-leb 12 (q + k) (omega arith), lt-leb 12 q (omega arith))
    go true false l = rw (lt-leb 8 (q + k) l, lt-leb 8 q (omega arith))
    go false true l = rw (lt-leb 12 (q + k) l, lt-leb 12 q (omega arith))
    go false false l = absurd (omega arith)

behind-turn : (n q k : ℕ) → turn n ≤ q → looks_at n (q + k) ≡ looks_at n q + k
unfolding looks_at
behind-turn n q k h = go (eqb n 92) (eqb n 100) h
  where
    go : (a b : Bool) → cond a 8 (cond b 12 0) ≤ q → cond (a && leb 8 (q + k)) (q + k + 4) (cond (b && leb 12 (q + k)) (q + k - 4) (q + k)) ≡ cond (a && leb 8 q) (q + 4) (cond (b && leb 12 q) (q - 4) q) + k
    go true b l = rw (le-leb 8 (q + k) (omega arith), le-leb 8 q l) (omega arith)
    go false true l = rw (le-leb 12 (q + k) (omega arith), le-leb 12 q l) (omega arith)
    go false false l = refl

-- n of the engagement's quarter-hours, from quarter-hour a on, look at neighbours
abbrev InRow : Calendar → Engagement → ℕ → ℕ → Type 0
InRow c e a n = (k : ℕ) → k < n → reference_quarter c e.day (e.first + (a + k)) ≡ reference_quarter c e.day (e.first + a) + k

-- those that stand together do, and those behind them
pub record TwoRuns (c : Calendar) (e : Engagement) (m : ℕ) : Type 0 where
  pub most : m ≤ e.count
  pub first : InRow c e 0 m
  pub second : InRow c e m (e.count - m)

pub two_runs : (c : Calendar) (e : Engagement) → TwoRuns c e (together c e)
unfolding together reference_quarter
two_runs c e = go (ltb first t) (ltb t (first + count)) refl refl
  where
    first : ℕ
    first = e.first

    count : ℕ
    count = e.count

    n : ℕ
    n = quarters c e.day

    t : ℕ
    t = turn n

    before : (m k : ℕ) → first + m + k < t → looks_at n (first + (m + k)) ≡ looks_at n (first + m) + k
    before m k h = ap (looks_at n) (omega arith) ∙ before-turn n (first + m) k h

    behind : (m k : ℕ) → t ≤ first + m → looks_at n (first + (m + k)) ≡ looks_at n (first + m) + k
    behind m k h = ap (looks_at n) (omega arith) ∙ behind-turn n (first + m) k h

    go : (a b : Bool) → ltb first t ≡ a → ltb t (first + count) ≡ b → TwoRuns c e (cond (a && b) (t - first) count)
    go true true p q =
        let l = ltb-true first t p in
        let g = ltb-true t (first + count) q in
        record {
          most = omega arith;
          first = λ k h. before 0 k (omega arith);
          second = λ k h. behind (t - first) k (omega arith);
        }
    go true false p q =
        record {
          most = omega arith;
          first = λ k h. before 0 k (omega (arith, ltb-false t (first + count) q));
          second = λ k h. absurd (omega arith);
        }
    go false b p q =
        record {
          most = omega arith;
          first = λ k h. behind 0 k (omega (arith, ltb-false first t p));
          second = λ k h. absurd (omega arith);
        }

-- some quarter-hours of the engagement that lie one after another are a run
one-run : (readings : List ℕ) (c : Calendar) (e : Engagement) (d a n : ℕ) → InRow c e a n
    → map (λ k. reading_at readings (reference c e d k)) (range a n) ≡ in_run readings (reference c e d a) n
unfolding reference
one-run readings c e d a n next =
    let at = reference c e d a in
    let f : ℕ → Reading = λ k. reading_at readings (reference c e d k) in
    let whence : a ≡ a + 0 = omega arith in
    let none : at + 0 ≡ at = omega arith in
    let place : (k : ℕ) → k < n → reference c e d (a + k) ≡ at + k = λ k h. omega (arith, next k h) in
    ap (λ (b : ℕ). map f (range b n)) whence
    ∙ sym (range-shift f a 0 n)
    ∙ map-range-cong (λ k. f (a + k)) (λ k. reading_at readings (at + k)) 0 n (λ k low high. ap (reading_at readings) (place k (omega arith)))
    ∙ range-shift (reading_at readings) at 0 n
    ∙ ap (λ (b : ℕ). in_run readings b n) none

pub standing-runs : (readings : List ℕ) (c : Calendar) (e : Engagement) (d : ℕ)
    → standing readings c e d ≡ in_run readings (reference c e d 0) (together c e) ++ in_run readings (reference c e d (together c e)) (e.count - together c e)
unfolding quarter_hours
standing-runs readings c e d =
    let m = together c e in
    let runs = two_runs c e in
    let f : ℕ → Reading = λ k. reading_at readings (reference c e d k) in
    let all : e.count ≡ m + (e.count - m) = omega (arith, runs.most) in
    ap (λ (n : ℕ). map f (range 0 n)) all
    ∙ ap (map f) (range_split 0 m (e.count - m))
    ∙ map-append f (range 0 m) (range (0 + m) (e.count - m))
    ∙ ap (λ (b : ℕ). map f (range 0 m) ++ map f (range b (e.count - m))) (zero-add m)
    ∙ ap₂ ◌++◌ (one-run readings c e d 0 m runs.first) (one-run readings c e d m (e.count - m) runs.second)

-- where they stand together they are one
pub standing-run : (readings : List ℕ) (c : Calendar) (e : Engagement) (d : ℕ) → together c e ≡ e.count → standing readings c e d ≡ in_run readings (reference c e d 0) e.count
unfolding quarter_hours
standing-run readings c e d all = one-run readings c e d 0 e.count (λ k h. (two_runs c e).first k (omega (arith, all)))

-- one of its readings is missing
pub standing-part : (readings : List ℕ) (c : Calendar) (e : Engagement) (d : ℕ) → complete (in_run readings (reference c e d 0) (together c e)) ≡ false → complete (standing readings c e d) ≡ false
standing-part readings c e d h =
    let first = in_run readings (reference c e d 0) (together c e) in
    let second = in_run readings (reference c e d (together c e)) (e.count - together c e) in
    ap complete (standing-runs readings c e d) ∙ complete-append first second ∙ ap (λ (b : Bool). b && complete second) h

pub standing-part-2 : (readings : List ℕ) (c : Calendar) (e : Engagement) (d : ℕ) → complete (in_run readings (reference c e d (together c e)) (e.count - together c e)) ≡ false → complete (standing readings c e d) ≡ false
standing-part-2 readings c e d h =
    let first = in_run readings (reference c e d 0) (together c e) in
    let second = in_run readings (reference c e d (together c e)) (e.count - together c e) in
    ap complete (standing-runs readings c e d) ∙ complete-append first second ∙ ap (λ (b : Bool). complete first && b) h ∙ and-false (complete first)

-- none is
pub standing-whole : (readings : List ℕ) (c : Calendar) (e : Engagement) (d t u : ℕ) → Tallied (in_run readings (reference c e d 0) (together c e)) (together c e) (Some t)
    → Tallied (in_run readings (reference c e d (together c e)) (e.count - together c e)) (e.count - together c e) (Some u) → Tallied (standing readings c e d) e.count (Some (t + u))
standing-whole readings c e d t u f g =
    let m = together c e in
    let first = in_run readings (reference c e d 0) m in
    let second = in_run readings (reference c e d m) (e.count - m) in
    let count : m + (e.count - m) ≡ e.count = omega (arith, (two_runs c e).most) in (
      ap complete (standing-runs readings c e d) ∙ complete-append first second ∙ ap₂ ◌&&◌ f.0 g.0,
      rw (standing-runs readings c e d) (subst (λ (n : ℕ). Summed (first ++ second) n (t + u)) count (sum-both first second m (e.count - m) t u f.1 g.1)),
    )

-- a run ends with its day's 96
run_ends : (c : Calendar) (e : Engagement) (d a n : ℕ) → e.first + e.count ≤ quarters c e.day → a + n ≤ e.count → InRow c e a n → reference c e d a + n ≤ day_start c d + usual_day
unfolding reference
run_ends c e d a zero ends inside row = omega (arith, reference-most c e.day (e.first + a) (omega arith))
run_ends c e d a (suc n) ends inside row = omega (arith, row n (omega arith), reference-below c e.day (e.first + (a + n)) (omega arith))

pub stands-runs : (c : Calendar) (e : Engagement) (d : ℕ) → e.day < days_of c → days_of c ≤ 64 → e.first + e.count ≤ quarters c e.day → d < e.day → StandsOn c e d
unfolding reference
stands-runs c e d inside few ends before =
    let m = together c e in
    let runs = two_runs c e in
    let day = day-before-inside c e.day d inside before in
    record {
      early = omega arith;
      each = λ k h. omega (arith, reference-below c e.day (e.first + k) (omega arith));
      first = omega (arith, run_ends c e d 0 m ends (omega (arith, runs.most)) runs.first);
      second = omega (arith, run_ends c e d m (e.count - m) ends (omega (arith, runs.most)) runs.second);
    }
