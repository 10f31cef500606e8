-- One day more, and one start more; all is there of the days where it is of each.
use Rattle.std.specs.Prelude.{◌≡◌, refl, ◌&&◌, ℕ, suc, ◌+◌, ◌*◌, ◌%◌, ◌≤◌, ◌<◌, length, take, get_or, set}
use Rattle.std.proofs.Common.{sym, ap, ◌∙◌, mul-le-mul, arith, take-suc, take-suc-set}
use mathlib.Core.List.{List, [], ◌∷◌, ◌++◌, map, map-append, append-nil, flat_map}
use Rattle.integers.proofs.ListsLaws.{flat_map-append}
use Rattle.wire.specs.Readings.{Reading}
use Rattle.volumes.specs.Baseline.{complete}
use Rattle.volumes.proofs.BaselineLaws.{complete-append}
use Rattle.quarters.specs.declared.Calendar.{Calendar}
use Rattle.quarters.specs.Quarters.{day_start}
use Rattle.baseline.specs.RunsInner.{days_in, start_run, start_runs}

pub days-one-more : (keys : List ℕ) (j : ℕ) → j < length keys → days_in (take (j + 1) keys) ≡ days_in (take j keys) ++ ((get_or keys j 0 % 64) ∷ [])
days-one-more keys j h =
    let s : j + 1 ≡ suc j = omega arith in
    rw (s, take-suc keys j 0 h) (map-append (λ k. k % 64) (take j keys) (get_or keys j 0 ∷ []))

-- where one day more starts
pub starts_none : (c : Calendar) (keys starts : List ℕ) → take 0 starts ≡ map (day_start c) (days_in (take 0 keys))
starts_none c keys starts = refl

pub starts_more : (c : Calendar) (keys starts : List ℕ) (j : ℕ) → j < length keys → j < length starts → take j starts ≡ map (day_start c) (days_in (take j keys))
    → take (j + 1) (set starts j (day_start c (get_or keys j 0 % 64))) ≡ map (day_start c) (days_in (take (j + 1) keys))
starts_more c keys starts j h k e =
    let d = get_or keys j 0 % 64 in
    let s : j + 1 ≡ suc j = omega arith in
    ap (λ (n : ℕ). take n (set starts j (day_start c d))) s
    ∙ take-suc-set starts j (day_start c d) k
    ∙ ap (λ (l : List ℕ). l ++ (day_start c d ∷ [])) e
    ∙ sym (ap (map (day_start c)) (days-one-more keys j h) ∙ map-append (day_start c) (days_in (take j keys)) (d ∷ []))

pub product-few : (j n : ℕ) → j ≤ 10 → n ≤ 12 → j * n ≤ 120
product-few j n h k = mul-le-mul {n₁ = j} {m₁ = n} {n₂ = 10} {m₂ = 12} h k

-- all is there of one day more where it is of those before and of that day
pub wholes-more : (readings starts : List ℕ) (place back n j : ℕ) → j < length starts
    → complete (start_runs readings place back n (take (j + 1) starts)) ≡ (complete (start_runs readings place back n (take j starts)) && complete (start_run readings place back n (get_or starts j 0)))
unfolding flat_map
wholes-more readings starts place back n j h =
    let run = start_run readings place back n in
    let s = get_or starts j 0 in
    let next : j + 1 ≡ suc j = omega arith in
    ap (λ (m : ℕ). complete (flat_map run (take m starts))) next
    ∙ ap (λ (l : List ℕ). complete (flat_map run l)) (take-suc starts j 0 h)
    ∙ ap complete (flat_map-append run (take j starts) (s ∷ []))
    ∙ complete-append (flat_map run (take j starts)) (run s ++ [])
    ∙ ap (λ (l : List Reading). complete (flat_map run (take j starts)) && complete l) (append-nil (run s))
