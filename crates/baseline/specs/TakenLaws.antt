-- The keys of the latest eligible days, ranked, tell the days that are taken: the first X of them.
use Rattle.std.specs.Prelude.{◌≡◌, refl, true, List, [], ◌∷◌, map, ℕ, zero, suc, ◌%◌, ◌≤◌, ℤ, take}
use Rattle.std.proofs.Common.{sym, ap, ap₂, ◌∙◌, arith}
use Rattle.integers.specs.All.{All}
use Rattle.integers.proofs.KeepLaws.{mem-keep}
use Rattle.book.specs.declared.Engagement.{Engagement}
use Rattle.book.specs.Book.{Book}
use Rattle.volumes.specs.Ranking.{ranked}
use Rattle.volumes.proofs.RankingLaws.{from-ranked}
use Rattle.volumes.specs.Baseline.{eligible, before, eligible_days, x_of, y_of, latest, day_sum, taken}
use Rattle.baseline.specs.SortingLaws.{Days, key-day}
use Rattle.baseline.specs.RanksInner.{bias, key_in, RankedTo}
use Rattle.baseline.specs.TakenInner.{Serves, Took}
use Rattle.integers.proofs.AllLaws.{each_all, all-each, all_take}

-- what is ranked stands in the list
all-ranked : (P : ℕ → Type 0) (key : ℕ → ℤ) (l : List ℕ) → All P l → All P (ranked key l)
all-ranked P key l h = each_all P (ranked key l) (λ d m. all-each P l d h (from-ranked key d l m))

-- days that fall from a, each eligible
serve : (book : Book) (e : Engagement) (a : ℕ) (l : List ℕ) → a ≤ e.day → Days (bias e) (day_sum book e) a l → All (λ d. eligible book e d ≡ true) l → All (Serves book e) l
unfolding All
serve book e a [] h f g = tt
serve book e a (d ∷ l) h f g =
    (record { early = omega (arith, f.0.earlier); small = f.0.small; good = g.0 }, serve book e d l (omega (arith, f.0.earlier)) f.1 g.1)

tell : (book : Book) (e : Engagement) (l : List ℕ) → All (Serves book e) l → map (λ k. k % 64) (map (key_in book e) l) ≡ l
unfolding All
tell book e [] h = refl
tell book e (d ∷ l) h = ap₂ ◌∷◌ (key-day (bias e) (day_sum book e) d h.0.small) (tell book e l h.1)

take-map : (f : ℕ → ℕ) (n : ℕ) (l : List ℕ) → take n (map f l) ≡ map f (take n l)
take-map f zero l = refl
take-map f (suc n) [] = refl
take-map f (suc n) (a ∷ l) = ap (λ (t : List ℕ). f a ∷ t) (take-map f n l)

pub took : (book : Book) (e : Engagement) (keys : List ℕ) (x y : ℕ) → RankedTo book e y keys → x ≡ x_of book e → y ≡ y_of book e → Took book e (take x keys)
unfolding taken latest eligible_days
took book e keys x y r ex ey =
    let days = take y (eligible_days book e) in
    let rank = ranked (day_sum book e) days in
    let all = serve book e e.day days (omega arith) r.falling (all_take _ y (eligible_days book e) (each_all _ (eligible_days book e) (λ d m. (mem-keep (eligible book e) (before e.day) d m).1))) in
    let served = all_take _ x rank (all-ranked _ (day_sum book e) days all) in
    let same : taken book e ≡ take x rank = ap₂ (λ (i j : ℕ). take i (ranked (day_sum book e) (take j (eligible_days book e)))) (sym ex) (sym ey) in
    let first : take x keys ≡ map (key_in book e) (take x rank) = ap (take x) r.list ∙ take-map (key_in book e) x rank in
    record {
      days = ap (map (λ k. k % 64)) first ∙ tell book e (take x rank) served ∙ sym same;
      each = rw same served;
    }
