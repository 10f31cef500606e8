-- A front of rows in which each goes with the next is the first group of the rows; the rows behind it are grouped by themselves.
use Rattle.std.specs.Prelude.{◌≡◌, refl, Bool, false, cond, List, [], ◌∷◌, ◌++◌, map, ℕ, suc, ◌+◌, ◌-◌, ◌<◌, length, get_or, take, drop, Option, Some, None, MatchOption}
use Rattle.std.proofs.Common.{sym, ap, ◌∙◌, subst, arith, length-append}
use Rattle.std.proofs.Math.Seq.{take-append_seam, drop-append_seam}
use denote.Ref.{Bor}
use denote.Param.Members.{Mut}
use Rattle.std.specs.declared.slice.ChunkBy.{ChunkBy}
use Rattle.std.specs.Fn.{ComputesOnPairs}
use Rattle.std.specs.List.{IsChunkByPrefix}
use Rattle.std.specs.Iterator.{YieldsThen}
use Rattle.std.specs.Slice.Iter.{chunk_by_rest, chunk_by_callee, chunk_by_steps}
use Rattle.message.specs.Group.{Keys, push, group}
use Rattle.message.proofs.GroupLaws.{first_group}
use Rattle.writer.specs.RunsInner.{goes_with, IsRun, FirstRun}

module _ {K A : Type 0} (E : Keys K) (f : List ℕ → K × A) where
  -- a row before those of another key
  other : (x y : List ℕ) (l : List (List ℕ)) → goes_with E f x y ≡ false → group E (map f (x ∷ y ∷ l)) ≡ ((f x).0, (f x).1 ∷ []) ∷ group E (map f (y ∷ l))
  unfolding group push
  other x y l h =
      let g = first_group E (f y) (map f l) in
      let first : K × List A = ((f y).0, (f y).1 ∷ g.more) in
      ap (push E (f x).0 (f x).1) g.is
      ∙ ap (λ (b : Bool). cond b (((f x).0, (f x).1 ∷ first.1) ∷ g.rest) (((f x).0, (f x).1 ∷ []) ∷ first ∷ g.rest)) h
      ∙ ap (λ (gs : List (K × List A)). ((f x).0, (f x).1 ∷ []) ∷ gs) (sym g.is)

  -- a run without its first row
  shorter : (x : List ℕ) (l : List (List ℕ)) (n : ℕ) → 0 < n → IsChunkByPrefix (goes_with E f) (x ∷ l) (suc n) → IsChunkByPrefix (goes_with E f) l n
  shorter x l n h p = (
    λ k d g. let e : suc (k + 1) ≡ suc k + 1 = omega arith in
        ap (λ (j : ℕ). goes_with E f (get_or l k d) (get_or (x ∷ l) j d)) e ∙ p.0 (suc k) d (omega (arith, g)),
    λ g d. let e : suc (n - 1) ≡ suc n - 1 = omega (arith, h) in
        ap (λ (j : ℕ). goes_with E f (get_or (x ∷ l) j d) (get_or l n d)) e ∙ p.1 (omega (arith, g)) d,
  )

  first-group : (a b : List (List ℕ)) → 0 < length a → IsChunkByPrefix (goes_with E f) (a ++ b) (length a)
      → group E (map f (a ++ b)) ≡ ((f (get_or a 0 [])).0, map (λ x. x.1) (map f a)) ∷ group E (map f b)
  unfolding group push
  first-group [] b h p = absurd (omega (arith, h))
  first-group (x ∷ []) [] h p = refl
  first-group (x ∷ []) (y ∷ b) h p = other x y b (p.1 (omega arith) x)
  first-group (x ∷ y ∷ a) b h p =
      let more : List A = (f y).1 ∷ map (λ z. z.1) (map f a) in
      let rest = group E (map f b) in
      ap (push E (f x).0 (f x).1) (first-group (y ∷ a) b (omega arith) (shorter x (y ∷ a ++ b) (suc (length a)) (omega arith) p))
      ∙ ap (λ (t : Bool). cond t (((f x).0, (f x).1 ∷ more) ∷ rest) (((f x).0, (f x).1 ∷ []) ∷ ((f y).0, more) ∷ rest)) (p.0 0 x (omega arith))

  -- the first run is the first group
  pub run-first : {rows a b : List (List ℕ)} → IsRun (goes_with E f) rows a b → FirstRun E f rows a b
  run-first {rows} {a} {b} r =
      let P : List (List ℕ) → Type 0 = λ l. group E (map f l) ≡ ((f (get_or a 0 [])).0, map (λ y. y.1) (map f a)) ∷ group E (map f b) in
      record {
        some = r.0;
        all = r.1.0;
        first = subst P (sym r.1.0) (first-group a b r.0 (subst (λ (l : List (List ℕ)). IsChunkByPrefix (goes_with E f) l (length a)) r.1.0 r.1.1));
      }

  pub split-first : (rows : List (List ℕ)) (P : Type 0) (r : Option (Bor (List (List ℕ)) × Bor (List (List ℕ)))) → MatchOption r P (λ x. IsRun (goes_with E f) rows x.0.now x.1.now)
      → MatchOption r P (λ x. FirstRun E f rows x.0.now x.1.now)
  split-first rows P None v = v
  split-first rows P (Some x) v = run-first v

  -- what stands behind a run is less
  pub behind-less : {rows a b : List (List ℕ)} → FirstRun E f rows a b → length b < length rows
  behind-less {rows} {a} {b} r = omega (arith, r.some, ap length r.all, length-append a b)

  module _ {F : Type 0} (g : Mut F (Bor (List ℕ) × (Bor (List ℕ) × Unit {0})) Bool) where
    -- a run that comes off rows
    pub first-run : (s t : ChunkBy (List ℕ) F) (x : Bor (List (List ℕ))) → ComputesOnPairs g (goes_with E f) (chunk_by_callee s) → chunk_by_steps g s (Some x) t
        → FirstRun E f (chunk_by_rest s) x.now (chunk_by_rest t)
    first-run s t x k p =
        run-first (p.1, (p.0, (p.2 (goes_with E f) k).1))

    -- as many runs as groups
    pub count-runs : (xs : List (Bor (List (List ℕ)))) (s u : ChunkBy (List ℕ) F) → ComputesOnPairs g (goes_with E f) (chunk_by_callee s) → YieldsThen (chunk_by_steps g) s xs None u
        → length xs ≡ length (group E (map f (chunk_by_rest s)))
    unfolding group
    count-runs [] s u k v = sym (ap (λ (l : ChunkBy (List ℕ) F). length (group E (map f (chunk_by_rest l)))) v.1 ∙ no-groups (chunk_by_rest v.0) v.2.0)
      where
        no-groups : (l : List (List ℕ)) → length l ≡ 0 → length (group E (map f l)) ≡ 0
        no-groups [] e = refl
        no-groups (x ∷ l) e = absurd (omega (arith, e))
    count-runs (x ∷ xs) s u k v =
        let next = v.1.1 in
        ap suc (count-runs xs v.1.0 u (next.2 (goes_with E f) k).0 (v.0, v.1.2, v.2)) ∙ sym (ap length (first-run s v.1.0 x k next).first)

-- a run that comes off rows, which were cut behind it
pub split-run : {F : Type 0} (g : Mut F (Bor (List ℕ) × (Bor (List ℕ) × Unit {0})) Bool) (e : List ℕ → List ℕ → Bool) (s t : ChunkBy (List ℕ) F) (x : Bor (List (List ℕ))) {rows a b : List (List ℕ)} → ComputesOnPairs g e (chunk_by_callee s) → chunk_by_steps g s (Some x) t
    → chunk_by_rest s ≡ rows → a ≡ take (length x.now) rows → b ≡ drop (length x.now) rows → IsRun e rows a b
split-run g e s t x {rows} {a} {b} k p h i j =
    let whole : rows ≡ x.now ++ chunk_by_rest t = sym h ∙ p.0 in
    let front : x.now ≡ a = sym (i ∙ ap (take (length x.now)) whole ∙ take-append_seam x.now (chunk_by_rest t)) in
    let back : chunk_by_rest t ≡ b = sym (j ∙ ap (drop (length x.now)) whole ∙ drop-append_seam x.now (chunk_by_rest t)) in
    let run : IsRun e (chunk_by_rest s) x.now (chunk_by_rest t) = (p.1, (p.0, (p.2 e k).1)) in
    rw (h, front, back) at run
