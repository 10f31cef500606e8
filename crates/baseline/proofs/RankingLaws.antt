-- What one turn of an insertion does, by the numbers before it.
use Rattle.std.specs.Prelude.{◌≡◌, refl, List, [], ◌∷◌, ◌++◌, ℕ, suc, ◌+◌, ◌<◌, max, min, length, take, drop, get_or, set}
use Rattle.std.proofs.Common.{sym, ap, ap₂, ◌∙◌, append_assoc, arith, length-take, length-set, drop_of_length-le, take-suc-set, drop-cons, drop-drop, drop-set-lt, get_or-take, length-take-le}
use Rattle.std.proofs.lemmas.List.{set_split}
use Rattle.std.proofs.Math.Seq.{append_snoc}
use Rattle.baseline.specs.RankingInner.{inserted, Inserting}

pub start : (keys : List ℕ) (n key : ℕ) → Inserting keys keys n key 0 key
start keys n key = record { done = refl; rest = refl; same = refl }

pub here : (keys₀ keys : List ℕ) (i : ℕ) → drop i keys ≡ drop i keys₀ → i < length keys₀ → length keys ≡ length keys₀ → get_or keys i 0 ≡ get_or keys₀ i 0
here keys₀ keys i e h l =
    let a = sym (drop-cons keys i 0 (omega arith)) ∙ e ∙ drop-cons keys₀ i 0 h in
    cc

cut-one : (keys₀ keys : List ℕ) (i : ℕ) → drop i keys ≡ drop i keys₀ → drop (suc i) keys ≡ drop (suc i) keys₀
cut-one keys₀ keys i e = let f : i + 1 ≡ suc i = omega arith in rw (← f, ← drop-drop 1 i keys, ← drop-drop 1 i keys₀, e)

pub turn : (keys₀ keys : List ℕ) (n key i x : ℕ) → Inserting keys₀ keys n key i x → i < n → n < length keys₀ → Inserting keys₀ (set keys i (max (get_or keys i 0) x)) n key (i + 1) (min (get_or keys i 0) x)
turn keys₀ keys n key i x h lt room =
    let l = h.same in
    let k = get_or keys i 0 in
    let e : get_or (take n keys₀) i 0 ≡ k = get_or-take n keys₀ i 0 lt ∙ sym (here keys₀ keys i h.rest (omega arith) l) in
    let len : length (take n keys₀) ≡ n = length-take-le n keys₀ (omega arith) in
    let cut : drop i (take n keys₀) ≡ k ∷ drop (suc i) (take n keys₀) = drop-cons (take n keys₀) i 0 (omega arith) ∙ ap (λ (a : ℕ). a ∷ drop (suc i) (take n keys₀)) e in
    let s : i + 1 ≡ suc i = omega arith in
    record {
      done =
          rw (s, take-suc-set keys i (max k x) (omega arith), append_assoc (take i keys) (max k x ∷ []) (inserted (min k x) (drop (suc i) (take n keys₀))))
          (ap (λ (t : List ℕ). take i keys ++ inserted x t) (sym cut) ∙ h.done);
      rest = rw s (drop-set-lt (suc i) keys i (max k x) (omega arith) ∙ cut-one keys₀ keys i h.rest);
      same = length-set keys i (max k x) ∙ l;
    }

-- the last one is put behind the others
pub finish : (keys₀ keys : List ℕ) (n key x : ℕ) → Inserting keys₀ keys n key n x → n < length keys₀ → set keys n x ≡ inserted key (take n keys₀) ++ drop (n + 1) keys₀
finish keys₀ keys n key x h room =
    let l = h.same in
    let s : n + 1 ≡ suc n = omega arith in
    let none : drop n (take n keys₀) ≡ [] = drop_of_length-le (take n keys₀) {i = n} (omega (arith, length-take n keys₀)) in
    let placed : take n keys ++ (x ∷ []) ≡ inserted key (take n keys₀) = ap (λ (t : List ℕ). take n keys ++ inserted x t) (sym none) ∙ h.done in
    rw s (set_split keys n x (omega arith) ∙ sym (append_snoc (take n keys) x (drop (suc n) keys)) ∙ ap₂ ◌++◌ placed (cut-one keys₀ keys n h.rest))
