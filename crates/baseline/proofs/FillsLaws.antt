-- Places are filled one after another, and those behind them are as they were.
use Rattle.std.specs.Prelude.{◌≡◌, refl, List, ◌++◌, ℕ, ◌+◌, ◌<◌, length, get_or, set, drop, replicate}
use Rattle.std.proofs.Common.{sym, ap, subst, ◌∙◌, arith, drop-set-lt, drop-drop, drop_at}
use Rattle.std.proofs.lemmas.List.{length-replicate, get_or-replicate}
use Rattle.std.proofs.Math.ListN.{get_or-append}
use Rattle.baseline.specs.FillsInner.{FillsLevels}
use Rattle.baseline.specs.FillsLaws.{fills-more}

-- no place yet, and one more
pub fills-none : (P : ℕ → ℕ → Type 0) (l : List ℕ) → FillsLevels P 0 l l
fills-none P l = record { each = λ k h. absurd (omega arith); rest = refl }

pub levels-more : (P : ℕ → ℕ → Type 0) (before l : List ℕ) (k v : ℕ) → k < length l → FillsLevels P k before l → P k v → FillsLevels P (k + 1) before (set l k v)
levels-more P before l k v h f p =
    record {
      each = fills-more P l k v h f.each p;
      rest = drop-set-lt (k + 1) l k v (omega arith) ∙ sym (drop-drop 1 k l) ∙ ap (drop 1) f.rest ∙ drop-drop 1 k before;
    }

pub same-fills : (n v : ℕ) (before after : List ℕ) → after ≡ replicate n v ++ drop n before → FillsLevels (λ k u. u ≡ v) n before after
same-fills n v before after e =
    record {
      each = λ k h. ap (λ (l : List ℕ). get_or l k 0) e ∙ get_or-append (replicate n v) (drop n before) 0 k (omega (arith, length-replicate n v)) ∙ get_or-replicate n k v 0 h;
      rest = ap (drop n) e ∙ drop_at (replicate n v) (drop n before) n (length-replicate n v);
    }

-- two numbers are exchanged for equal ones
pub subst_both : (P : ℕ → ℕ → Type 0) {a b c d : ℕ} → a ≡ b → c ≡ d → P a c → P b d
subst_both P {a} {b} {c} {d} e f p = subst (λ (x : ℕ). P x d) e (subst (P a) f p)
