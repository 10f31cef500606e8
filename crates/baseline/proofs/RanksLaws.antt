-- One day more of the scan, whole or not.
use Rattle.std.specs.Prelude.{◌≡◌, Option, Some, None, List, map, ℕ, ◌+◌, ◌≤◌, ◌<◌, length, take}
use Rattle.std.proofs.Common.{sym, subst, ◌∙◌, arith, take_all}
use Rattle.book.specs.declared.Engagement.{Engagement}
use Rattle.book.specs.Book.{Book}
use Rattle.volumes.specs.Ranking.{ranked}
use Rattle.volumes.specs.Baseline.{day_sum}
use Rattle.baseline.specs.ShownInner.{Refers}
use Rattle.baseline.specs.RanksInner.{Considered, key_in, KeysOf}
use Rattle.baseline.specs.RanksLaws.{Scanned, scan-yes, scan-no, key-count}

pub scan-more : (book : Book) (e : Engagement) (f d : ℕ) (before keys : List ℕ) (t : Option ℕ) → Scanned book e f before → f ≡ d + 1 → f ≤ e.day → d < 64
    → Refers book e d t → Considered before keys t d → Scanned book e d keys
scan-more book e f d before keys (Some sum) s g h k refers considered = scan-yes s g h sum keys k refers considered
scan-more book e f d before keys None s g h k refers considered = subst (λ (l : List ℕ). Scanned book e d l) (sym considered) (scan-no s g h refers)

-- the keys of the days, which are as many
pub keys-first : {book : Book} {e : Engagement} {days keys : List ℕ} {n : ℕ} → KeysOf book e days keys → length days ≡ n → take n keys ≡ map (key_in book e) (ranked (day_sum book e) days)
keys-first {book} {e} {days} {keys} {n} k count = take_all n keys (omega (arith, count, key-count k)) ∙ k.list
