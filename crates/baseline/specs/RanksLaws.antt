-- One day more of the scan.
use Rattle.std.specs.Prelude.{◌≡◌, refl, Some, None, List, [], ℕ, ◌+◌, ◌*◌, ◌≤◌, ◌<◌, length}
use Rattle.std.proofs.Common.{sym, ap, ap₂, subst, ◌∙◌, arith}
use Rattle.std.proofs.lemmas.List.{length-map}
use Rattle.integers.proofs.ZLaws.{Over}
use Rattle.book.specs.declared.Engagement.{Engagement}
use Rattle.book.specs.Book.{Book}
use Rattle.volumes.specs.Ranking.{ranked}
use Rattle.volumes.proofs.RankingLaws.{length-ranked}
use Rattle.volumes.specs.Baseline.{eligible, eligible_days, day_sum}
use Rattle.volumes.proofs.DaysLaws.{scanned, scanned-none, scanned-yes, scanned-no, scanned-full, scanned-few}
use Rattle.baseline.specs.RankingInner.{inserted}
use Rattle.baseline.specs.ShownInner.{Refers}
use Rattle.baseline.specs.SortingLaws.{Above, days-more, above_more, above-less, ranked-more, raised_is}
use Rattle.baseline.specs.RanksInner.{bias, key_in, KeysOf, RankedTo}

-- the days from A - 1 down to f have been scanned
pub record Scanned (book : Book) (e : Engagement) (f : ℕ) (keys : List ℕ) : Type 0 where
  pub ranked : KeysOf book e (scanned (eligible book e) e.day f) keys
  pub above : Above (bias e) (day_sum book e) f (scanned (eligible book e) e.day f)

pub scan-start : (book : Book) (e : Engagement) → Scanned book e e.day []
unfolding ranked
scan-start book e =
    let none = scanned-none (eligible book e) e.day in
    record { ranked = rw none (record { falling = tt; list = refl }); above = rw none tt }

-- a day more that is eligible, and one that isn't
module _ {book : Book} {e : Engagement} {f d : ℕ} {keys : List ℕ} (s : Scanned book e f keys) (g : f ≡ d + 1) (h : f ≤ e.day) where
  pub scan-yes : (sum : ℕ) (after : List ℕ) → d < 64 → Refers book e d (Some sum) → after ≡ inserted (sum * 64 + d) keys → Scanned book e d after
  scan-yes sum after k refers put =
      let old = scanned (eligible book e) e.day f in
      let is = raised_is (bias e) (day_sum book e d) sum refers.1 in
      let list = scanned-yes (eligible book e) e.day d f g (omega arith) refers.0 in
      let days = days-more (bias e) (day_sum book e) e.day f d old g s.ranked.falling s.above (omega arith) k (subst (Over (bias e) (day_sum book e d)) is refers.1) in
      record {
        ranked = rw list (record {
          falling = days;
          list = put ∙ ap₂ (λ (x : ℕ) (l : List ℕ). inserted (x * 64 + d) l) is s.ranked.list ∙ ranked-more (bias e) (day_sum book e) e.day old d s.ranked.falling days;
        });
        above = rw list (above_more (bias e) (day_sum book e) f d old g s.above);
      }

  pub scan-no : Refers book e d None → Scanned book e d keys
  scan-no refers =
      let old = scanned (eligible book e) e.day f in
      let list = scanned-no (eligible book e) e.day d f g (omega arith) refers in
      record { ranked = rw list s.ranked; above = rw list (above-less (bias e) (day_sum book e) f d old g s.above) }

-- as many days as keys
pub key-count : {book : Book} {e : Engagement} {days keys : List ℕ} → KeysOf book e days keys → length keys ≡ length days
key-count {book} {e} {days} k = ap length k.list ∙ length-map (ranked (day_sum book e) days) (key_in book e) ∙ length-ranked (day_sum book e) days

-- a scan that has found y days, and one that has seen all days, have the y latest
pub scan-full : (book : Book) (e : Engagement) (f y : ℕ) (keys : List ℕ) → Scanned book e f keys → f ≤ e.day → length keys ≡ y → RankedTo book e y keys
unfolding eligible_days
scan-full book e f y keys s h g = rw (scanned-full (eligible book e) e.day f y (sym (key-count s.ranked) ∙ g)) s.ranked

pub scan-few : (book : Book) (e : Engagement) (y : ℕ) (keys : List ℕ) → Scanned book e 0 keys → length keys ≤ y → RankedTo book e y keys
unfolding eligible_days
scan-few book e y keys s h = rw (scanned-few (eligible book e) e.day y (omega (arith, key-count s.ranked))) s.ranked
