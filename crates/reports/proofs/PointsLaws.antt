-- Where a series has grains, one of the book's points is its own; so a partner that no taken point of the receiver has gets none.
use Rattle.std.specs.Prelude.{◌≡◌, Bool, ◌&&◌, ℕ, zero, suc, ◌+◌, ◌≤◌, ◌<◌, eqb, length}
use Rattle.std.proofs.Math.Path.{refl}
use Rattle.std.proofs.Common.{sym, arith, eqb-true}
use Rattle.std.proofs.Math.Bool.{true, false, cond}
use mathlib.Core.List.Memᴰ
use mathlib.Core.List.{List, [], ◌∷◌, map, Memᴰ}
use Rattle.integers.specs.Counts.{times}
use Rattle.integers.specs.Running.{up_to, floor_at}
use Rattle.integers.specs.Sums.{sum_by, sum_of}
use Rattle.integers.proofs.TestsLaws.{both}
use Rattle.integers.specs.Keep.{keep}
use Rattle.integers.proofs.KeepLaws.{keep-mem}
use Rattle.integers.proofs.AscendingLaws.{ascending-once}
use Rattle.grains.specs.Grains.{per_watt}
use Rattle.book.specs.declared.Supply.{Supply}
use Rattle.book.specs.declared.Supply.TheVariants.{OffTake, Injection}
use Rattle.book.specs.declared.Point.{Point}
use Rattle.book.specs.declared.Engagement.{Engagement}
use Rattle.book.specs.Book.{Book}
use Rattle.volumes.specs.Baseline.{no_point, point_of}
use Rattle.volumes.specs.Settlement.{delivered}
use Rattle.volumes.specs.Sheets.{covers, quarter_at}
use Rattle.volumes.specs.declared.Series.{Series}
use Rattle.volumes.specs.Series.{Kind, takes, receiver_of, partner_of, same_supply, same_direction, is_point, is_engagement, grains_of, grains_at, series_watts}
use Rattle.reports.specs.FileRows.{is_taken, partner_numbers}
use Rattle.integers.proofs.RangesLaws.{get_d-mem}
use Rattle.integers.proofs.RunningLaws.{floor_at-zero}

-- a sum that isn't 0 has a term that isn't
some-term : {A : Type 0} (f : A → ℕ) (l : List A) → 1 ≤ sum_of f l → (a : A) × Memᴰ a l × (1 ≤ f a)
unfolding sum_by
some-term f [] h = absurd (omega arith)
some-term f (a ∷ l) h = go (f a) refl h (some-term f l)
  where
    go : (n : ℕ) → f a ≡ n → 1 ≤ n + sum_of f l → (1 ≤ sum_of f l → (b : _) × Memᴰ b l × (1 ≤ f b)) → (b : _) × Memᴰ b (a ∷ l) × (1 ≤ f b)
    go zero e h i = let r = i (omega arith) in (r.0, Memᴰ.tail r.1, r.2)
    go (suc n) e h i = (a, Memᴰ.head refl, omega arith)

some-position : (g : ℕ → ℕ) (p : ℕ) → 1 ≤ up_to g p → (q : ℕ) × (1 ≤ g q)
unfolding up_to
some-position g zero h = absurd (omega arith)
some-position g (suc p) h = go (g (suc p)) refl h (some-position g p)
  where
    go : (n : ℕ) → g (suc p) ≡ n → 1 ≤ up_to g p + n → (1 ≤ up_to g p → (q : ℕ) × (1 ≤ g q)) → (q : ℕ) × (1 ≤ g q)
    go zero e h i = i (omega arith)
    go (suc n) e h i = (suc p, omega arith)

-- what a point of a series has
pub record Of (kind : Kind) (receiver : ℕ) (s : Series) (point : Point) : Type 0 where
  pub taken : is_taken kind receiver point ≡ true
  pub partner : partner_of kind point ≡ s.partner
  pub supply : point.supply ≡ s.supply

same-supply : (a b : Supply) → same_supply a b ≡ true → a ≡ b
unfolding same_supply
same-supply OffTake OffTake e = refl
same-supply OffTake Injection e = cc
same-supply Injection OffTake e = cc
same-supply Injection Injection e = refl

point-of : (kind : Kind) (receiver : ℕ) (s : Series) (point : Point) → is_point kind receiver s point ≡ true → Of kind receiver s point
unfolding is_point is_taken
point-of kind receiver s point e =
    let same = same_supply point.supply s.supply in
    let mine = eqb (partner_of kind point) s.partner && same in
    let e₁ = both (takes kind point.situation) (eqb (receiver_of kind point) receiver && mine) e in
    let e₂ = both (eqb (receiver_of kind point) receiver) mine e₁.1 in
    let e₃ = both (eqb (partner_of kind point) s.partner) same e₂.1 in
    record { taken = rw (e₁.0, e₂.0); partner = eqb-true _ _ e₃.0; supply = same-supply _ _ e₃.1 }

-- the engagements of a book are of its points
abbrev pub Inside : Book → Type 0
Inside book = (e : Engagement) → Memᴰ e book.engagements → e.point < length book.points

module _ (book : Book) (inside : Inside book) (kind : Kind) (receiver : ℕ) (s : Series) where
  of-engagement : (q : ℕ) (e : Engagement) → Memᴰ e book.engagements → 1 ≤ grains_of book kind receiver s q e → (point : Point) × Memᴰ point book.points × Of kind receiver s point
  unfolding grains_of is_engagement point_of
  of-engagement q e m h = go (is_point kind receiver s (point_of book e)) refl (same_direction e.direction s.delivery) (covers book.calendar e q) h
    where
      go : (t : Bool) → is_point kind receiver s (point_of book e) ≡ t → (u v : Bool) → 1 ≤ cond ((t && u) && v) (delivered book e (quarter_at book.calendar e q)) 0 → (point : Point) × Memᴰ point book.points × Of kind receiver s point
      go true f u v h = (point_of book e, get_d-mem book.points e.point no_point (inside e m), point-of kind receiver s (point_of book e) f)
      go false f u v h = absurd (omega arith)

  -- a series with grains has a point
  pub grains-point : (q : ℕ) → 1 ≤ grains_at book kind receiver s q → (point : Point) × Memᴰ point book.points × Of kind receiver s point
  unfolding grains_at
  grains-point q h = let r = some-term (grains_of book kind receiver s q) book.engagements h in of-engagement q r.0 r.1 r.2

  -- and so has one with watts
  pub watts-point : (p : ℕ) → 1 ≤ series_watts book kind receiver s p → (point : Point) × Memᴰ point book.points × Of kind receiver s point
  unfolding series_watts floor_at
  watts-point p h = let r = some-position (grains_at book kind receiver s) p (omega arith) in grains-point r.0 r.1

  -- a partner that the receiver doesn't have
  no-grains : times s.partner (partner_numbers book kind receiver) ≡ 0 → (q : ℕ) → grains_at book kind receiver s q ≡ 0
  unfolding partner_numbers
  no-grains z q = go (grains_at book kind receiver s q) refl
    where
      none : (point : Point) × Memᴰ point book.points × Of kind receiver s point → ⊥
      none (point, m, o) =
          let k = Memᴰ.map (partner_of kind) (keep-mem (is_taken kind receiver) book.points point m o.taken) in
          omega (arith, (ascending-once (map (partner_of kind) (keep (is_taken kind receiver) book.points))).once s.partner (Memᴰ.cast (sym o.partner) k))

      go : (n : ℕ) → grains_at book kind receiver s q ≡ n → n ≡ 0
      go zero e = refl
      go (suc n) e = absurd (none (grains-point q (omega arith)))

  pub no-watts : times s.partner (partner_numbers book kind receiver) ≡ 0 → (p : ℕ) → series_watts book kind receiver s p ≡ 0
  unfolding series_watts
  no-watts z p = floor_at-zero per_watt (grains_at book kind receiver s) p (no-grains z)
