-- A series' grains grow by what each engagement adds, and a list of numbers by position with them.
use Rattle.std.specs.Prelude.{◌≡◌, Bool, not, ◌&&◌, leb, ltb, drop, set}
use Rattle.std.proofs.Math.Path.{refl, sym, ap}
use Rattle.std.proofs.Common.{ap₂, ◌∙◌, add-one, length-append, length-drop, take_all, take-suc, drop-cons, drop_at, get_or-take, leb-true, ltb-true, ltb-false, le-leb, lt-ltb, le-ltb}
use Rattle.std.proofs.Math.Bool.{true, false, cond}
use mathlib.Core.List.{List, [], ◌∷◌, ◌++◌, map, map-append, Memᴰ}
use Prim.Native.Nat.{ℕ, zero, suc, ◌+◌, ◌-◌, ◌*◌, ◌/◌, ◌%◌, ◌^◌, ◌≤◌, ◌<◌}
use Rattle.std.proofs.Math.Nat.{mul-suc, mul-le-mul_left}
use native.Mathlib.Omega.{arith}
use Rattle.std.proofs.Math.ListN.{length, get_or, take, length-take, length-set}
use Rattle.std.proofs.lemmas.List.{length-map, get_or_at}
use Rattle.std.proofs.Math.Seq.{get_or-set_other}
use Rattle.integers.specs.Ranges.{range}
use Rattle.integers.specs.Running.{up_to, floor_at}
use Rattle.integers.specs.Sums.{naturals, sum_by, sum_of}
use Rattle.grains.specs.Grains.{per_watt}
use Rattle.book.specs.declared.Takers.TheVariants.{Aggregated, Individual, Neither, Refused}
use Rattle.book.specs.declared.Supply.{Supply}
use Rattle.book.specs.declared.Supply.TheVariants.{OffTake, Injection}
use Rattle.book.specs.declared.Direction.{Direction}
use Rattle.book.specs.declared.Direction.TheVariants.{Up, Down}
use Rattle.quarters.specs.declared.Calendar.{Calendar}
use Rattle.book.specs.declared.Engagement.{Engagement}
use Rattle.book.specs.Engagements.{engagement_at}
use Rattle.book.specs.Header.{calendar_of, register_section, engagement_section}
use Rattle.book.specs.Book.{Book, book_of}
use Rattle.quarters.specs.Quarters.{month_quarters}
use Rattle.volumes.proofs.QuartersLaws.{position-inside}
use Rattle.volumes.specs.Settlement.{delivered, row_count}
use Rattle.volumes.proofs.SettlementLaws.{passing}
use Rattle.volumes.specs.Sheets.{start_position, covers, quarter_at}
use Rattle.volumes.specs.declared.Series.{Series}
use Rattle.volumes.specs.Series.{Kind, Toe01, Toe02, Toe03, same_supply, same_direction, is_engagement, grains_of, grains_at, series_watts}
use Rattle.volumes.specs.Baseline.{point_of}
use Rattle.volumes.specs.SoundInner.{Placed}
use Rattle.volumes.proofs.SoundLaws.{sound}
use Rattle.volumes.proofs.WidthsLaws.{most, delivered-most}
use Rattle.settlement.specs.SectionsInner.{engagement_count_in, engagements_in, row_count_in}
use Rattle.settlement.specs.SectionsLaws.{rows-counted, same-book, opened}
use Rattle.settlement.specs.DrawnLaws.{registered, owner}
use Rattle.settlement.specs.PartsLaws.{row_count_to, count-more, count_most}
use Rattle.series.specs.SumsInner.{by_position, cell_at, grains_to, added, VolumesAddable, Parts, DeliveredIn}
use Rattle.series.specs.VolumesInner.{book_volumes}
use Rattle.series.specs.VolumesLaws.{volumes-length, volume-of}
use Rattle.integers.proofs.RangesLaws.{length-range, range-more, get_d-made, get_d-mem, map-range-cong}
use Rattle.integers.proofs.RunningLaws.{floor_at-cong}
use Rattle.integers.proofs.SumsLaws.{sum-append}
use Rattle.volumes.specs.SeriesInner.{taken_by}
use Rattle.integers.proofs.ListsLaws.{next-cell}

-- ---- kinds and directions

-- files are aggregated or individual; and "the rest appear in none"
pub individual-is : (kind : Kind) → taken_by kind Individual ≡ not (taken_by kind Aggregated)
unfolding taken_by
individual-is Toe01 = refl
individual-is Toe02 = refl
individual-is Toe03 = refl

pub takes-neither : (kind : Kind) → taken_by kind Neither ≡ false
unfolding taken_by
takes-neither Toe01 = refl
takes-neither Toe02 = refl
takes-neither Toe03 = refl

pub takes-refused : (kind : Kind) → taken_by kind Refused ≡ false
unfolding taken_by
takes-refused Toe01 = refl
takes-refused Toe02 = refl
takes-refused Toe03 = refl

-- what isn't the one direction is the other
pub injection-is : (a : Supply) → same_supply a Injection ≡ not (same_supply a OffTake)
unfolding same_supply
injection-is OffTake = refl
injection-is Injection = refl

pub down_is : (a : Direction) → same_direction a Down ≡ not (same_direction a Up)
unfolding same_direction
down_is Up = refl
down_is Down = refl

-- ---- lists of numbers by position

-- one cell stored, where the functions differ at its number alone
pub set-made : (f g : ℕ → ℕ) (t : List ℕ) (a n i x : ℕ) → i < n → g (a + i) ≡ x → ((p : ℕ) → (p ≡ a + i → ⊥) → f p ≡ g p)
    → set (map f (range a n) ++ t) i x ≡ map g (range a n) ++ t
unfolding range
set-made f g t a zero i x h e same = absurd (omega arith)
set-made f g t a (suc n) zero x h e same =
    let z : a + 0 ≡ a = omega arith in
    ap₂ ◌∷◌ (sym e ∙ ap g z) (ap (λ (l : List ℕ). l ++ t) (map-range-cong f g (suc a) n (λ p k _. same p (λ q. omega arith))))
set-made f g t a (suc n) (suc i) x h e same =
    let z : suc a + i ≡ a + suc i = omega arith in
    ap₂ ◌∷◌ (same a (λ q. omega arith)) (set-made f g t (suc a) n i x (omega arith) (ap g z ∙ e) (λ p q. same p (λ r. q (omega arith))))

pub get_d-by_position : (f : ℕ → ℕ) (t : List ℕ) (a n i d : ℕ) → i < n → get_or (map f (range a n) ++ t) i d ≡ f (a + i)
unfolding range
get_d-by_position f t a zero i d h = absurd (omega arith)
get_d-by_position f t a (suc n) zero d h = let z : a ≡ a + 0 = omega arith in ap f z
get_d-by_position f t a (suc n) (suc i) d h = let z : suc a + i ≡ a + suc i = omega arith in get_d-by_position f t (suc a) n i d (omega arith) ∙ ap f z

pub by_length : (f : ℕ → ℕ) (n : ℕ) (l : List ℕ) → n ≤ length l → length (by_position f n l) ≡ length l
by_length f n l h = simp (length-append, length-map, length-range, length-drop) (omega arith)

-- no position yet, and one more: its cell was as before
pub by-none : (f : ℕ → ℕ) (l : List ℕ) → by_position f 0 l ≡ l
unfolding range
by-none f l = refl

pub by-rest : (f : ℕ → ℕ) (i : ℕ) (l : List ℕ) → i < length l → get_or (by_position f i l) i 0 ≡ get_or l i 0
by-rest f i l h = rw (drop-cons l i 0 h) (get_or_at (map f (range 1 i)) (get_or l i 0) (drop (suc i) l) 0 i (length-map (range 1 i) f ∙ length-range 1 i))

pub by-more : (f : ℕ → ℕ) (i : ℕ) (l : List ℕ) (x : ℕ) → i < length l → x ≡ f (i + 1) → set (by_position f i l) i x ≡ by_position f (i + 1) l
by-more f i l x h e =
    let here : 1 + i ≡ i + 1 = omega arith in
    let next : map f (range 1 (i + 1)) ≡ map f (range 1 i) ++ (x ∷ []) = ap (map f) (range-more 1 i) ∙ map-append f (range 1 i) ((1 + i) ∷ []) ∙ ap (λ (y : ℕ). map f (range 1 i) ++ (y ∷ [])) (ap f here ∙ sym e) in
    next-cell (map f (range 1 i)) l i x (length-map (range 1 i) f ∙ length-range 1 i) h ∙ ap (λ (m : List ℕ). m ++ drop (i + 1) l) (sym next)

-- the cells filled anew, and filled with the same
pub by-again : (f g : ℕ → ℕ) (n : ℕ) (l : List ℕ) → by_position g n (by_position f n l) ≡ by_position g n l
by-again f g n l = ap (λ (t : List ℕ). map g (range 1 n) ++ t) (drop_at (map f (range 1 n)) (drop n l) n (length-map (range 1 n) f ∙ length-range 1 n))

pub by-own : (f : ℕ → ℕ) (n m : ℕ) (l after : List ℕ) → n ≡ m → after ≡ by_position f n l → n ≤ length l → (m ≤ length after) × (after ≡ by_position f m after)
by-own f n m l after e h k = rw (← e) (omega (arith, ap length h, by_length f n l k), h ∙ sym (by-again f f n l) ∙ ap (by_position f n) (sym h))

pub by-cong : (f g : ℕ → ℕ) (n : ℕ) (l : List ℕ) → ((p : ℕ) → 1 ≤ p → p ≤ n → f p ≡ g p) → by_position f n l ≡ by_position g n l
by-cong f g n l h = ap (λ (t : List ℕ). t ++ drop n l) (map-range-cong f g 1 n (λ p a b. h p a (omega arith)))

-- n numbers of v from position q on
unfoldable pub span_of : ℕ → ℕ → (ℕ → ℕ) → ℕ → ℕ
span_of q n v p = cond (leb q p && ltb p (q + n)) (v (p - q)) 0

span_none : (q : ℕ) (v : ℕ → ℕ) (p : ℕ) → span_of q 0 v p ≡ 0
unfolding span_of
span_none q v p = go (leb q p) refl
  where
    go : (t : Bool) → leb q p ≡ t → cond (t && ltb p (q + 0)) (v (p - q)) 0 ≡ 0
    go true e = rw (le-ltb p (q + 0) (omega (arith, leb-true q p e)))
    go false e = refl

span_last : (q n : ℕ) (v : ℕ → ℕ) (p : ℕ) → p ≡ q + n → span_of q (suc n) v p ≡ v n
unfolding span_of
span_last q n v p e = let d : p - q ≡ n = omega arith in rw (le-leb q p (omega arith), lt-ltb p (q + suc n) (omega arith), d)

span-other : (q n : ℕ) (v : ℕ → ℕ) (p : ℕ) → (p ≡ q + n → ⊥) → span_of q n v p ≡ span_of q (suc n) v p
unfolding span_of
span-other q n v p h = go (ltb p (q + n)) refl
  where
    go : (t : Bool) → ltb p (q + n) ≡ t → cond (leb q p && t) (v (p - q)) 0 ≡ cond (leb q p && ltb p (q + suc n)) (v (p - q)) 0
    go true e = rw (lt-ltb p (q + suc n) (omega (arith, ltb-true p (q + n) e)))
    go false e = let k : q + n ≤ p = ltb-false p (q + n) e in rw (le-ltb p (q + suc n) (omega (arith, h)))

module _ (l : List ℕ) (at : ℕ) (v : ℕ → ℕ) where
  pub added-length : (k : ℕ) → length (added l at v k) ≡ length l
  unfolding added
  added-length zero = refl
  added-length (suc k) = length-set (added l at v k) (at + k) (get_or l (at + k) 0 + v k) ∙ added-length k

  -- the cells behind are as they were
  pub added-behind : (k i : ℕ) → at + k ≤ i → get_or (added l at v k) i 0 ≡ get_or l i 0
  unfolding added
  added-behind zero i h = refl
  added-behind (suc k) i h = get_or-set_other (added l at v k) (at + k) i (get_or l (at + k) 0 + v k) 0 (λ e. omega arith) ∙ added-behind k i (omega arith)

  pub added_more : (k : ℕ) → set (added l at v k) (at + k) (get_or (added l at v k) (at + k) 0 + v k) ≡ added l at v (k + 1)
  unfolding added
  added_more k = rw (add-one k, added-behind k (at + k) (omega arith))

pub added_none : (l : List ℕ) (at : ℕ) (v : ℕ → ℕ) → added l at v 0 ≡ l
unfolding added
added_none l at v = refl

pub added-cong : (l : List ℕ) (at : ℕ) (v w : ℕ → ℕ) (n : ℕ) → ((k : ℕ) → k < n → v k ≡ w k) → added l at v n ≡ added l at w n
unfolding added
added-cong l at v w zero h = refl
added-cong l at v w (suc n) h = ap₂ (λ (m : List ℕ) (x : ℕ). set m (at + n) (get_or l (at + n) 0 + x)) (added-cong l at v w n (λ k p. h k (omega arith))) (h n (omega arith))

-- numbers added to cells are added at their positions
pub added-span : (f : ℕ → ℕ) (t : List ℕ) (n at : ℕ) (v : ℕ → ℕ) (k : ℕ) → at + k ≤ n → added (map f (range 1 n) ++ t) at v k ≡ map (λ p. f p + span_of (at + 1) k v p) (range 1 n) ++ t
unfolding added
added-span f t n at v zero h = ap (λ (l : List ℕ). l ++ t) (map-range-cong f (λ p. f p + span_of (at + 1) 0 v p) 1 n (λ p _ _. omega (arith, span_none (at + 1) v p)))
added-span f t n at v (suc k) h =
    let here : 1 + (at + k) ≡ at + 1 + k = omega arith in
    ap (λ (l : List ℕ). set l (at + k) (get_or (map f (range 1 n) ++ t) (at + k) 0 + v k)) (added-span f t n at v k (omega arith))
    ∙ set-made (λ p. f p + span_of (at + 1) k v p) (λ p. f p + span_of (at + 1) (suc k) v p) t 1 n (at + k) _ (omega arith)
    (ap₂ ◌+◌ (sym (get_d-by_position f t 1 n (at + k) 0 (omega arith))) (span_last (at + 1) k v (1 + (at + k)) here))
    (λ p other. ap (λ (x : ℕ). f p + x) (span-other (at + 1) k v p (λ e. other (omega arith))))

-- ---- the engagements one after the other

module _ {c : Calendar} {register engagements : List ℕ} {volumes : List ℕ} {book : Book} (s : Parts c register engagements volumes book) where
  row-count : length book.engagements ≡ engagement_count_in engagements
  unfolding engagements_in
  row-count = ap length s.listed ∙ rw (length-map, length-range)

  pub rows_few : engagement_count_in engagements ≤ 512
  rows_few = omega (arith, row-count, s.sound.few)

  row_named : (i : ℕ) (d : Engagement) → i < engagement_count_in engagements → get_or book.engagements i d ≡ engagement_at engagements i
  unfolding engagements_in
  row_named i d h = ap (λ (l : List Engagement). get_or l i d) s.listed ∙ get_d-made (engagement_at engagements) (engagement_count_in engagements) i d h

  member : (i : ℕ) → i < engagement_count_in engagements → Memᴰ (engagement_at engagements i) book.engagements
  member i h =
      let d = engagement_at engagements i in
      rw (← row_named i d h) (get_d-mem book.engagements i d (omega (arith, row-count)))

  pub placed : (i : ℕ) → i < engagement_count_in engagements → Placed c (length book.points) (engagement_at engagements i)
  placed i h = rw (← s.when) (s.sound.engagements (engagement_at engagements i) (member i h))

  rows-to : (i : ℕ) → row_count_to engagements i ≡ sum_of (λ e. e.count) (take i book.engagements)
  unfolding row_count_to
  rows-to i = ap (λ (l : List Engagement). sum_of (λ e. e.count) (take i l)) (sym s.listed)

  volumes-in : length (book_volumes book) ≡ row_count_in engagements
  unfolding row_count row_count_in
  volumes-in = volumes-length book ∙ ap (λ (l : List Engagement). sum_of (λ e. e.count) l) s.listed

  -- the volumes of the engagement behind those that are passed
  volumes-inside : (i : ℕ) → i < engagement_count_in engagements → row_count_to engagements i + (engagement_at engagements i).count ≤ length (book_volumes book)
  volumes-inside i h = omega (arith, volumes-in, count-more engagements i h, count_most engagements (i + 1))

  pub volumes-room : (i : ℕ) → i < engagement_count_in engagements → row_count_to engagements i + (engagement_at engagements i).count ≤ length volumes
  volumes-room i h = omega (arith, volumes-inside i h, length-take (length (book_volumes book)) volumes, ap length s.starts)

  pub volume-is : (i k : ℕ) → i < engagement_count_in engagements → k < (engagement_at engagements i).count → get_or volumes (row_count_to engagements i + k) 0 ≡ delivered book (engagement_at engagements i) k
  unfolding book_volumes
  volume-is i k h l =
      let d = engagement_at engagements i in
      let e = row_named i d h in
      let j = row_count_to engagements i + k in
      let inside : j < length (book_volumes book) = omega (arith, volumes-inside i h) in
      sym (get_or-take (length (book_volumes book)) volumes j 0 inside)
      ∙ ap (λ (l : List ℕ). get_or l j 0) s.starts
      ∙ ap (λ (m : ℕ). get_or (book_volumes book) (m + k) 0) (rows-to i)
      ∙ volume-of book book.engagements i d k (omega (arith, row-count)) (rw e l)
      ∙ ap (λ (e : Engagement). delivered book e k) e

  pub volume-most : (i k : ℕ) → delivered book (engagement_at engagements i) k ≤ most
  volume-most i k = delivered-most book s.sound (engagement_at engagements i) k

  module _ (kind : Kind) (receiver : ℕ) (series : Series) where
    grains-more : (i : ℕ) → i < engagement_count_in engagements → (p : ℕ) → grains_to book kind receiver series (i + 1) p ≡ grains_to book kind receiver series i p + grains_of book kind receiver series p (engagement_at engagements i)
    unfolding grains_to sum_by
    grains-more i h p =
        let d = engagement_at engagements i in
        let f = grains_of book kind receiver series p in
        let es = book.engagements in
        let last : sum_of f (get_or es i d ∷ []) ≡ f d = ap (λ (e : Engagement). f e + 0) (row_named i d h) ∙ omega arith in
        rw (add-one i) (ap (sum_of f) (take-suc es i d (omega (arith, row-count))) ∙ sum-append naturals f (take i es) (get_or es i d ∷ []) ∙ ap (λ (n : ℕ). sum_of f (take i es) + n) last)

    -- an engagement of the series adds its volumes at its positions, another nothing
    grains-in : (p : ℕ) (e : Engagement) → is_engagement book kind receiver series e ≡ true → grains_of book kind receiver series p e ≡ span_of (start_position c e) e.count (delivered book e) p
    unfolding grains_of covers quarter_at span_of
    grains-in p e h = rw (h, s.when)

    grains-out : (p : ℕ) (e : Engagement) → is_engagement book kind receiver series e ≡ false → grains_of book kind receiver series p e ≡ 0
    unfolding grains_of
    grains-out p e h = rw h

    step_in : (i at n : ℕ) (t : List ℕ) → i < engagement_count_in engagements → is_engagement book kind receiver series (engagement_at engagements i) ≡ true
        → at + 1 ≡ start_position c (engagement_at engagements i) → n ≡ month_quarters c
        → added (by_position (grains_to book kind receiver series i) n t) at (delivered book (engagement_at engagements i)) (engagement_at engagements i).count ≡ by_position (grains_to book kind receiver series (i + 1)) n t
    step_in i at n t h own start month =
        let e = engagement_at engagements i in
        let f = grains_to book kind receiver series i in
        let g = grains_to book kind receiver series (i + 1) in
        added-span f (drop n t) n at (delivered book e) e.count (omega (arith, position-inside c (length book.points) e (placed i h)))
        ∙ ap (λ (l : List ℕ). l ++ drop n t) (map-range-cong (λ p. f p + span_of (at + 1) e.count (delivered book e) p) g 1 n (λ p _ _.
        ap (λ (q : ℕ). f p + span_of q e.count (delivered book e) p) start ∙ ap (λ (x : ℕ). f p + x) (sym (grains-in p e own)) ∙ sym (grains-more i h p)))

    step-out : (i n : ℕ) (t : List ℕ) → i < engagement_count_in engagements → is_engagement book kind receiver series (engagement_at engagements i) ≡ false
        → by_position (grains_to book kind receiver series i) n t ≡ by_position (grains_to book kind receiver series (i + 1)) n t
    step-out i n t h other =
        let e = engagement_at engagements i in
        ap (λ (l : List ℕ). l ++ drop n t) (map-range-cong (grains_to book kind receiver series i) (grains_to book kind receiver series (i + 1)) 1 n (λ p _ _. omega (arith, grains-out p e other, grains-more i h p)))

    -- one engagement more
    pub step : (i at n : ℕ) (t : List ℕ) → i < engagement_count_in engagements → at + 1 ≡ start_position c (engagement_at engagements i) → n ≡ month_quarters c
        → added (by_position (grains_to book kind receiver series i) n t) at (delivered book (engagement_at engagements i)) (cond (is_engagement book kind receiver series (engagement_at engagements i)) (engagement_at engagements i).count 0) ≡ by_position (grains_to book kind receiver series (i + 1)) n t
    step i at n t h start month = go (is_engagement book kind receiver series (engagement_at engagements i)) refl
      where
        go : (b : Bool) → is_engagement book kind receiver series (engagement_at engagements i) ≡ b → added (by_position (grains_to book kind receiver series i) n t) at (delivered book (engagement_at engagements i)) (cond b (engagement_at engagements i).count 0) ≡ by_position (grains_to book kind receiver series (i + 1)) n t
        go true e = step_in i at n t h e start month
        go false e = added_none (by_position (grains_to book kind receiver series i) n t) at (delivered book (engagement_at engagements i)) ∙ step-out i n t h e

    -- none are passed, and all
    pub grains-none : (p : ℕ) → grains_to book kind receiver series 0 p ≡ 0
    unfolding grains_to sum_by
    grains-none p = refl

    pub grains-all : (i : ℕ) → engagement_count_in engagements ≤ i → (p : ℕ) → grains_to book kind receiver series i p ≡ grains_at book kind receiver series p
    unfolding grains_to grains_at
    grains-all i h p = ap (sum_of (grains_of book kind receiver series p)) (take_all i book.engagements (omega (arith, row-count)))

    grain-most : (p : ℕ) (e : Engagement) → grains_of book kind receiver series p e ≤ most
    unfolding grains_of
    grain-most p e = go (is_engagement book kind receiver series e && covers book.calendar e p)
      where
        go : (t : Bool) → cond t (delivered book e (quarter_at book.calendar e p)) 0 ≤ most
        go true = delivered-most book s.sound e (quarter_at book.calendar e p)
        go false = omega arith

    sum-most : (p : ℕ) (es : List Engagement) → sum_of (grains_of book kind receiver series p) es ≤ most * length es
    unfolding sum_by
    sum-most p [] = omega arith
    sum-most p (e ∷ es) = let h : sum_of (grains_of book kind receiver series p) es ≤ most * length es = sum-most p es in omega (arith, grain-most p e, mul-suc most (length es))

    -- 512 engagements deliver no more than 512 times a reading's most
    pub grains-most : (i p : ℕ) → grains_to book kind receiver series i p ≤ most * 512
    unfolding grains_to
    grains-most i p =
        let es = take i book.engagements in
        let few : length es ≤ 512 = omega (arith, length-take i book.engagements, s.sound.few) in
        omega (arith, sum-most p es, mul-le-mul_left {m = length es} {n = 512} most few)

module _ {c : Calendar} {register engagements : List ℕ} {volumes : List ℕ} {book : Book} (s : Parts c register engagements volumes book) (kind : Kind) (receiver : ℕ) (series : Series) (i at own first : ℕ) (before grains : List ℕ)
    (inside : i < engagement_count_in engagements)
    (place : at ≡ row_count_to engagements i)
    (rows : own ≡ cond (is_engagement book kind receiver series (engagement_at engagements i)) (engagement_at engagements i).count 0)
    (start : first + 1 ≡ start_position c (engagement_at engagements i))
    (room : month_quarters c ≤ length before)
    (held : grains ≡ by_position (grains_to book kind receiver series i) (month_quarters c) before) where
  at-most-own : own ≤ (engagement_at engagements i).count
  at-most-own = go (is_engagement book kind receiver series (engagement_at engagements i)) rows
    where
      go : (t : Bool) → own ≡ cond t (engagement_at engagements i).count 0 → own ≤ (engagement_at engagements i).count
      go true e = omega arith
      go false e = omega arith

  cells-inside : first + own ≤ month_quarters c
  cells-inside = omega (arith, at-most-own, position-inside c (length book.points) (engagement_at engagements i) (placed s i inside))

  own-volume-is : (k : ℕ) → k < own → get_or volumes (at + k) 0 ≡ delivered book (engagement_at engagements i) k
  own-volume-is k h = ap (λ (a : ℕ). get_or volumes (a + k) 0) place ∙ volume-is s i k inside (omega (arith, at-most-own))

  -- the volumes of one engagement more can be added, and their sums are those of one more
  pub turn-adds : VolumesAddable grains first volumes at own
  turn-adds =
      record {
        cells = omega (arith, cells-inside, ap length held, by_length (grains_to book kind receiver series i) (month_quarters c) before room);
        given = omega (arith, at-most-own, volumes-room s i inside);
        fits = λ k h.
            let cell : get_or grains (first + k) 0 ≡ grains_to book kind receiver series i (1 + (first + k)) = ap (λ (l : List ℕ). get_or l (first + k) 0) held ∙ get_d-by_position (grains_to book kind receiver series i) (drop (month_quarters c) before) 1 (month_quarters c) (first + k) 0 (omega (arith, cells-inside)) in
            omega (arith, cell, own-volume-is k h, volume-most s i k, grains-most s kind receiver series i (1 + (first + k)));
      }

  pub turn-sums : added grains first (λ k. get_or volumes (at + k) 0) own ≡ by_position (grains_to book kind receiver series (i + 1)) (month_quarters c) before
  turn-sums =
      added-cong grains first (λ k. get_or volumes (at + k) 0) (delivered book (engagement_at engagements i)) own own-volume-is
      ∙ ap₂ (λ (l : List ℕ) (n : ℕ). added l first (delivered book (engagement_at engagements i)) n) held rows
      ∙ step s kind receiver series i first (month_quarters c) before inside start refl

-- the parts of a book's own bytes
pub parts-of : (bytes volumes : List ℕ) → DeliveredIn bytes volumes → Parts (calendar_of bytes) (register_section bytes) (engagement_section bytes) volumes (book_of bytes)
unfolding book_of engagements_in
parts-of bytes volumes h =
    let passed = (passing bytes h.accepted).passed in
    let s = opened bytes passed in
    record {
      sound = sound bytes passed;
      when = refl;
      listed = rw (rows-counted bytes passed);
      registered = registered s;
      owner = λ i k. ap (λ (b : Book). point_of b (engagement_at (engagement_section bytes) i)) (sym (same-book bytes passed)) ∙ owner s i k;
      starts = h.starts;
    }

-- ---- grains to watts

-- "The watts at a position are the series' grains up to it, over 30,240 rounded down, less the same before it.": what is carried and what comes
-- make the watts, and what they leave is carried on
pub record Carried (g : ℕ → ℕ) (p watts rest : ℕ) : Type 0 where
  pub whole : watts ≡ floor_at per_watt g p
  pub left : rest ≡ up_to g p % per_watt

pub carried : (g : ℕ → ℕ) (p carry more : ℕ) → carry ≡ up_to g p % per_watt → more ≡ g (p + 1) → Carried g (p + 1) ((carry + more) / per_watt) ((carry + more) % per_watt)
unfolding floor_at up_to
carried g p carry more h e =
    let next : g (p + 1) ≡ g (suc p) = ap g (add-one p) in
    rw (add-one p) (record { whole = omega (arith, h, e, next); left = omega (arith, h, e, next) })

pub carry-none : (g : ℕ → ℕ) → 0 ≡ up_to g 0 % per_watt
unfolding up_to
carry-none g = refl

-- the numbers by position of a list that was filled by position
pub cell-is : (f : ℕ → ℕ) (n : ℕ) (l : List ℕ) (p : ℕ) → 1 ≤ p → p ≤ n → cell_at (by_position f n l) p ≡ f p
cell-is f n l zero h k = absurd (omega arith)
cell-is f n l (suc p) h k = let e : 1 + p ≡ suc p = omega arith in get_d-by_position f (drop n l) 1 n p 0 (omega arith) ∙ ap f e

-- grains that were filled have room for what is carried, and become the series' watts
module _ {c : Calendar} {register engagements : List ℕ} {volumes : List ℕ} {book : Book} (s : Parts c register engagements volumes book) (kind : Kind) (receiver : ℕ) (series : Series) (n : ℕ) (before cells : List ℕ)
    (filled : cells ≡ by_position (grains_at book kind receiver series) n before) where
  pub carry-fits : (k : ℕ) → k < n → get_or cells k 0 + per_watt ≤ 2 ^ 64
  carry-fits k h =
      let i = engagement_count_in engagements in
      let cell = ap (λ (l : List ℕ). get_or l k 0) filled ∙ get_d-by_position (grains_at book kind receiver series) (drop n before) 1 n k 0 h in
      omega (arith, cell, grains-all s kind receiver series i (omega arith) (1 + k), grains-most s kind receiver series i (1 + k))

  pub watts-are : by_position (floor_at per_watt (cell_at cells)) n cells ≡ by_position (series_watts book kind receiver series) n before
  unfolding series_watts
  watts-are =
      ap (by_position (floor_at per_watt (cell_at cells)) n) filled
      ∙ by-again (grains_at book kind receiver series) (floor_at per_watt (cell_at cells)) n before
      ∙ by-cong (floor_at per_watt (cell_at cells)) (floor_at per_watt (grains_at book kind receiver series)) n before (λ p _ h.
      floor_at-cong per_watt (cell_at cells) (grains_at book kind receiver series) p (λ k low high. ap (λ (l : List ℕ). cell_at l k) filled ∙ cell-is (grains_at book kind receiver series) n before k low (omega arith)))
