-- A file has at most as many observations as its book has settlement rows: where a series has watts at a position, one of its engagements
-- covers it, and an engagement is of one series at most. So the file that a book gives is at most `file_most` bytes long.
use Rattle.std.specs.Prelude.{◌≡◌, Bool, ◌&&◌, ℕ, zero, suc, ◌+◌, ◌-◌, ◌*◌, ◌/◌, ◌≤◌, leb}
use Rattle.std.proofs.Math.Path.{refl}
use Rattle.std.proofs.Common.{◌∙◌, lt-ltb, leb-true, ltb-true}
use Rattle.std.proofs.Math.Bool.{true, false, cond}
use mathlib.Core.List.{List, [], ◌∷◌, map, flat_map}
use Rattle.std.proofs.Math.Option.{Option, none}
use Rattle.std.proofs.Math.Dec.{eqb, ltb}
use Rattle.std.proofs.Math.ListN.{length}
use native.Mathlib.Omega.{arith}
use Rattle.integers.specs.Counts.{times}
use Rattle.integers.specs.Ranges.{range}
use Rattle.integers.specs.Running.{up_to, floor_at}
use Rattle.integers.specs.Sums.{naturals, sum_by, sum_of}
use Rattle.integers.specs.All.{All}
use Rattle.integers.specs.Keep.{keep}
use Rattle.integers.specs.Ascending.{ascending}
use Rattle.integers.proofs.AscendingLaws.{ascending-once}
use Rattle.grains.specs.Grains.{per_watt}
use Rattle.book.specs.declared.Supply.{Supply}
use Rattle.book.specs.declared.Supply.TheVariants.{OffTake, Injection}
use Rattle.book.specs.declared.Direction.{Direction}
use Rattle.book.specs.declared.Direction.TheVariants.{Up, Down}
use Rattle.book.specs.declared.Point.{Point}
use Rattle.book.specs.declared.Engagement.{Engagement}
use Rattle.refusals.specs.Refusals.{Refusal}
use Rattle.refusals.specs.Sent.{says}
use Rattle.book.specs.Book.{Book, book_of}
use Rattle.quarters.specs.Quarters.{month_quarters}
use Rattle.volumes.specs.Baseline.{point_of}
use Rattle.volumes.specs.Settlement.{delivered, row_count, book_refusal}
use Rattle.volumes.specs.SoundInner.{Sound}
use Rattle.refusals.specs.RefusalsLaws.{not_first}
use Rattle.volumes.proofs.SoundLaws.{sound}
use Rattle.volumes.specs.Sheets.{start_position, covers, quarter_at}
use Rattle.volumes.specs.declared.Series.{Series}
use Rattle.volumes.specs.Series.{Kind, takes, receiver_of, partner_of, same_supply, same_direction, is_point, is_engagement, grains_of, grains_at, series_watts, series_of}
use Rattle.volumes.proofs.SettlementLaws.{passing}
use Rattle.message.specs.Contents.{Partner}
use Rattle.message.specs.Valid.{IsPartner}
use Rattle.message.specs.Group.{spread}
use Rattle.message.specs.Rows.{Row, series_rows, partner_rows, rows_of}
use Rattle.message.proofs.SizeLaws.{file-most}
use Rattle.reports.specs.RegisteredInner.{Registered}
use Rattle.reports.proofs.RegisteredLaws.{registered}
use Rattle.reports.specs.FileRows.{is_taken, partner_numbers, directions, partners_of, file_of, file_text, file_rows, observation_by}
use Rattle.reports.proofs.CarryLaws.{row_at, rows-sum}
use Rattle.reports.proofs.FormLaws.{partners-few, partners-valid, file-valid}
use Rattle.series.specs.VolumesLaws.{volumes-most}
use Rattle.reports.specs.Calls.{text_of, file_refusal, file_answer}
use Rattle.reports.proofs.CallsLaws.{kind-is, InForm, file-in-form}
use Rattle.reports.specs.Demand3.{is_file}
use Rattle.kinds.specs.Numbers.{kind_numbered, kind_number}
use Rattle.kinds.specs.NumbersLaws.{kind-numbered}
use Rattle.toe_c.specs.FileSizeInner.{file_most}
use Rattle.integers.proofs.AllLaws.{all_map, all_of_map, all_append}
use Rattle.integers.proofs.CountsLaws.{times-mem}
use Rattle.integers.proofs.SumsLaws.{sum-zero, sum-all, sum-swap, sum-once, sum-absent}
use Rattle.reports.specs.FileRowsInner.{positions, observation_at}

-- ---- sums

sum-under : {A : Type 0} (f g : A → ℕ) (l : List A) → ((a : A) → f a ≤ g a) → sum_of f l ≤ sum_of g l
unfolding sum_by
sum-under f g [] h = omega arith
sum-under f g (a ∷ l) h = let i : sum_of f l ≤ sum_of g l = sum-under f g l h in omega (arith, h a)

-- a sum that isn't 0, of terms that are 0 where others are
sum-some : {A : Type 0} (f g : A → ℕ) (l : List A) → ((a : A) → 1 ≤ f a → 1 ≤ g a) → 1 ≤ sum_of f l → 1 ≤ sum_of g l
unfolding sum_by
sum-some f g [] h k = absurd (omega arith)
sum-some f g (a ∷ l) h k = go (f a) refl k (sum-some f g l h)
  where
    go : (n : ℕ) → f a ≡ n → 1 ≤ n + sum_of f l → (1 ≤ sum_of f l → 1 ≤ sum_of g l) → 1 ≤ g a + sum_of g l
    go zero e k i = omega (arith, i (omega arith))
    go (suc n) e k i = omega (arith, h a (omega arith))

sum_ones : {A : Type 0} (f : A → ℕ) (l : List A) → All (λ a. f a ≡ 1) l → sum_of f l ≡ length l
unfolding sum_by All
sum_ones f [] h = refl
sum_ones f (a ∷ l) h = let i : sum_of f l ≡ length l = sum_ones f l h.1 in omega (arith, h.0)

-- ---- every row of a valid file has watts

all-spread : {B K A : Type 0} (P : K × A → Type 0) (f : B → K × List A) (l : List B) → All (λ b. All (λ a. P ((f b).0, a)) (f b).1) l → All P (spread (map f l))
unfolding All spread flat_map
all-spread P f [] h = tt
all-spread P f (b ∷ l) h = all_append P (map (λ a. ((f b).0, a)) (f b).1) (spread (map f l)) (all_of_map P (λ a. ((f b).0, a)) (f b).1 h.0) (all-spread P f l h.1)

-- 1 for a row with watts
abbrev one : Row → ℕ
one r = cond (ltb 0 r.1.1.watts) 1 0

rows-ones : (kind : Kind) (l : List Partner) → All (IsPartner kind) l → All (λ r. one r ≡ 1) (rows_of l)
unfolding rows_of
rows-ones kind l v =
    all-spread (λ r. one r ≡ 1) partner_rows l
    (all_map (λ p i. all-spread (λ a. one (p.number, a) ≡ 1) series_rows p.series
    (all_map (λ s j. all_map (λ o k. rw (lt-ltb 0 o.watts k.some)) s.observations j.volume.each) p.series i.each)) l v)

-- ---- watts at a position come from an engagement that covers it

floor-some : (n : ℕ) (g : ℕ → ℕ) (p : ℕ) → 1 ≤ floor_at n g p → 1 ≤ g p
unfolding floor_at up_to
floor-some n g zero h = absurd (omega arith)
floor-some n g (suc p) h = go (g (suc p)) refl h
  where
    go : (k : ℕ) → g (suc p) ≡ k → 1 ≤ (up_to g p + k) / n - up_to g p / n → 1 ≤ g (suc p)
    go zero e h = let z : up_to g p + 0 ≡ up_to g p = omega arith in let h' = rw z at h in absurd (omega arith)
    go (suc k) e h = omega arith

module _ (book : Book) (kind : Kind) (receiver : ℕ) where
  -- 1 where the engagement is one of the series' and covers the position
  abbrev hit : Series → ℕ → Engagement → ℕ
  hit s p e = cond (is_engagement book kind receiver s e && covers book.calendar e p) 1 0

  grain-hit : (s : Series) (p : ℕ) (e : Engagement) → 1 ≤ grains_of book kind receiver s p e → 1 ≤ hit s p e
  unfolding grains_of
  grain-hit s p e h = go (is_engagement book kind receiver s e && covers book.calendar e p) h
    where
      go : (b : Bool) → 1 ≤ cond b (delivered book e (quarter_at book.calendar e p)) 0 → 1 ≤ cond b 1 0
      go true h = omega arith
      go false h = h

  watts-hit : (s : Series) (p : ℕ) → cond (ltb 0 (series_watts book kind receiver s p)) 1 0 ≤ sum_of (hit s p) book.engagements
  unfolding series_watts grains_at
  watts-hit s p = go (ltb 0 (series_watts book kind receiver s p)) refl
    where
      go : (b : Bool) → ltb 0 (series_watts book kind receiver s p) ≡ b → cond b 1 0 ≤ sum_of (hit s p) book.engagements
      go true e = sum-some (grains_of book kind receiver s p) (hit s p) book.engagements (grain-hit s p) (floor-some per_watt (grains_at book kind receiver s) p (ltb-true 0 (series_watts book kind receiver s p) e))
      go false e = omega arith

-- ---- an engagement covers as many positions as it has quarter-hours, and is of one series at most

cover-count : (start count a n : ℕ)
    → (sum_of (λ p. cond (leb start p && ltb p (start + count)) 1 0) (range a n) ≤ count) × (sum_of (λ p. cond (leb start p && ltb p (start + count)) 1 0) (range a n) ≤ start + count - a)
unfolding sum_by range
cover-count start count a zero = (omega arith, omega arith)
cover-count start count a (suc n) = go (leb start a) refl (ltb a (start + count)) refl (sum_of (λ p. cond (leb start p && ltb p (start + count)) 1 0) (range (suc a) n)) (cover-count start count (suc a) n)
  where
    go : (b : Bool) → leb start a ≡ b → (c : Bool) → ltb a (start + count) ≡ c → (rest : ℕ) → (rest ≤ count) × (rest ≤ start + count - suc a)
        → (cond (b && c) 1 0 + rest ≤ count) × (cond (b && c) 1 0 + rest ≤ start + count - a)
    go true e true f rest i = let x = leb-true start a e in let y = ltb-true a (start + count) f in (omega (arith, i.1), omega (arith, i.1))
    go true e false f rest i = (omega (arith, i.0), omega (arith, i.1))
    go false e c f rest i = (omega (arith, i.0), omega (arith, i.1))

-- the tests of an engagement, without those on situation and receiver
six : (t r q u v c : Bool) → cond (((t && (r && (q && u))) && v) && c) 1 0 ≤ cond q (cond (u && v) (cond c 1 0) 0) 0
six false r q u v c = omega arith
six true false q u v c = omega arith
six true true false u v c = omega arith
six true true true false v c = omega arith
six true true true true false c = omega arith
six true true true true true c = omega arith

four : (u : Supply) (v : Direction) (n : ℕ) → sum_of (λ (d : Supply × Direction). cond (same_supply u d.0 && same_direction v d.1) n 0) directions ≤ n
unfolding directions sum_by same_supply same_direction
four OffTake Up n = omega arith
four OffTake Down n = omega arith
four Injection Up n = omega arith
four Injection Down n = omega arith

-- a partner stands once
once-most : (x n : ℕ) (column : List ℕ) → sum_of (λ y. cond (eqb x y) n 0) (ascending column) ≤ n
once-most x n column = go (times x (ascending column)) refl
  where
    go : (t : ℕ) → times x (ascending column) ≡ t → sum_of (λ y. cond (eqb x y) n 0) (ascending column) ≤ n
    go zero f = omega (arith, sum-absent naturals x (λ _. n) (ascending column) f)
    go (suc t) f = let o = ascending-once column in omega (arith, sum-once naturals x (λ _. n) (ascending column) (o.once x (o.only x (times-mem x (ascending column) (omega arith)))))

module _ (book : Book) (kind : Kind) (receiver : ℕ) (e : Engagement) where
  abbrev point : Point
  point = point_of book e

  position-most : (n : ℕ) (d : Supply × Direction)
      → sum_of (λ p. hit book kind receiver (series_of n d.0 d.1) p e) (positions book)
      ≤ cond (eqb (partner_of kind point) n) (cond (same_supply point.supply d.0 && same_direction e.direction d.1) e.count 0) 0
  unfolding is_engagement is_point positions covers
  position-most n d =
      let q = eqb (partner_of kind point) n in
      let u = same_supply point.supply d.0 in
      let v = same_direction e.direction d.1 in
      let start = start_position book.calendar e in
      let l = range 1 (month_quarters book.calendar) in
      let h : sum_of (λ p. hit book kind receiver (series_of n d.0 d.1) p e) l ≤ sum_of (λ p. cond q (cond (u && v) (cond (leb start p && ltb p (start + e.count)) 1 0) 0) 0) l
      = sum-under _ _ l (λ p. six (takes kind point.situation) (eqb (receiver_of kind point) receiver) q u v (leb start p && ltb p (start + e.count))) in
      omega (arith, h, both-tests q (u && v))
    where
      both-tests : (q u : Bool) → sum_of (λ p. cond q (cond u (cond (leb (start_position book.calendar e) p && ltb p (start_position book.calendar e + e.count)) 1 0) 0) 0) (range 1 (month_quarters book.calendar)) ≤ cond q (cond u e.count 0) 0
      both-tests true true = (cover-count (start_position book.calendar e) e.count 1 (month_quarters book.calendar)).0
      both-tests true false = omega (arith, sum-zero naturals (range 1 (month_quarters book.calendar)))
      both-tests false u = omega (arith, sum-zero naturals (range 1 (month_quarters book.calendar)))

  direction-most : (n : ℕ) → sum_of (λ (d : Supply × Direction). sum_of (λ p. hit book kind receiver (series_of n d.0 d.1) p e) (positions book)) directions ≤ cond (eqb (partner_of kind point) n) e.count 0
  direction-most n =
      let h : sum_of (λ (d : Supply × Direction). sum_of (λ p. hit book kind receiver (series_of n d.0 d.1) p e) (positions book)) directions
      ≤ sum_of (λ (d : Supply × Direction). cond (eqb (partner_of kind point) n) (cond (same_supply point.supply d.0 && same_direction e.direction d.1) e.count 0) 0) directions
      = sum-under _ _ directions (position-most n) in
      omega (arith, h, go (eqb (partner_of kind point) n))
    where
      go : (q : Bool) → sum_of (λ (d : Supply × Direction). cond q (cond (same_supply point.supply d.0 && same_direction e.direction d.1) e.count 0) 0) directions ≤ cond q e.count 0
      go true = four point.supply e.direction e.count
      go false = omega (arith, sum-zero naturals directions)

  partner-most : sum_of (λ n. cond (eqb (partner_of kind point) n) e.count 0) (partner_numbers book kind receiver) ≤ e.count
  unfolding partner_numbers
  partner-most = once-most (partner_of kind point) e.count (map (partner_of kind) (keep (is_taken kind receiver) book.points))

  engagement-most : sum_of (λ n. sum_of (λ (d : Supply × Direction). sum_of (λ p. hit book kind receiver (series_of n d.0 d.1) p e) (positions book)) directions) (partner_numbers book kind receiver) ≤ e.count
  engagement-most =
      let h : sum_of (λ n. sum_of (λ (d : Supply × Direction). sum_of (λ p. hit book kind receiver (series_of n d.0 d.1) p e) (positions book)) directions) (partner_numbers book kind receiver)
      ≤ sum_of (λ n. cond (eqb (partner_of kind point) n) e.count 0) (partner_numbers book kind receiver)
      = sum-under _ _ (partner_numbers book kind receiver) direction-most in
      omega (arith, h, partner-most)

-- ---- so the rows of a file are at most the book's

module _ (book : Book) (kind : Kind) (receiver : ℕ) where
  abbrev hits : ℕ → Supply × Direction → ℕ → Engagement → ℕ
  hits n d p e = hit book kind receiver (series_of n d.0 d.1) p e

  by-engagement : sum_of (λ n. sum_of (λ d. sum_of (λ p. sum_of (λ e. hits n d p e) book.engagements) (positions book)) directions) (partner_numbers book kind receiver)
      ≡ sum_of (λ e. sum_of (λ n. sum_of (λ d. sum_of (λ p. hits n d p e) (positions book)) directions) (partner_numbers book kind receiver)) book.engagements
  by-engagement =
      sum-all naturals _ (λ n. sum_of (λ e. sum_of (λ d. sum_of (λ p. hits n d p e) (positions book)) directions) book.engagements) (partner_numbers book kind receiver) (λ n.
      sum-all naturals _ (λ d. sum_of (λ e. sum_of (λ p. hits n d p e) (positions book)) book.engagements) directions (λ d. sum-swap naturals (λ p e. hits n d p e) (positions book) book.engagements)
      ∙ sum-swap naturals (λ d e. sum_of (λ p. hits n d p e) (positions book)) directions book.engagements)
      ∙ sum-swap naturals (λ n e. sum_of (λ d. sum_of (λ p. hits n d p e) (positions book)) directions) (partner_numbers book kind receiver) book.engagements

  pub rows_few : Sound book → Registered book → length (file_rows book kind receiver) ≤ row_count book
  unfolding row_count file_rows observation_at observation_by series_watts
  rows_few s r =
      let counted : sum_of one (file_rows book kind receiver) ≡ length (file_rows book kind receiver) = sum_ones one (file_rows book kind receiver) (rows-ones kind (partners_of book kind receiver) (partners-valid book s r kind receiver)) in
      let parted : sum_of one (file_rows book kind receiver) ≡ sum_of (λ n. sum_of (λ d. sum_of (λ p. one (row_at book kind receiver n d p)) (positions book)) directions) (partner_numbers book kind receiver)
      = rows-sum book kind receiver one (λ r e. rw e) in
      let covered : sum_of (λ n. sum_of (λ d. sum_of (λ p. one (row_at book kind receiver n d p)) (positions book)) directions) (partner_numbers book kind receiver)
      ≤ sum_of (λ n. sum_of (λ d. sum_of (λ p. sum_of (λ e. hits n d p e) book.engagements) (positions book)) directions) (partner_numbers book kind receiver)
      = sum-under _ _ (partner_numbers book kind receiver) (λ n. sum-under _ _ directions (λ d. sum-under _ _ (positions book) (λ p. watts-hit book kind receiver (series_of n d.0 d.1) p))) in
      let most : sum_of (λ e. sum_of (λ n. sum_of (λ d. sum_of (λ p. hits n d p e) (positions book)) directions) (partner_numbers book kind receiver)) book.engagements ≤ sum_of (λ e. e.count) book.engagements
      = sum-under _ _ book.engagements (λ e. engagement-most book kind receiver e) in
      omega (arith, counted, parted, covered, by-engagement, most)

-- ---- and its bytes

file-answered : (x : Option Refusal) (m n : ℕ) → x ≡ none → is_file (says x (m, n)) ≡ true
unfolding is_file
file-answered x m n e = rw e

module _ (bytes : List ℕ) (kind : Kind) (receiver : ℕ) (id moment : List ℕ) where
  -- by the book's own rows, of a file that was asked for in role and form
  pub file-by-rows : book_refusal bytes ≡ none → InForm (book_of bytes) kind receiver id moment → length (file_text (book_of bytes) kind receiver id moment) ≤ 453166 + 86 * row_count (book_of bytes)
  unfolding file_text file_of file_rows
  file-by-rows e f =
      let s = sound bytes (passing bytes e).passed in
      let r = registered bytes (passing bytes e).passed in
      omega (
        arith,
        file-most (file_of (book_of bytes) kind receiver id moment) (file-valid (book_of bytes) s r kind receiver id moment f.role f.named f.timed),
        partners-few (book_of bytes) kind receiver r,
        rows_few (book_of bytes) kind receiver s r,
      )

  -- so a buffer of `file_most` bytes fits any file
  pub file-fits : book_refusal bytes ≡ none → InForm (book_of bytes) kind receiver id moment → length (file_text (book_of bytes) kind receiver id moment) ≤ file_most
  file-fits e f = omega (arith, file-by-rows e f, volumes-most bytes e)

-- of any file call that is accepted
module _ (bytes : List ℕ) (number receiver : ℕ) (id moment : List ℕ) (rows_lent file_lent : ℕ) where
  few-of : (kind : Kind) → number ≡ kind_number kind → file_refusal bytes number receiver id moment rows_lent file_lent ≡ none → length (text_of (book_of bytes) (kind_numbered number) receiver id moment) ≤ file_most
  unfolding file_refusal file_answer text_of
  few-of kind k e =
      let b = not_first (book_refusal bytes) _ e in
      let e' : file_refusal bytes (kind_number kind) receiver id moment rows_lent file_lent ≡ none = rw (← k) e in
      let f = file-in-form bytes kind receiver id moment rows_lent file_lent (file-answered (file_refusal bytes (kind_number kind) receiver id moment rows_lent file_lent) _ _ e') in
      rw (k, kind-numbered kind) (file-fits bytes kind receiver id moment b f)

  pub file-few : file_refusal bytes number receiver id moment rows_lent file_lent ≡ none → length (text_of (book_of bytes) (kind_numbered number) receiver id moment) ≤ file_most
  unfolding file_answer
  file-few e = let k = kind-is bytes number receiver id moment rows_lent file_lent (file-answered (file_refusal bytes number receiver id moment rows_lent file_lent) _ _ e) in few-of k.0 k.1 e
