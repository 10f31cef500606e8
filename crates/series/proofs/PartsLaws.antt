-- Numbers added to a part of the cells, `&mut grains[a..e]`, are added to the cells from its place on; and what a turn of the engagements adds fits.
use Rattle.std.specs.Prelude.{◌≡◌, refl, List, ◌++◌, map, ℕ, zero, suc, ◌+◌, ◌-◌, ◌*◌, ◌^◌, ◌≤◌, ◌<◌, length, get_or, take, drop, set}
use Rattle.std.proofs.Common.{sym, ap, ap₂, ◌∙◌, arith, append-nil, length-drop}
use Rattle.std.proofs.Math.Bool.{cond}
use Rattle.std.proofs.Math.Seq.{length-take-le}
use Rattle.std.proofs.lemmas.List.{drop_all, get_or-take, get_or-drop}
use borrow.Rule.Slice.PartMut.{put_mid, mid_of, put_same}
use Rattle.integers.specs.Ranges.{range}
use Rattle.integers.specs.Running.{floor_at}
use Rattle.integers.proofs.RunningLaws.{floor_at-cong}
use Rattle.grains.specs.Grains.{per_watt}
use Rattle.quarters.specs.declared.Calendar.{Calendar}
use Rattle.quarters.specs.Quarters.{month_quarters}
use Rattle.quarters.specs.QuartersInner.{cell_of}
use Rattle.quarters.proofs.QuartersLaws.{cell-position}
use Rattle.book.specs.declared.Engagement.{Engagement}
use Rattle.book.specs.Register.{point_at}
use Rattle.book.specs.Engagements.{engagement_at}
use Rattle.book.specs.Book.{Book}
use Rattle.volumes.specs.Baseline.{point_of}
use Rattle.volumes.specs.Sheets.{start_position}
use Rattle.volumes.specs.declared.Series.{Series}
use Rattle.volumes.specs.Series.{Kind, is_engagement}
use Rattle.settlement.specs.SectionsInner.{engagement_count_in}
use Rattle.settlement.specs.PartsLaws.{row_count_to}
use Rattle.settlement.proofs.PartWritesLaws.{set-part}
use Rattle.series.specs.SumsInner.{by_position, cell_at, grains_to, added, VolumesAddable, Parts}
use Rattle.series.specs.SumsLaws.{by-cong, added-length, added-cong, turn-adds, turn-sums}

added-part : (l : List ℕ) (a k : ℕ) (v : ℕ → ℕ) (n : ℕ) → a + k ≤ length l → n ≤ k → put_mid a k l (added (mid_of a k l) 0 v n) ≡ added l a v n
unfolding added
added-part l a k v zero h m = put_same a k l
added-part l a k v (suc n) h m =
    let part = added (mid_of a k l) 0 v n in
    let long : length part ≡ k = added-length (mid_of a k l) 0 v n ∙ length-take-le k (drop a l) (omega (arith, length-drop a l)) in
    let cell : get_or (mid_of a k l) n 0 ≡ get_or l (a + n) 0 = get_or-take k (drop a l) n 0 (omega arith) ∙ get_or-drop a l n 0 in
    let z : 0 + n ≡ n = omega arith in
    rw z
    (set-part a k n (get_or (mid_of a k l) n 0 + v n) l part long h (omega arith)
    ∙ ap₂ (λ (m : List ℕ) (x : ℕ). set m (a + n) (x + v n)) (added-part l a k v n h (omega arith)) cell)

-- volumes that can be added to cells from a place on can be added to the part of the cells that lies there
module _ (grains volumes : List ℕ) (first at n m k : ℕ) (cells : m ≡ n) (given : k ≡ n) (fits : VolumesAddable grains first volumes at n) where
  cells-long : length (mid_of first m grains) ≡ n
  cells-long = length-take-le m (drop first grains) (omega (arith, length-drop first grains, fits.cells)) ∙ cells

  given-long : length (mid_of at k volumes) ≡ n
  given-long = length-take-le k (drop at volumes) (omega (arith, length-drop at volumes, fits.given)) ∙ given

  given-is : (j : ℕ) → j < n → get_or (mid_of at k volumes) j 0 ≡ get_or volumes (at + j) 0
  given-is j h = get_or-take k (drop at volumes) j 0 (omega arith) ∙ get_or-drop at volumes j 0

  cell-is-part : (j : ℕ) → j < n → get_or (mid_of first m grains) j 0 ≡ get_or grains (first + j) 0
  cell-is-part j h = get_or-take m (drop first grains) j 0 (omega arith) ∙ get_or-drop first grains j 0

  pub part-addable : VolumesAddable (mid_of first m grains) 0 (mid_of at k volumes) 0 (length (mid_of first m grains))
  part-addable =
      record {
        cells = omega arith;
        given = omega (arith, cells-long, given-long);
        fits = λ j h. let z : 0 + j ≡ j = omega arith in
            let q : j < n = omega (arith, cells-long) in
            rw (z, cell-is-part j q, given-is j q) (fits.fits j q);
      }

  pub part-added : (part : List ℕ) → part ≡ added (mid_of first m grains) 0 (λ j. get_or (mid_of at k volumes) j 0) (length (mid_of first m grains))
      → put_mid first m grains part ≡ added grains first (λ j. get_or volumes (at + j) 0) n
  part-added part e =
      let v : ℕ → ℕ = λ j. get_or (mid_of at k volumes) j 0 in
      let w : ℕ → ℕ = λ j. get_or volumes (at + j) 0 in
      ap (put_mid first m grains) (e ∙ ap (added (mid_of first m grains) 0 v) cells-long ∙ added-cong (mid_of first m grains) 0 v w n given-is)
      ∙ added-part grains first m w n (omega (arith, fits.cells)) (omega arith)

-- an engagement read, its rows in the series and its first cell: its volumes can be added, and their sums are those of one more
module _ {c : Calendar} {register engagements volumes : List ℕ} {book : Book} (p : Parts c register engagements volumes book) (kind : Kind) (receiver : ℕ) (series : Series) (i at own first : ℕ) (before grains : List ℕ) (e : Engagement)
    (inside : i < engagement_count_in engagements)
    (read : e ≡ engagement_at engagements i)
    (rows : (b : Book) → point_of b e ≡ point_at register e.point → own ≡ cond (is_engagement b kind receiver series e) e.count 0)
    (cell : first ≡ cell_of c e.day e.first)
    (place : at ≡ row_count_to engagements i)
    (room : month_quarters c ≤ length before)
    (held : grains ≡ by_position (grains_to book kind receiver series i) (month_quarters c) before) where
  own_is : own ≡ cond (is_engagement book kind receiver series (engagement_at engagements i)) (engagement_at engagements i).count 0
  own_is = rows book (rw read (p.owner i inside)) ∙ ap (λ (f : Engagement). cond (is_engagement book kind receiver series f) f.count 0) read

  first-is : first + 1 ≡ start_position c (engagement_at engagements i)
  first-is =
      let one : first + 1 ≡ start_position c e = omega (arith, cell, cell-position c e.day e.first) in
      one ∙ ap (start_position c) read

  pub turn-fits : VolumesAddable grains first volumes at own
  turn-fits = turn-adds p kind receiver series i at own first before grains inside place own_is first-is room held

  pub turn-is : added grains first (λ k. get_or volumes (at + k) 0) own ≡ by_position (grains_to book kind receiver series (i + 1)) (month_quarters c) before
  turn-is = turn-sums p kind receiver series i at own first before grains inside place own_is first-is room held

-- ---- watts by position

-- all positions
pub by-whole : (f : ℕ → ℕ) (l : List ℕ) (n : ℕ) → n ≡ length l → by_position f n l ≡ map f (range 1 (length l))
by-whole f l n e = ap (λ (k : ℕ). by_position f k l) e ∙ ap (λ (t : List ℕ). map f (range 1 (length l)) ++ t) (drop_all (length l) l (omega arith)) ∙ append-nil (map f (range 1 (length l)))

cell-in-part : (n : ℕ) (l : List ℕ) (p : ℕ) → 1 ≤ p → p ≤ n → cell_at (take n l) p ≡ cell_at l p
cell-in-part n l zero h k = absurd (omega arith)
cell-in-part n l (suc p) h k = get_or-take n l p 0 (omega arith)

-- the first n cells made watts by themselves
pub part-watts : (cells : List ℕ) (n : ℕ) → n ≤ length cells → map (floor_at per_watt (cell_at (take n cells))) (range 1 (length (take n cells))) ++ drop n cells ≡ by_position (floor_at per_watt (cell_at cells)) n cells
part-watts cells n h =
    let f = floor_at per_watt (cell_at (take n cells)) in
    ap (λ (k : ℕ). map f (range 1 k) ++ drop n cells) (length-take-le n cells h)
    ∙ by-cong f (floor_at per_watt (cell_at cells)) n cells (λ p _ few. floor_at-cong per_watt (cell_at (take n cells)) (cell_at cells) p (λ k low high. cell-in-part n cells k low (omega arith)))
