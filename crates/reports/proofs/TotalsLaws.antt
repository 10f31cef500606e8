-- All TOE01 files together carry the watts of all TOE02 files: a sum over providers and suppliers, in either order.
use Rattle.std.specs.Prelude.{◌≡◌, refl, Bool, ◌&&◌, ℕ, zero, suc}
use Rattle.std.proofs.Math.Path.{sym, ap}
use Rattle.std.proofs.Common.{◌∙◌, arith}
use Rattle.std.proofs.Math.Bool.{cond}
use mathlib.Core.List.Memᴰ
use mathlib.Core.List.{List, map, Memᴰ}
use Rattle.std.proofs.Math.Dec.{eqb}
use Rattle.integers.specs.Counts.{times}
use Rattle.integers.proofs.OnceLaws.{Once}
use Rattle.integers.specs.Sums.{naturals, sum_of}
use Rattle.integers.specs.Keep.{keep}
use Rattle.integers.proofs.KeepLaws.{mem-keep}
use Rattle.integers.proofs.AscendingLaws.{ascending-once}
use Rattle.book.specs.declared.Supply.{Supply}
use Rattle.book.specs.declared.Direction.{Direction}
use Rattle.book.specs.declared.Point.{Point}
use Rattle.book.specs.Book.{Book}
use Rattle.volumes.specs.Series.{Kind, Toe01, Toe02, receiver_of, partner_of, series_watts, series_of}
use Rattle.volumes.proofs.SeriesLaws.{pair-watts}
use Rattle.message.specs.Rows.{Row}
use Rattle.reports.specs.FileRows.{supply_number, delivery_number, is_taken, partner_numbers, directions, file_rows, observation_by}
use Rattle.reports.specs.Roles.{receivers}
use Rattle.reports.specs.Watts.{watts_of, directed_in, total_in}
use Rattle.reports.proofs.PointsLaws.{Inside, no-watts}
use Rattle.reports.proofs.CarryLaws.{nought, rows-sum}
use Rattle.integers.proofs.CountsLaws.{eqb-sym, times-mem}
use Rattle.integers.proofs.SumsLaws.{sum-zero, sum-all, sum-cong, sum-swap, sum-once, sum-absent}
use Rattle.reports.specs.FileRowsInner.{positions, observation_at}

-- a list that holds each number of a part once, and one that holds each of the whole: their sums are the same where the rest adds nothing
part-sum : (f : ℕ → ℕ) (l part m whole : List ℕ) → Once l part → Once m whole → ((x : ℕ) → Memᴰ x part → Memᴰ x whole) → ((x : ℕ) → times x l ≡ 0 → f x ≡ 0) → sum_of f l ≡ sum_of f m
part-sum f l part m whole o q sub rest =
    sum-cong naturals f (λ x. sum_of (λ y. cond (eqb x y) (f y) 0) m) l (λ x h. sym (sum-once naturals x f m (q.once x (sub x (o.only x h)))))
    ∙ sum-swap naturals (λ x y. cond (eqb x y) (f y) 0) l m
    ∙ sum-all naturals (λ y. sum_of (λ x. cond (eqb x y) (f y) 0) l) f m (λ y. sum-all naturals (λ x. cond (eqb x y) (f y) 0) (λ x. cond (eqb y x) (f y) 0) l (λ x. rw (eqb-sym x y)) ∙ one y (times y l) refl)
  where
    one : (y t : ℕ) → times y l ≡ t → sum_of (λ x. cond (eqb y x) (f y) 0) l ≡ f y
    one y zero e = sum-absent naturals y (λ _. f y) l e ∙ sym (rest y e)
    one y (suc t) e = sum-once naturals y (λ _. f y) l (o.once y (o.only y (times-mem y l (omega arith))))

-- a test on directions and position
abbrev row_test : (ℕ → ℕ → ℕ → Bool) → Row → Bool
row_test t r = t r.1.0.0 r.1.0.1 r.1.1.position

-- what it takes of one partner's series
side : Book → (ℕ → ℕ → ℕ → Bool) → Kind → ℕ → ℕ → ℕ
side book t kind receiver n = sum_of (λ (d : Supply × Direction). sum_of (λ p. cond (t (supply_number d.0) (delivery_number d.1) p) (series_watts book kind receiver (series_of n d.0 d.1) p) 0) (positions book)) directions

module _ (book : Book) (inside : Inside book) (t : ℕ → ℕ → ℕ → Bool) where
  -- a file, partner by partner
  file-side : (kind : Kind) (receiver : ℕ) → watts_of (row_test t) (file_rows book kind receiver) ≡ sum_of (side book t kind receiver) (partner_numbers book kind receiver)
  unfolding watts_of side observation_at observation_by series_watts
  file-side kind receiver = rows-sum book kind receiver (λ r. cond (row_test t r) r.1.1.watts 0) (λ r e. nought (row_test t r) e)

  -- a partner that the receiver doesn't have adds nothing
  no-side : (kind : Kind) (receiver n : ℕ) → times n (partner_numbers book kind receiver) ≡ 0 → side book t kind receiver n ≡ 0
  unfolding side
  no-side kind receiver n z =
      sum-all naturals _ (λ d. 0) directions (λ d.
      sum-all naturals _ (λ p. 0) (positions book) (λ p. nought (t (supply_number d.0) (delivery_number d.1) p) (no-watts book inside kind receiver (series_of n d.0 d.1) z p))
      ∙ sum-zero naturals (positions book))
      ∙ sum-zero naturals directions

  -- the partners of one side are receivers of the other
  file-all : (kind : Kind) (receiver : ℕ) (m : List ℕ) → Once m (map (partner_of kind) book.points) → watts_of (row_test t) (file_rows book kind receiver) ≡ sum_of (side book t kind receiver) m
  unfolding partner_numbers
  file-all kind receiver m o =
      file-side kind receiver
      ∙ part-sum (side book t kind receiver) (partner_numbers book kind receiver) (map (partner_of kind) (keep (is_taken kind receiver) book.points)) m (map (partner_of kind) book.points)
      (ascending-once (map (partner_of kind) (keep (is_taken kind receiver) book.points))) o
      (λ x h. sub x (Memᴰ.of_map (partner_of kind) (keep (is_taken kind receiver) book.points) h)) (no-side kind receiver)
    where
      sub : (x : ℕ) → (point : Point) × Memᴰ point (keep (is_taken kind receiver) book.points) × (partner_of kind point ≡ x) → Memᴰ x (map (partner_of kind) book.points)
      sub x (point, h, e) = Memᴰ.cast (sym e) (Memᴰ.map (partner_of kind) (mem-keep (is_taken kind receiver) book.points point h).0)

  same-side : (fsp supplier : ℕ) → side book t Toe01 fsp supplier ≡ side book t Toe02 supplier fsp
  unfolding side
  same-side fsp supplier =
      sum-all naturals _ _ directions (λ d.
      sum-all naturals _ _ (positions book) (λ p. ap (λ n. cond (t (supply_number d.0) (delivery_number d.1) p) n 0) (pair-watts book fsp supplier d.0 d.1 p)))

  pub totals-any : (fsps suppliers : List ℕ) → Once fsps (receivers book Toe01) → Once suppliers (receivers book Toe02)
      → sum_of (λ f. watts_of (row_test t) (file_rows book Toe01 f)) fsps ≡ sum_of (λ s. watts_of (row_test t) (file_rows book Toe02 s)) suppliers
  unfolding receivers receiver_of partner_of
  totals-any fsps suppliers o q =
      sum-all naturals (λ f. watts_of (row_test t) (file_rows book Toe01 f)) (λ f. sum_of (λ s. side book t Toe02 s f) suppliers) fsps (λ f. file-all Toe01 f suppliers q ∙ sum-all naturals (side book t Toe01 f) (λ s. side book t Toe02 s f) suppliers (same-side f))
      ∙ sum-swap naturals (λ f s. side book t Toe02 s f) fsps suppliers
      ∙ sum-all naturals (λ s. sum_of (λ f. side book t Toe02 s f) fsps) (λ s. watts_of (row_test t) (file_rows book Toe02 s)) suppliers (λ s. sym (file-all Toe02 s fsps o))

-- at a position in each supply and delivery direction, and over all
module _ (book : Book) (inside : Inside book) (fsps suppliers : List ℕ) (o : Once fsps (receivers book Toe01)) (q : Once suppliers (receivers book Toe02)) where
  pub directed-totals : (supply delivery p : ℕ) → sum_of (λ f. directed_in (file_rows book Toe01 f) supply delivery p) fsps ≡ sum_of (λ s. directed_in (file_rows book Toe02 s) supply delivery p) suppliers
  unfolding directed_in
  directed-totals supply delivery p = totals-any book inside (λ a b n. eqb supply a && (eqb delivery b && eqb p n)) fsps suppliers o q

  pub totals : (p : ℕ) → sum_of (λ f. total_in (file_rows book Toe01 f) p) fsps ≡ sum_of (λ s. total_in (file_rows book Toe02 s) p) suppliers
  unfolding total_in
  totals p = totals-any book inside (λ a b n. eqb p n) fsps suppliers o q
