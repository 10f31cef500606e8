-- A party stands in the register where it stands in a column of one of its rows; a register's parties are those of its book.
use Rattle.std.specs.Prelude.{◌≡◌, Bool, cond, ◌&&◌, ◌||◌, ℕ, zero, suc, ◌+◌, ◌≤◌, ◌<◌}
use Rattle.std.proofs.Math.Path.{refl, ap}
use Rattle.std.proofs.Common.{sym, ◌∙◌, add-one, zero-add}
use Rattle.std.proofs.Math.Bool.{true, false}
use mathlib.Core.List.Memᴰ
use mathlib.Core.List.{List, [], ◌∷◌, ◌++◌, flat_map, map, append-nil, map-append}
use Rattle.std.proofs.Math.Option.{none}
use native.Mathlib.Omega.{arith}
use Rattle.std.proofs.Math.Dec.{eqb, leb}
use borrow.Author.Tests.{eqb-true, eqb-false, eq-eqb, ne_eqb, leb-true, leb-false, le-leb, lt-leb}
use Rattle.integers.specs.Counts.{times, stands}
use Rattle.integers.specs.Ranges.{range}
use Rattle.integers.specs.First.{any_below}
use Rattle.book.specs.declared.Point.{Point}
use Rattle.book.specs.Register.{point_at}
use Rattle.book.specs.Book.{book_of}
use Rattle.book.specs.Header.{version_of, splits, register_section}
use Rattle.book.specs.Judged.{refusal_of}
use Rattle.volumes.specs.Sheets.{parties_of, parties}
use Rattle.settlement.specs.SectionsInner.{point_count_in}
use Rattle.settlement.specs.SectionsLaws.{points-counted}
use Rattle.sheets.specs.PartiesInner.{parties_to, parties_in, in_row}
use Rattle.integers.proofs.CountsLaws.{times-append, mem-times}
use Rattle.integers.proofs.RangesLaws.{range-more}
use Rattle.integers.proofs.ListsLaws.{flat_map-append}

-- in the columns of one point
module _ (version party : ℕ) (point : Point) where
  pub column-source : point.sourceparty ≡ party → stands party (parties_of version point) ≡ true
  unfolding stands parties_of
  column-source p = le-leb 1 (times party (parties_of version point)) (mem-times party (parties_of version point) (Memᴰ.head (sym p)))

  pub column-fsp : point.fspparty ≡ party → stands party (parties_of version point) ≡ true
  unfolding stands parties_of
  column-fsp p = le-leb 1 (times party (parties_of version point)) (mem-times party (parties_of version point) (Memᴰ.tail (Memᴰ.head (sym p))))

  -- in neither of the two, it has to stand in the third, which is one from version 2 on
  pub column-else : (point.sourceparty ≡ party → ⊥) → (point.fspparty ≡ party → ⊥) → stands party (parties_of version point) ≡ (splits version && eqb point.injectionparty party)
  unfolding stands parties_of times
  column-else p q = rw (ne_eqb party point.sourceparty (λ e. p (sym e)), ne_eqb party point.fspparty (λ e. q (sym e))) (go (splits version) (eqb point.injectionparty party) refl)
    where
      go : (t u : Bool) → eqb point.injectionparty party ≡ u → leb 1 (0 + (0 + times party (cond t (point.injectionparty ∷ []) []))) ≡ (t && u)
      go false u e = refl
      go true true e = rw (eq-eqb party point.injectionparty (sym (eqb-true point.injectionparty party e)))
      go true false e = rw (ne_eqb party point.injectionparty (λ f. eqb-false point.injectionparty party e (sym f)))

-- in those of the first i rows
module _ (version : ℕ) (register : List ℕ) where
  -- the parties of one row more
  to-next : (i : ℕ) → parties_to version register (suc i) ≡ parties_to version register i ++ parties_of version (point_at register i)
  unfolding parties_to flat_map
  to-next i =
      let p = point_at register in
      let e : 0 + i ≡ i = omega arith in
      ap (λ (n : ℕ). flat_map (parties_of version) (map p (range 0 n))) (sym (add-one i))
      ∙ ap (λ (l : List ℕ). flat_map (parties_of version) (map p l)) (range-more 0 i)
      ∙ ap (flat_map (parties_of version)) (map-append p (range 0 i) ((0 + i) ∷ []))
      ∙ flat_map-append (parties_of version) (map p (range 0 i)) (p (0 + i) ∷ [])
      ∙ ap (λ (l : List ℕ). parties_to version register i ++ l) (append-nil (parties_of version (p (0 + i))) ∙ ap (λ (n : ℕ). parties_of version (p n)) e)

  times-next : (party i : ℕ) → times party (parties_to version register (suc i)) ≡ times party (parties_to version register i) + times party (parties_of version (point_at register i))
  times-next party i = ap (times party) (to-next i) ∙ times-append party (parties_to version register i) (parties_of version (point_at register i))

  -- in one list behind the other, where in one of them
  one-of : (a b : ℕ) → leb 1 (a + b) ≡ (leb 1 a || leb 1 b)
  one-of zero b = ap (leb 1) (zero-add b)
  one-of (suc a) b = le-leb 1 (suc a + b) (omega arith) ∙ sym (ap (λ (t : Bool). t || leb 1 b) (le-leb 1 (suc a) (omega arith)))

  -- in the first n rows, where in one of them
  pub party-below : (party n : ℕ) → any_below (in_row version register party) n ≡ stands party (parties_to version register n)
  unfolding in_row stands any_below parties_to flat_map range times
  party-below party zero = refl
  party-below party (suc n) =
      ap (λ (t : Bool). t || stands party (parties_of version (point_at register n))) (party-below party n)
      ∙ sym (ap (leb 1) (times-next party n) ∙ one-of (times party (parties_to version register n)) (times party (parties_of version (point_at register n))))

-- the parties of the register of a book that passes refusals 1 to 7
pub parties-are : (bytes : List ℕ) → refusal_of bytes ≡ none → parties_in (version_of bytes) (register_section bytes) ≡ parties (book_of bytes)
unfolding parties book_of parties_to
parties-are bytes h = rw (points-counted bytes h)
