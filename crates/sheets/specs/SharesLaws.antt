-- What a party gets of three corrections, by the columns in which it stands.
use Rattle.std.specs.Prelude.{◌≡◌, Bool, true, false, cond, eqb, pos, ◌+ℤ◌, get_or}
use Rattle.std.proofs.Common.{ap, ◌∙◌, arith, SFits}
use mathlib.Core.List.{List, [], ◌∷◌, zip, zip_with}
use Prim.Native.Nat.{ℕ, ◌+◌, ◌<◌}
use Rattle.std.proofs.Math.IntN.{ℤ, +ℤ_idr}
use Rattle.std.proofs.Math.ListN.{length, length-map}
use Rattle.std.specs.Int.{w64}
use Rattle.integers.specs.Ranges.{range}
use Rattle.integers.specs.Sums.{sum_by}
use Rattle.integers.proofs.ZLaws.{eq_z, sum}
use Rattle.book.specs.declared.Point.{Point}
use Rattle.book.specs.Header.{splits}
use Rattle.volumes.specs.Sheets.{parties_of, share_of}
use Rattle.volumes.specs.SoundInner.{Bounded}
use Rattle.volumes.proofs.WidthsLaws.{bounded-zero}
use Rattle.sheets.specs.AddsInner.{adds, Addable}
use Rattle.sheets.specs.AddsLaws.{adds-next, adds-behind}
use Rattle.sheets.specs.SharesInner.{gets, gets_at, gets_of}
use Rattle.integers.proofs.RangesLaws.{length-range, get_d-made}

-- three summands and 0, regrouped
thrice : (a b c : ℤ) → a +ℤ (b +ℤ (c +ℤ pos 0)) ≡ a +ℤ b +ℤ c
thrice a b c = eq_z _ _ (omega (arith, (sum c (pos 0)).law, (sum b (c +ℤ pos 0)).law, (sum a (b +ℤ (c +ℤ pos 0))).law, (sum a b).law, (sum (a +ℤ b) c).law))

-- a column's correction, if the party stands in it
abbrev pub pick : ℕ → ℕ → ℤ → ℤ
pick column party z = cond (eqb column party) z (pos 0)

module _ (version party : ℕ) (point : Point) (source fsp injection : ℤ) where
  pub gets-two : splits version ≡ false → gets version party point source fsp injection ≡ pick point.sourceparty party source +ℤ pick point.fspparty party fsp
  unfolding gets share_of parties_of zip zip_with sum_by
  gets-two h = rw h (ap (λ (z : ℤ). pick point.sourceparty party source +ℤ z) (+ℤ_idr (pick point.fspparty party fsp)))

  pub gets-three : splits version ≡ true → gets version party point source fsp injection ≡ pick point.sourceparty party source +ℤ pick point.fspparty party fsp +ℤ pick point.injectionparty party injection
  unfolding gets share_of parties_of zip zip_with sum_by
  gets-three h = rw h (thrice (pick point.sourceparty party source) (pick point.fspparty party fsp) (pick point.injectionparty party injection))

-- what is picked is no larger
pub pick-bounded : {n : ℕ} {z : ℤ} (column party : ℕ) → Bounded n z → Bounded n (pick column party z)
pick-bounded {n} {z} column party h = go (eqb column party)
  where
    go : (b : Bool) → Bounded n (cond b z (pos 0))
    go true = h
    go false = bounded-zero

module _ (version party : ℕ) (point : Point) (rows : List ℤ) where
  -- of so many rows so many shares, and the k-th of them
  pub gets-length : (count : ℕ) → length (gets_of version party point rows count) ≡ count
  unfolding gets_of
  gets-length count = length-map (range 0 count) _ ∙ length-range 0 count

  -- one row more
  pub gets-next : (l : List ℤ) (at k place : ℕ) → place ≡ at + k → adds (adds l at (gets_of version party point rows k)) place (gets_at version party point rows k ∷ []) ≡ adds l at (gets_of version party point rows (k + 1))
  unfolding gets_of
  gets-next l at k place e = rw e (adds-next l at (gets_at version party point rows) k)

  -- the next cell is as it was
  pub gets-fits : (l : List ℤ) (at count k place : ℕ) → place ≡ at + k → Addable l at (gets_of version party point rows count) → k < count → SFits w64 (get_or (adds l at (gets_of version party point rows k)) place (pos 0) +ℤ gets_at version party point rows k)
  unfolding gets_of
  gets-fits l at count k place e h q =
      let f : ℕ → ℤ = gets_at version party point rows in
      let n : length (gets_of version party point rows k) ≡ k = gets-length k in
      let m : length (gets_of version party point rows count) ≡ count = gets-length count in
      rw (e, adds-behind l at (gets_of version party point rows k) (at + k) (omega arith), ← get_d-made f count k (pos 0) q)
      (h.fits k (omega arith))
