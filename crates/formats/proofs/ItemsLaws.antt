-- Of so many items, one item on: nothing is left, an item that isn't there ends them, and one that is there stands before those that are still to be read.
use Rattle.std.specs.Prelude.{◌≡◌, List, [], ◌∷◌}
use Rattle.std.proofs.Math.Path.{ap}
use Rattle.std.proofs.Common.{◌∙◌}
use Prim.Native.Nat.{ℕ, suc, ◌+◌, ◌-◌, ◌≤◌, ◌<◌}
use native.Mathlib.Omega.{arith}
use Rattle.formats.specs.Format.{got, bad, Format, bind, ends}
use Rattle.formats.specs.Items.{repeat_parse, items_parse}
use Rattle.formats.proofs.BindLaws.{ends-bind}

module _ {A S : Type 0} (F : S → Format A) (next : S → A → S) (n i : ℕ) (st : S) (s : List ℕ) where
  pub items-end : n ≤ i → items_parse F next (n - i) st s ≡ got [] s
  unfolding repeat_parse
  items-end h = let e : n - i ≡ 0 = omega arith in rw e

  pub items-bad : i < n → (F st).parse s ≡ bad → items_parse F next (n - i) st s ≡ bad
  unfolding repeat_parse
  items-bad h f = let e : n - i ≡ suc (n - (i + 1)) = omega arith in rw (e, f)

  pub items-step : (a : A) (r : List ℕ) → i < n → (F st).parse s ≡ got a r
      → items_parse F next (n - i) st s ≡ bind (items_parse F next (n - (i + 1)) (next st a) r) (λ xs q. got (a ∷ xs) q)
  unfolding repeat_parse
  items-step a r h f = let e : n - i ≡ suc (n - (i + 1)) = omega arith in rw (e, f)

  pub ends-step : (a : A) (r : List ℕ) → i < n → (F st).parse s ≡ got a r
      → ends (items_parse F next (n - i) st s) ≡ ends (items_parse F next (n - (i + 1)) (next st a) r)
  ends-step a r h f = ap ends (items-step a r h f) ∙ ends-bind (λ xs. a ∷ xs) (items_parse F next (n - (i + 1)) (next st a) r)
