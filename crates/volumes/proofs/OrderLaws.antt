-- The order of ℤ as omega reads it, and the greater of two numbers.
use Rattle.std.specs.Prelude.{◌≡◌, refl, Bool, true, false, cond, ◌+◌, ◌≤◌, ◌<◌, ℤ, ◌+ℤ◌, ◌≤ℤ◌}
use Rattle.std.proofs.Common.{sym, ◌∙◌, arith}
use Rattle.std.specs.Int.Signed.{le_z}
use Rattle.integers.proofs.ZLaws.{up, dn, one-0, eq_z, sum, le_z-of, le_yes, le-no}

pub record Le (a b : ℤ) : Type 0 where
  pub law : up a + dn b ≤ up b + dn a

-- the library's order
pub le-library : {a b : ℤ} → Le a b → a ≤ℤ b
le-library {a} {b} h = record { le = le_z-of a b h.law }

pub le_refl : (a : ℤ) → Le a a
le_refl a = record { law = omega arith }

pub le_trans : {a b c : ℤ} → Le a b → Le b c → Le a c
le_trans {a} {b} {c} p q = record { law = omega (arith, one-0 b) }

pub le-of-no : (a b : ℤ) → le_z a b ≡ false → Le b a
le-of-no a b e = let h : up b + dn a < up a + dn b = le-no a b e in record { law = omega arith }

pub add-le : (a b c d : ℤ) → Le a b → Le c d → Le (a +ℤ c) (b +ℤ d)
add-le a b c d p q = record { law = omega (arith, (sum a c).law, (sum b d).law) }

unfoldable pub max_z : ℤ → ℤ → ℤ
max_z a b = cond (le_z a b) b a

pub max-left : (a b : ℤ) → Le b a → max_z a b ≡ a
unfolding max_z
max-left a b h = go (le_z a b) refl
  where
    go : (t : Bool) → le_z a b ≡ t → cond t b a ≡ a
    go true e = eq_z b a (omega (arith, le_yes a b e))
    go false e = refl

pub max-right : (a b : ℤ) → Le a b → max_z a b ≡ b
unfolding max_z
max-right a b h = go (le_z a b) refl
  where
    go : (t : Bool) → le_z a b ≡ t → cond t b a ≡ b
    go true e = refl
    go false e = eq_z a b (omega (arith, le-no a b e))

pub over-left : (a b : ℤ) → Le a (max_z a b)
unfolding max_z
over-left a b = go (le_z a b) refl
  where
    go : (t : Bool) → le_z a b ≡ t → Le a (cond t b a)
    go true e = record { law = le_yes a b e }
    go false e = le_refl a

pub over-right : (a b : ℤ) → Le b (max_z a b)
unfolding max_z
over-right a b = go (le_z a b) refl
  where
    go : (t : Bool) → le_z a b ≡ t → Le b (cond t b a)
    go true e = le_refl b
    go false e = le-of-no a b e

pub max-under : (a b m : ℤ) → Le a m → Le b m → Le (max_z a b) m
unfolding max_z
max-under a b m p q = go (le_z a b)
  where
    go : (t : Bool) → Le (cond t b a) m
    go true = q
    go false = p

-- an addend goes into the greater of two
pub max-add : (x y s t : ℤ) → y +ℤ max_z (x +ℤ s) t ≡ max_z (x +ℤ (y +ℤ s)) (y +ℤ t)
unfolding max_z
max-add x y s t = go (le_z (x +ℤ s) t) refl
  where
    go : (b : Bool) → le_z (x +ℤ s) t ≡ b → y +ℤ cond b t (x +ℤ s) ≡ max_z (x +ℤ (y +ℤ s)) (y +ℤ t)
    go true e = sym (max-right (x +ℤ (y +ℤ s)) (y +ℤ t) (record { law = omega (arith, le_yes (x +ℤ s) t e, (sum x s).law, (sum y s).law, (sum x (y +ℤ s)).law, (sum y t).law) }))
    go false e =
        eq_z _ _ (omega (arith, (sum x s).law, (sum y s).law, (sum x (y +ℤ s)).law, (sum y (x +ℤ s)).law))
        ∙ sym (max-left (x +ℤ (y +ℤ s)) (y +ℤ t) (record { law = omega (arith, le-no (x +ℤ s) t e, (sum x s).law, (sum y s).law, (sum x (y +ℤ s)).law, (sum y t).law) }))
