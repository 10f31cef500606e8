-- From what was measured and what was written to a file's length and its bytes.
use Rattle.std.specs.Prelude.{◌≡◌, refl, List, ◌++◌, ℕ, ◌<◌, ◌≤◌, length, drop, Option, Some, None, Result, Ok, Err}
use Rattle.std.specs.Option.{ok_or}
use Rattle.std.proofs.Common.{ap, ap₂, ◌∙◌, arith, zero-add, length-append}
use Rattle.text.specs.WrittenInner.{written}
use Rattle.refusals.specs.declared.Refused.{Refused}
use Rattle.refusals.specs.Buffers.{over}
use Rattle.emitter.specs.declared.measure.Measure.{Measure}
use Rattle.emitter.specs.declared.write.Write.{Write}
use Rattle.emitter.specs.MeasuredInner.{Measured}
use Rattle.emitter.specs.WrittenInner.{Written}
use Rattle.filing.specs.LayingInner.{Filed}

-- ---- measured from nothing on, in three parts: what has no room is longer than the room, and what has room is as long as was counted

module _ (room : ℕ) (text p h e : List ℕ) (long : length (p ++ (h ++ e)) ≡ length text) (a : Measure) (start : a.laid ≡ 0) (whole : a.room ≡ room) where
  pub first-none : (b : Measure) → Measured a p None b → room < length text
  first-none b v = omega (arith, v.0, start, whole, long, length-append p (h ++ e))

  pub second-none : (b c : Measure) → Measured a p (Some tt) b → Measured b h None c → room < length text
  second-none b c v w = omega (arith, v.0, v.1, w.0, start, whole, long, length-append p (h ++ e), length-append h e)

  pub third-none : (b c d : Measure) → Measured a p (Some tt) b → Measured b h (Some tt) c → Measured c e None d → room < length text
  third-none b c d v w x = omega (arith, v.0, v.1, w.0, w.1, x.0, start, whole, long, length-append p (h ++ e), length-append h e)

  pub all-some : (b c d : Measure) → Measured a p (Some tt) b → Measured b h (Some tt) c → Measured c e (Some tt) d → (d.laid ≡ length text) × (d.laid ≤ room)
  all-some b c d v w x =
      (omega (arith, v.0, w.0, x.0, start, long, length-append p (h ++ e), length-append h e), omega (arith, v.1, w.1, x.1, whole, d.within))

-- ---- written from the first place on

pub written-over : (c d : Write) (text before : List ℕ) (o : Option Unit) {after : List ℕ} → after ≡ d.out.now → c.out.now ≡ before → c.at ≡ 0 → Written c text o d → Filed text before after
unfolding over written
written-over c d text before (Some u) k i j w h = k ∙ w.1.list ∙ ap₂ (λ (l : List ℕ) (n : ℕ). written l n text) i j ∙ ap (λ (n : ℕ). text ++ drop n before) (zero-add (length text))
written-over c d text before None k i j w h = absurd (omega (arith, w.1, ap length i, j, h))

-- ---- what was measured, by what `?` made of it

module _ {A : Type 0} where
  pub was-some : (o : Option A) (e : Refused) {x : A} → ok_or o e ≡ Ok x → o ≡ Some x
  was-some (Some y) e f = let z : y ≡ _ = cc in ap Some z
  was-some None e f = absurd cc

  pub was-none : (o : Option A) (e f : Refused) → ok_or o e ≡ Err f → (o ≡ None) × (f ≡ e)
  was-none (Some y) e f g = absurd cc
  was-none None e f g = (refl, cc)
