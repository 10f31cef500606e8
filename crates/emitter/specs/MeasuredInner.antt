-- What measuring leads to: so many bytes more, if there is room for them.
use Rattle.std.specs.Prelude.{◌≡◌, refl, List, ◌++◌, ℕ, ◌+◌, ◌<◌, length, Option, Some, None}
use Rattle.std.proofs.Common.{◌∙◌, arith, length-append}
use Rattle.emitter.specs.SinksInner.{SinkLaws}
use Rattle.emitter.specs.declared.measure.Measure.{Measure}

abbrev pub Counted : Measure → ℕ → Option Unit → Measure → Type 0
Counted a n (Some u) b = (b.laid ≡ a.laid + n) × (b.room ≡ a.room)
Counted a n None b = (a.room < a.laid + n) × (b.room ≡ a.room)

abbrev pub Measured : Measure → List ℕ → Option Unit → Measure → Type 0
Measured a bs r b = Counted a (length bs) r b

one_by_one : (a b c : Measure) (x y : List ℕ) (u : Unit {0}) (r : Option Unit) → Measured a x (Some u) b → Measured b y r c → Measured a (x ++ y) r c
one_by_one a b c x y u (Some z) v w = (omega (arith, length-append x y), w.1 ∙ v.1)
one_by_one a b c x y u None v w = (omega (arith, length-append x y), w.1 ∙ v.1)

pub measure-laws : SinkLaws Measured
measure-laws =
    record {
      nothing = λ a. (omega arith, refl);
      one_by_one = one_by_one;
      no_more = λ a b x y v. (omega (arith, length-append x y), v.1);
    }
