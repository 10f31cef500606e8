-- What writing leads to: the bytes in the buffer, behind those before them, if there is room for them.
use Rattle.std.specs.Prelude.{◌≡◌, refl, List, ◌++◌, ℕ, ◌+◌, ◌<◌, length, Option, Some, None}
use Rattle.std.proofs.Common.{◌∙◌, arith, length-append}
use Rattle.text.specs.WrittenInner.{Wrote}
use Rattle.text.proofs.WrittenLaws.{and_then, wrote_none}
use Rattle.emitter.specs.SinksInner.{SinkLaws}
use Rattle.emitter.specs.declared.write.Write.{Write}

-- the same buffer, of the same length
pub record SameBuffer (a b : Write) : Type 0 where
  pub name : b.out.ghost_name ≡ a.out.ghost_name
  pub long : length b.out.now ≡ length a.out.now

abbrev pub Written : Write → List ℕ → Option Unit → Write → Type 0
Written a bs (Some u) b = SameBuffer a b × Wrote a.out.now a.at bs b.out.now b.at
Written a bs None b = SameBuffer a b × (length a.out.now < a.at + length bs)

same : {a b c : Write} → SameBuffer a b → SameBuffer b c → SameBuffer a c
same v w = record { name = w.name ∙ v.name; long = w.long ∙ v.long }

one_by_one : (a b c : Write) (x y : List ℕ) (u : Unit {0}) (r : Option Unit) → Written a x (Some u) b → Written b y r c → Written a (x ++ y) r c
one_by_one a b c x y u (Some z) v w = (same v.0 w.0, and_then v.1 w.1)
one_by_one a b c x y u None v w = (same v.0 w.0, let e = v.1.behind in let f = v.0.long in omega (arith, length-append x y))

pub write-laws : SinkLaws Written
write-laws =
    record {
      nothing = λ a. (record { name = refl; long = refl }, wrote_none a.out.now a.at a.within);
      one_by_one = one_by_one;
      no_more = λ a b x y v. (v.0, omega (arith, length-append x y));
    }
