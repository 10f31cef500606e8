-- Parts laid one behind the other, in the order of a straight line of `?`: what each `?` gives back early, and what the last part gives.
use Rattle.std.proofs.Common.{◌≡◌, refl, List, [], ◌++◌, ℕ, Option, Some, None, sym, ap, ◌∙◌, subst, append_assoc, append-nil}
use Rattle.emitter.specs.SinksInner.{SinkLaws}

module _ {S : Type 0} {lays : S → List ℕ → Option Unit → S → Type 0} (laws : SinkLaws lays) where
  -- a part, then those behind it
  pub and_then : {a b c : S} {x y : List ℕ} {u : Unit {0}} {r : Option Unit} → lays a x (Some u) b → lays b y r c → lays a (x ++ y) r c
  and_then {a} {b} {c} {x} {y} {u} {r} v w = laws.one_by_one a b c x y u r v w

  -- a part without room, and those behind it
  pub stops : {a b : S} {x : List ℕ} {r : Option Unit} (y : List ℕ) → lays a x None b → r ≡ None → lays a (x ++ y) r b
  stops {a} {b} {x} y v e = subst (λ (o : Option Unit). lays a (x ++ y) o b) (sym e) (laws.no_more a b x y v)

  -- the same bytes, otherwise put together
  pub laid_as : {a b : S} {x y : List ℕ} {r : Option Unit} → x ≡ y → lays a x r b → lays a y r b
  laid_as {a} {b} {x} {y} {r} e v = subst (λ (l : List ℕ). lays a l r b) e v

-- ---- a loop: what is laid so far, and the rest, are the whole

pub record Laying {S : Type 0} (lays : S → List ℕ → Option Unit → S → Type 0) (before : S) (whole rest : List ℕ) (after : S) : Type 0 where
  pub done : List ℕ
  pub laid : lays before done (Some tt) after
  pub both : done ++ rest ≡ whole

module _ {S : Type 0} {lays : S → List ℕ → Option Unit → S → Type 0} (laws : SinkLaws lays) where
  pub laying-none : (a : S) (whole : List ℕ) → Laying lays a whole whole a
  laying-none a whole = record { done = []; laid = laws.nothing a; both = refl }

  -- one part more
  pub laying-then : {a b c : S} {whole rest x : List ℕ} (rest' : List ℕ) → Laying lays a whole rest b → lays b x (Some tt) c → rest ≡ x ++ rest' → Laying lays a whole rest' c
  laying-then {x = x} rest' v w e =
      record { done = v.done ++ x; laid = and_then laws v.laid w; both = append_assoc v.done x rest' ∙ ap (λ (l : List ℕ). v.done ++ l) (sym e) ∙ v.both }

  -- a part without room
  pub laying-stops : {a b c : S} {whole rest x : List ℕ} {r : Option Unit} (rest' : List ℕ) → Laying lays a whole rest b → lays b x None c → rest ≡ x ++ rest' → r ≡ None → lays a whole r c
  laying-stops {x = x} rest' v w e f =
      laid_as laws (ap (λ (l : List ℕ). v.done ++ l) (sym e) ∙ v.both) (and_then laws v.laid (stops laws rest' w f))

  -- nothing left
  pub laying-all : {a b : S} {whole rest : List ℕ} → Laying lays a whole rest b → rest ≡ [] → lays a whole (Some tt) b
  laying-all v e = laid_as laws (sym (append-nil v.done) ∙ ap (λ (l : List ℕ). v.done ++ l) (sym e) ∙ v.both) v.laid
