-- Laws about bytes that are laid behind each other into a list, or only measured, with a mark for the place behind them: what has no room ends at no place.
-- The parts go by the trait `Sink` and its laws (Laying); that its two sinks lay as is said here stands at the end.
use Rattle.std.specs.Prelude.{◌≡◌, refl, Bool, true, false, cond, List, [], ◌++◌, ℕ, ◌+◌, ◌≤◌, ◌<◌, leb, length, drop, Option, Some, None}
use Rattle.std.proofs.Common.{sym, ap, ◌∙◌, append_assoc, append-nil, length-append, arith, add_assoc, add-zero, zero-add, leb-true, leb-false, le-leb}
use Rattle.std.proofs.lemmas.Bool.{lt-leb}
use Rattle.text.specs.WrittenInner.{written, Wrote}
use Rattle.text.proofs.WrittenLaws.{written-nil, written_both, wrote-length}
use Rattle.formats.proofs.MarksLaws.{no-at, same_at}
use Rattle.refusals.specs.Buffers.{over}
use Rattle.emitter.specs.declared.measure.Measure.{Measure}
use Rattle.emitter.specs.declared.write.Write.{Write}
use Rattle.emitter.specs.MeasuredInner.{Measured}
use Rattle.emitter.specs.WrittenInner.{Written}

-- the place n further on, in a list of that length
unfoldable pub ahead : ℕ → Option ℕ → ℕ → Option ℕ
ahead len (Some p) n = cond (leb (p + n) len) (Some (p + n)) None
ahead len None n = None

-- what laying bytes at a mark leaves: the place behind them, and the list as it was, or with them in it where they have room
pub record Laid (live : Bool) (before : List ℕ) (m : Option ℕ) (bs after : List ℕ) (next : Option ℕ) : Type 0 where
  pub keeps : length after ≡ length before
  pub behind : next ≡ ahead (length before) m (length bs)
  pub dry : live ≡ false → after ≡ before
  pub wrote : live ≡ true → (p q : ℕ) → m ≡ Some p → next ≡ Some q → after ≡ written before p bs

-- a mark that stands in a list of that length, or at no place
pub record Stands (len : ℕ) (m : Option ℕ) : Type 0 where
  pub still : ahead len m 0 ≡ m

-- what is laid so far, and the rest, are the whole
pub record Laying (live : Bool) (before : List ℕ) (m : Option ℕ) (whole rest after : List ℕ) (next : Option ℕ) : Type 0 where
  pub done : List ℕ
  pub laid : Laid live before m done after next
  pub both : done ++ rest ≡ whole

-- ---- places

pub ahead-fits : (len p n : ℕ) → p + n ≤ len → ahead len (Some p) n ≡ Some (p + n)
unfolding ahead
ahead-fits len p n h = rw (le-leb (p + n) len h)

pub ahead-over : (len p n : ℕ) → (p + n ≤ len → ⊥) → ahead len (Some p) n ≡ None
unfolding ahead
ahead-over len p n h = go (leb (p + n) len) refl
  where
    go : (b : Bool) → leb (p + n) len ≡ b → cond b (Some (p + n)) None ≡ None
    go true e = absurd (h (leb-true (p + n) len e))
    go false e = refl

-- a place that was reached
pub record Reached (len p n q : ℕ) : Type 0 where
  pub is : q ≡ p + n
  pub room : p + n ≤ len

pub reached : (len p n q : ℕ) → ahead len (Some p) n ≡ Some q → Reached len p n q
unfolding ahead
reached len p n q e = go (leb (p + n) len) refl e
  where
    go : (b : Bool) → leb (p + n) len ≡ b → cond b (Some (p + n)) None ≡ Some q → Reached len p n q
    go true t f = record { is = sym (same_at f); room = leb-true (p + n) len t }
    go false t f = absurd (no-at q f)

pub ahead-twice : (len : ℕ) (m : Option ℕ) (a b : ℕ) → ahead len (ahead len m a) b ≡ ahead len m (a + b)
unfolding ahead
ahead-twice len None a b = refl
ahead-twice len (Some p) a b = go (leb (p + a) len) refl
  where
    go : (t : Bool) → leb (p + a) len ≡ t → ahead len (cond t (Some (p + a)) None) b ≡ cond (leb (p + (a + b)) len) (Some (p + (a + b))) None
    go true e = ap (λ (n : ℕ). cond (leb n len) (Some n) None) (add_assoc p a b)
    go false e = let h = leb-false (p + a) len e in rw (lt-leb (p + (a + b)) len (omega arith))

-- ---- one behind the other

both-wrote : (d a b out out' : List ℕ) (p q : ℕ) (n : Option ℕ) → n ≡ ahead (length d) (Some p) (length a) → length out ≡ length d
    → ((r : ℕ) → n ≡ Some r → out ≡ written d p a) → ((r : ℕ) → n ≡ Some r → out' ≡ written out r b) → ahead (length d) n (length b) ≡ Some q
    → out' ≡ written d p (a ++ b)
unfolding ahead
both-wrote d a b out out' p q None e k v w f = absurd (no-at q f)
both-wrote d a b out out' p q (Some r) e k v w f =
    let x = reached (length d) p (length a) r (sym e) in
    let y = reached (length d) r (length b) q f in
    w r refl ∙ ap (λ (l : List ℕ). written l r b) (v r refl) ∙ ap (λ (j : ℕ). written (written d p a) j b) x.is ∙ written_both d p a b (omega (arith, x.is, y.room))

pub laid_then : {live : Bool} {d : List ℕ} {m : Option ℕ} {a b out out' : List ℕ} {n n' : Option ℕ} → Laid live d m a out n → Laid live out n b out' n' → Laid live d m (a ++ b) out' n'
laid_then {live} {d} {m} {a} {b} {out} {out'} {n} {n'} v w =
    let next = w.behind ∙ ap (λ (k : ℕ). ahead k n (length b)) v.keeps in
    record {
      keeps = w.keeps ∙ v.keeps;
      behind = next ∙ ap (λ (k : Option ℕ). ahead (length d) k (length b)) v.behind ∙ ahead-twice (length d) m (length a) (length b) ∙ ap (ahead (length d) m) (sym (length-append a b));
      dry = λ e. w.dry e ∙ v.dry e;
      wrote = λ e p q f g.
          both-wrote d a b out out' p q n (v.behind ∙ ap (λ (k : Option ℕ). ahead (length d) k (length a)) f) v.keeps (λ r h. v.wrote e p r f h) (λ r h. w.wrote e r q h g) (sym next ∙ g);
    }

pub laid-is : {live : Bool} {d : List ℕ} {m : Option ℕ} {a out : List ℕ} {n : Option ℕ} (b : List ℕ) → a ≡ b → Laid live d m a out n → Laid live d m b out n
laid-is {live} {d} {m} {a} {out} {n} b e v = rw e at v

-- ---- a write, or none

true-false : (b : Bool) → b ≡ true → b ≡ false → ⊥
true-false b e f = let z : ◌≡◌ {A = ℕ} 0 1 = cc in omega arith

-- measured in another order: only the length counts
pub laid-turned : {d out : List ℕ} {m n : Option ℕ} {a : List ℕ} (b : List ℕ) → length a ≡ length b → Laid false d m a out n → Laid false d m b out n
laid-turned {d} {out} {m} {n} {a} b e v = record { keeps = v.keeps; behind = v.behind ∙ ap (ahead (length d) m) e; dry = v.dry; wrote = λ g. absurd (true-false false g refl) }

pub laid-dry : (live : Bool) (d : List ℕ) (m : Option ℕ) (bs : List ℕ) (n : Option ℕ) → live ≡ false → n ≡ ahead (length d) m (length bs) → Laid live d m bs d n
laid-dry live d m bs n e f = record { keeps = refl; behind = f; dry = λ g. refl; wrote = λ g. absurd (true-false live g e) }

pub laid-full : (live : Bool) (d : List ℕ) (m : Option ℕ) (bs : List ℕ) → ahead (length d) m (length bs) ≡ None → Laid live d m bs d None
laid-full live d m bs e = record { keeps = refl; behind = sym e; dry = λ f. refl; wrote = λ f p q g h. absurd (no-at q h) }

pub laid-nowhere : (live : Bool) (d : List ℕ) (m : Option ℕ) (bs : List ℕ) → m ≡ None → Laid live d m bs d None
unfolding ahead
laid-nowhere live d m bs e = laid-full live d m bs (ap (λ (k : Option ℕ). ahead (length d) k (length bs)) e)

pub laid-live : (live : Bool) (d : List ℕ) (m : Option ℕ) (p : ℕ) (bs out : List ℕ) (q : ℕ) → live ≡ true → m ≡ Some p → Wrote d p bs out q → Laid live d m bs out (Some q)
laid-live live d m p bs out q e f w =
    record {
      keeps = wrote-length w;
      behind = ap Some w.behind ∙ sym (ahead-fits (length d) p (length bs) w.room) ∙ ap (λ (k : Option ℕ). ahead (length d) k (length bs)) (sym f);
      dry = λ g. absurd (true-false live e g);
      wrote = λ g r s h i. w.list ∙ ap (λ (j : ℕ). written d j bs) (same_at (sym f ∙ h));
    }

-- there is room up to a place that was reached
pub room_for : (len p n q : ℕ) (m next : Option ℕ) → m ≡ Some p → next ≡ ahead len m n → next ≡ Some q → p + n ≤ len
room_for len p n q m next e f g = (reached len p n q (ap (λ (k : Option ℕ). ahead len k n) (sym e) ∙ sym f ∙ g)).room

-- ---- nothing laid

pub stands_at : (len p : ℕ) → p ≤ len → Stands len (Some p)
stands_at len p h = record { still = ahead-fits len p 0 (omega arith) ∙ ap Some (add-zero p) }

pub laid-stands : {live : Bool} {d : List ℕ} {m : Option ℕ} {a out : List ℕ} {n : Option ℕ} → Laid live d m a out n → Stands (length out) n
laid-stands {live} {d} {m} {a} {out} {n} v =
    record { still = ap (λ (k : Option ℕ). ahead (length out) k 0) v.behind ∙ ap (λ (k : ℕ). ahead k (ahead (length d) m (length a)) 0) v.keeps ∙ ahead-twice (length d) m (length a) 0 ∙ ap (ahead (length d) m) (add-zero (length a)) ∙ sym v.behind }

pub laid_none : (live : Bool) (d : List ℕ) (m : Option ℕ) → Stands (length d) m → Laid live d m [] d m
laid_none live d m s =
    record { keeps = refl; behind = sym s.still; dry = λ e. refl; wrote = λ e p q f g. sym (written-nil d p) }

-- ---- part by part

pub laying-none : (live : Bool) (d : List ℕ) (m : Option ℕ) (whole : List ℕ) → Stands (length d) m → Laying live d m whole whole d m
laying-none live d m whole s = record { done = []; laid = laid_none live d m s; both = refl }

pub laying-then : {live : Bool} {d : List ℕ} {m : Option ℕ} {whole rest b out out' : List ℕ} {n n' : Option ℕ} (rest' : List ℕ)
    → Laying live d m whole rest out n → Laid live out n b out' n' → rest ≡ b ++ rest' → Laying live d m whole rest' out' n'
laying-then {b = b} rest' v w e =
    record { done = v.done ++ b; laid = laid_then v.laid w; both = append_assoc v.done b rest' ∙ ap (λ (l : List ℕ). v.done ++ l) (sym e) ∙ v.both }

pub laying-all : {live : Bool} {d : List ℕ} {m : Option ℕ} {whole rest out : List ℕ} {n : Option ℕ} → Laying live d m whole rest out n → rest ≡ [] → Laid live d m whole out n
laying-all {whole = whole} v e = laid-is whole (sym (append-nil v.done) ∙ ap (λ (l : List ℕ). v.done ++ l) (sym e) ∙ v.both) v.laid

-- ---- measured from the first place on, then written

-- what has room is written over the list's first places
pub record LaidOver (d bs out : List ℕ) (n : ℕ) : Type 0 where
  pub count : n ≡ length bs
  pub room : length bs ≤ length d
  pub list : out ≡ over bs d

pub laid-over : {d bs d' out : List ℕ} {n : ℕ} {r : Option ℕ} → Laid false d (Some 0) bs d' (Some n) → Laid true d' (Some 0) bs out r → LaidOver d bs out n
unfolding over written
laid-over {d} {bs} {d'} {out} {n} {r} v w =
    let x = reached (length d) 0 (length bs) n (sym v.behind) in
    let next : r ≡ Some n = w.behind ∙ ap (λ (k : ℕ). ahead k (Some 0) (length bs)) v.keeps ∙ sym v.behind in
    record {
      count = omega (arith, x.is);
      room = omega (arith, x.room);
      list = w.wrote refl 0 n refl next ∙ ap (λ (l : List ℕ). written l 0 bs) (v.dry refl) ∙ ap (λ (k : ℕ). bs ++ drop k d) (zero-add (length bs));
    }

-- what has none is longer than the list
pub record NoRoom (d bs d' : List ℕ) : Type 0 where
  pub short : length d < length bs
  pub same : d' ≡ d

pub laid-no-room : {d bs d' : List ℕ} → Laid false d (Some 0) bs d' None → NoRoom d bs d'
laid-no-room {d} {bs} {d'} v = record { short = go (leb (length bs) (length d)) refl; same = v.dry refl }
  where
    go : (b : Bool) → leb (length bs) (length d) ≡ b → length d < length bs
    go true e = absurd (no-at (0 + length bs) (v.behind ∙ ahead-fits (length d) 0 (length bs) (omega (arith, leb-true (length bs) (length d) e))))
    go false e = leb-false (length bs) (length d) e

-- ---- the two sinks

-- the place that a sink has come to, if there was room
abbrev pub place : Option Unit → ℕ → Option ℕ
place (Some u) n = Some n
place None n = None

-- what measures with a list's length as its room only measures
pub measured-laid : (d : List ℕ) (a b : Measure) (bs : List ℕ) (r : Option Unit) → a.room ≡ length d → Measured a bs r b → Laid false d (Some a.laid) bs d (place r b.laid)
measured-laid d a b bs (Some u) e v =
    let fits : a.laid + length bs ≤ length d = omega (arith, v.0, v.1, b.within) in
    laid-dry false d (Some a.laid) bs (Some b.laid) refl (ap Some v.0 ∙ sym (ahead-fits (length d) a.laid (length bs) fits))
measured-laid d a b bs None e v = laid-full false d (Some a.laid) bs (ahead-over (length d) a.laid (length bs) (λ h. omega (arith, v.0)))

-- what writes lays into its buffer
pub written-laid : (a b : Write) (bs : List ℕ) (r : Option Unit) → Written a bs r b → Laid true a.out.now (Some a.at) bs b.out.now (place r b.at)
written-laid a b bs (Some u) v = laid-live true a.out.now (Some a.at) a.at bs b.out.now b.at refl refl v.1
written-laid a b bs None v =
    record {
      keeps = v.0.long;
      behind = sym (ahead-over (length a.out.now) a.at (length bs) (λ h. omega (arith, v.1)));
      dry = λ f. absurd (true-false true refl f);
      wrote = λ f p q g h. absurd (no-at q h);
    }
