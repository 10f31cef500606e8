-- Each engagement sets its own day's bit of its own point and no other, so that after all of them the bits tell the days with an engagement.
use Rattle.std.specs.Prelude.{◌≡◌, refl, Bool, true, false, ◌&&◌, ◌||◌, List, [], ◌∷◌, ℕ, ◌+◌, ◌≤◌, ◌<◌, eqb, length, get_or, set, take, replicate}
use Rattle.std.proofs.Common.{sym, ap, ◌∙◌, add-one, arith, take_all, take-suc, get_or-set_same, get_or-set_other, eqb-true}
use Rattle.std.proofs.Math.Bool.{or_assoc, or-false}
use Rattle.std.proofs.lemmas.List.{get_or-replicate, length-replicate}
use Rattle.std.proofs.lemmas.Bool.{eqb-false}
use Rattle.integers.proofs.BitsLaws.{bit-none}
use Rattle.integers.specs.First.{any_of}
use Rattle.integers.proofs.FirstLaws.{any_append}
use Rattle.book.specs.declared.Engagement.{Engagement}
use Rattle.book.specs.Register.{excludes}
use Rattle.book.specs.Engagements.{engagement_at}
use Rattle.volumes.specs.Baseline.{is_on}
use Rattle.settlement.specs.SectionsInner.{engagement_count_in, engagements_in, engaged_in, Opened}
use Rattle.settlement.specs.DaysInner.{Gatherable, Gathers, Gathered}
use Rattle.settlement.specs.PartsLaws.{engagement-count, engagement-named}
use Rattle.settlement.specs.DrawnLaws.{engagement-placed}

-- those of the first i engagements
unfoldable pub engaged_to : List ℕ → ℕ → ℕ → ℕ → Bool
engaged_to engagements i p d = any_of (is_on p d) (take i (engagements_in engagements))

to-more : (engagements : List ℕ) (i p d : ℕ) → i < engagement_count_in engagements
    → engaged_to engagements (i + 1) p d ≡ (engaged_to engagements i p d || is_on p d (engagement_at engagements i))
unfolding engaged_to any_of
to-more engagements i p d h =
    let f = engagement_at engagements i in
    let es = engagements_in engagements in
    rw add-one
    (ap (any_of (is_on p d)) (take-suc es i f (omega (arith, engagement-count engagements)))
    ∙ any_append (is_on p d) (take i es) (get_or es i f ∷ [])
    ∙ ap (λ (b : Bool). any_of (is_on p d) (take i es) || b) (or-false (is_on p d (get_or es i f)))
    ∙ ap (λ (e : Engagement). any_of (is_on p d) (take i es) || is_on p d e) (engagement-named engagements i f h))

-- what is gathered after the first i
pub record GathersTo (engagements : List ℕ) (i : ℕ) (before after : List ℕ) : Type 0 where
  pub each : (p d : ℕ) → p < length before → excludes (get_or after p 0) d ≡ (excludes (get_or before p 0) d || engaged_to engagements i p d)

pub gathers-none : (engagements before : List ℕ) → GathersTo engagements 0 before before
unfolding engaged_to any_of
gathers-none engagements before = record { each = λ p d h. sym (or-false (excludes (get_or before p 0) d)) }

pub gathers-all : (engagements before after : List ℕ) (i : ℕ) → engagement_count_in engagements ≤ i → GathersTo engagements i before after → Gathers engagements before after
unfolding engaged_to engaged_in
gathers-all engagements before after i h m =
    record {
      each = λ p d k. m.each p d k ∙ ap (λ (l : List Engagement). excludes (get_or before p 0) d || any_of (is_on p d) l) (take_all i (engagements_in engagements) (omega (arith, engagement-count engagements)));
    }

pub gathers-more : (engagements before masks : List ℕ) (i : ℕ) (e : Engagement) (v : ℕ) → i < engagement_count_in engagements → e ≡ engagement_at engagements i → length masks ≡ length before → e.point < length before
    → ((d : ℕ) → excludes v d ≡ (excludes (get_or masks e.point 0) d || eqb e.day d)) → GathersTo engagements i before masks → GathersTo engagements (i + 1) before (set masks e.point v)
gathers-more engagements before masks i e v h is long inside bits m = record { each = λ p d k. go p d k (eqb e.point p) refl }
  where
    more : (p d : ℕ) → engaged_to engagements (i + 1) p d ≡ (engaged_to engagements i p d || is_on p d e)
    more p d = to-more engagements i p d h ∙ ap (λ (f : Engagement). engaged_to engagements i p d || is_on p d f) (sym is)

    go : (p d : ℕ) → p < length before → (t : Bool) → eqb e.point p ≡ t → excludes (get_or (set masks e.point v) p 0) d ≡ (excludes (get_or before p 0) d || engaged_to engagements (i + 1) p d)
    go p d k true t =
        let same : e.point ≡ p = eqb-true e.point p t in
        let old = excludes (get_or before p 0) d in
        let passed = engaged_to engagements i p d in
        let stored : get_or (set masks e.point v) p 0 ≡ v = ap (λ (q : ℕ). get_or (set masks e.point v) q 0) (sym same) ∙ get_or-set_same masks e.point v 0 (omega arith) in
        let was : excludes (get_or masks e.point 0) d ≡ (old || passed) = ap (λ (q : ℕ). excludes (get_or masks q 0) d) same ∙ m.each p d k in
        ap (λ (n : ℕ). excludes n d) stored
        ∙ bits d
        ∙ ap (λ (b : Bool). b || eqb e.day d) was
        ∙ or_assoc old passed (eqb e.day d)
        ∙ ap (λ (b : Bool). old || (passed || (b && eqb e.day d))) (sym t)
        ∙ ap (λ (b : Bool). old || b) (sym (more p d))
    go p d k false t =
        let other = eqb-false e.point p t in
        let old = excludes (get_or before p 0) d in
        let passed = engaged_to engagements i p d in
        ap (λ (n : ℕ). excludes n d) (get_or-set_other masks e.point p v 0 (λ q. other (sym q)))
        ∙ m.each p d k
        ∙ ap (λ (b : Bool). old || b) (sym (more p d ∙ ap (λ (b : Bool). passed || (b && eqb e.day d)) t ∙ or-false passed))

-- the engagements of an opened book can be gathered, and from masks of no day they are gathered
module _ {bytes engagements : List ℕ} (s : Opened bytes engagements) where
  pub gatherable : Gatherable engagements 256
  gatherable = record { point = λ i h. (engagement-placed s i h).point; day = λ i h. (engagement-placed s i h).day }

pub gathered : (engagements masks : List ℕ) → length masks ≡ 256 → Gathers engagements (replicate 256 0) masks → Gathered engagements masks
gathered engagements masks long m =
    record {
      long = omega arith;
      each = λ p d h. m.each p d (omega (arith, length-replicate {A = ℕ} 256 0))
          ∙ ap (λ (n : ℕ). excludes n d || engaged_in engagements p d) (get_or-replicate 256 p 0 0 h)
          ∙ ap (λ (b : Bool). b || engaged_in engagements p d) (bit-none d);
    }
