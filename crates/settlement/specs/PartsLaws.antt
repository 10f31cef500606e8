-- Numbers that are stored for one engagement after the other, so many for each of its quarter-hours, are stored for all.
use Rattle.std.specs.Prelude.{◌≡◌, ℕ, ◌+◌, ◌*◌, ◌≤◌, ◌<◌, length, take, drop, get_or}
use Rattle.std.proofs.Math.Path.{refl, sym, ap}
use Rattle.std.proofs.Common.{ap₂, ◌∙◌, zero-add, mul-zero, mul-add, arith, take-append-drop, length-append, take_all, take-suc}
use mathlib.Core.List.{List, [], ◌∷◌, ◌++◌, flat_map, append-nil}
use Rattle.std.proofs.Math.Numerals.{add-one}
use Rattle.std.proofs.lemmas.List.{length-map}
use Rattle.std.proofs.Math.Seq.{sets}
use Rattle.integers.specs.Sums.{naturals, sum_of, sum_by}
use Rattle.book.specs.declared.Engagement.{Engagement}
use Rattle.book.specs.Engagements.{engagement_at}
use Rattle.volumes.proofs.SettlementLaws.{count_next}
use Rattle.settlement.specs.SectionsInner.{engagement_count_in, engagements_in, row_count_in}
use Rattle.settlement.specs.StoresLaws.{sets-append}
use Rattle.integers.proofs.RangesLaws.{length-range, get_d-made}
use Rattle.integers.proofs.SumsLaws.{sum-append}
use Rattle.integers.proofs.ListsLaws.{flat_map-append}

-- how many rows the first i engagements have, and one more
unfoldable pub row_count_to : List ℕ → ℕ → ℕ
row_count_to engagements i = sum_of (λ e. e.count) (take i (engagements_in engagements))

pub engagement-count : (engagements : List ℕ) → length (engagements_in engagements) ≡ engagement_count_in engagements
unfolding engagements_in
engagement-count engagements = rw (length-map, length-range)

pub engagement-named : (engagements : List ℕ) (i : ℕ) (d : Engagement) → i < engagement_count_in engagements → get_or (engagements_in engagements) i d ≡ engagement_at engagements i
unfolding engagements_in
engagement-named engagements i d h = get_d-made (engagement_at engagements) (engagement_count_in engagements) i d h

pub count_none : (engagements : List ℕ) → row_count_to engagements 0 ≡ 0
unfolding row_count_to sum_by
count_none engagements = refl

pub count-more : (engagements : List ℕ) (i : ℕ) → i < engagement_count_in engagements → row_count_to engagements (i + 1) ≡ row_count_to engagements i + (engagement_at engagements i).count
unfolding row_count_to
count-more engagements i h =
    let d = engagement_at engagements i in
    rw add-one
    (count_next (engagements_in engagements) i d (omega (arith, engagement-count engagements))
    ∙ ap (λ (e : Engagement). row_count_to engagements i + e.count) (engagement-named engagements i d h))

pub count-all : (engagements : List ℕ) (i : ℕ) → engagement_count_in engagements ≤ i → row_count_to engagements i ≡ row_count_in engagements
unfolding row_count_to row_count_in
count-all engagements i h = ap (sum_of (λ e. e.count)) (take_all i (engagements_in engagements) (omega (arith, engagement-count engagements)))

-- so many of the rows are no more than all
pub count_most : (engagements : List ℕ) (i : ℕ) → row_count_to engagements i ≤ row_count_in engagements
unfolding row_count_to row_count_in
count_most engagements i =
    let es = engagements_in engagements in
    let f : Engagement → ℕ = λ e. e.count in
    omega (arith, ap (sum_of f) (take-append-drop i es), sum-append naturals f (take i es) (drop i es))

-- what f makes of the first i engagements
unfoldable pub parts_to : {A : Type 0} → (Engagement → List A) → List ℕ → ℕ → List A
parts_to f engagements i = flat_map f (take i (engagements_in engagements))

pub parts-length : {A : Type 0} (f : Engagement → List A) (width : ℕ) → ((e : Engagement) → length (f e) ≡ width * e.count) → (es : List Engagement) → length (flat_map f es) ≡ width * sum_of (λ e. e.count) es
unfolding flat_map sum_by
parts-length f width each [] = sym (mul-zero width)
parts-length f width each (e ∷ es) = length-append (f e) (flat_map f es) ∙ ap₂ ◌+◌ (each e) (parts-length f width each es) ∙ sym (mul-add width e.count (sum_of (λ e. e.count) es))

module _ {A : Type 0} (f : Engagement → List A) (engagements : List ℕ) where
  pub parts_none : (l : List A) → sets l 0 (parts_to f engagements 0) ≡ l
  unfolding parts_to flat_map
  parts_none l = refl

  parts_next : (i : ℕ) → i < engagement_count_in engagements → parts_to f engagements (i + 1) ≡ parts_to f engagements i ++ f (engagement_at engagements i)
  unfolding parts_to flat_map
  parts_next i h =
      let d = engagement_at engagements i in
      let es = engagements_in engagements in
      rw add-one
      (ap (flat_map f) (take-suc es i d (omega (arith, engagement-count engagements)))
      ∙ flat_map-append f (take i es) (get_or es i d ∷ [])
      ∙ ap (λ (l : List A). flat_map f (take i es) ++ l) (append-nil (f (get_or es i d)))
      ∙ ap (λ (e : Engagement). flat_map f (take i es) ++ f e) (engagement-named engagements i d h))

  pub parts_all : (i : ℕ) → engagement_count_in engagements ≤ i → parts_to f engagements i ≡ flat_map f (engagements_in engagements)
  unfolding parts_to
  parts_all i h = ap (flat_map f) (take_all i (engagements_in engagements) (omega (arith, engagement-count engagements)))

  -- where f makes `width` numbers for each quarter-hour
  module _ (width : ℕ) (each : (e : Engagement) → length (f e) ≡ width * e.count) where
    -- those of one engagement more, behind those that are stored
    pub parts_more : (l : List A) (at i : ℕ) → i < engagement_count_in engagements → at ≡ width * row_count_to engagements i → sets (sets l 0 (parts_to f engagements i)) at (f (engagement_at engagements i)) ≡ sets l 0 (parts_to f engagements (i + 1))
    unfolding parts_to row_count_to
    parts_more l at i h e =
        let stored = parts_to f engagements i in
        let own = f (engagement_at engagements i) in
        ap (λ (n : ℕ). sets (sets l 0 stored) n own) (e ∙ sym (parts-length f width each (take i (engagements_in engagements))) ∙ sym (zero-add (length stored)))
        ∙ sets-append l 0 stored own
        ∙ ap (sets l 0) (sym (parts_next i h))
