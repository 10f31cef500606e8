-- A file's root: the first of the three, or one of the others.
use Rattle.std.specs.Prelude.{◌≡◌, refl, List, [], ◌∷◌, ℕ, suc, zero, Some, None}
use Rattle.std.proofs.Common.{ap, ◌∙◌}
use Rattle.formats.specs.Format.{Res, got, bind}
use Rattle.formats.specs.Combine.{strip}
use Rattle.formats.specs.Words.{words_parse, or_next}
use Rattle.cursor.specs.declared.Cursor.{Cursor}
use Rattle.cursor.specs.ReadsInner.{Reads}
use Rattle.cursor.proofs.ReadsLaws.{left, reads-map, reads-map-stop}
use Rattle.kinds.specs.declared.Kind.TheVariants.{Toe01, Toe02, Toe03}
use Rattle.message.specs.Bytes.{opening, root}
use Rattle.message.specs.Reading.{roots, kind_of, kind_parse}

abbrev pub first : List ℕ
first = opening (root Toe01)

abbrev pub others : List (List ℕ)
others = opening (root Toe02) ∷ opening (root Toe03) ∷ []

module _ {c d : Cursor} where
  pub root-first : Reads (strip first) c d (Some tt) → Reads kind_parse c d (Some Toe01)
  unfolding kind_parse roots words_parse kind_of
  root-first h = reads-map kind_of (record { text = h.text; found = ap (λ (x : Res (Unit {0})). or_next x (words_parse others (left c))) h.found })

  pub root-none : {e : Cursor} → Reads (strip first) c d None → Reads (words_parse others) c e None → Reads kind_parse c e None
  unfolding kind_parse roots words_parse
  root-none h i =
      reads-map-stop kind_of (record {
        text = i.text;
        found = ap (λ (x : Res (Unit {0})). or_next x (words_parse others (left c))) h.found ∙ ap (λ (x : Res ℕ). bind x (λ n r. got (suc n) r)) i.found;
      })

  pub root-other : {e : Cursor} {n : ℕ} → Reads (strip first) c d None → Reads (words_parse others) c e (Some n) → Reads kind_parse c e (Some (kind_of (suc n)))
  unfolding kind_parse roots words_parse
  root-other {n} h i =
      reads-map kind_of (record {
        text = i.text;
        found = ap (λ (x : Res (Unit {0})). or_next x (words_parse others (left c))) h.found ∙ ap (λ (x : Res ℕ). bind x (λ n r. got (suc n) r)) i.found;
      })

pub third : (n : ℕ) → (n ≡ 0 → ⊥) → kind_of (suc n) ≡ Toe03
unfolding kind_of
third zero h = absurd (h refl)
third (suc n) h = refl
