-- A partner's rows go direction by direction.
use Rattle.std.specs.Prelude.{◌≡◌, ℕ, ◌+◌, ◌≤◌, ◌<◌, length, get_or, take, List, ◌++◌, ◌∷◌, []}
use Rattle.std.proofs.Common.{refl, sym, ap, ◌∙◌, add-one, append-nil, take-suc, take_all}
use mathlib.Core.List.{flat_map}
use Rattle.integers.proofs.ListsLaws.{flat_map-append}
use Rattle.book.specs.declared.Supply.{Supply}
use Rattle.book.specs.declared.Direction.{Direction}
use Rattle.book.specs.Book.{Book}
use Rattle.volumes.specs.Series.{Kind, series_of}
use Rattle.message.specs.Rows.{Row}
use Rattle.reports.specs.FileRows.{directions}
use Rattle.partners.specs.PartnerRowsInner.{series_rows_of, partner_rows_of, partner_rows_by}

module _ (book : Book) (kind : Kind) (receiver partner : ℕ) where
  -- the rows of the series in two directions, and in the first i of all directions
  abbrev pub rows_in : Supply × Direction → List Row
  rows_in d = series_rows_of book kind receiver (series_of partner d.0 d.1)

  abbrev pub rows_to : ℕ → List Row
  rows_to i = flat_map rows_in (take i directions)

  pub rows-more : (i : ℕ) (d : Supply × Direction) → i < length directions → rows_to i ++ rows_in (get_or directions i d) ≡ rows_to (i + 1)
  unfolding flat_map
  rows-more i d h =
      let x = get_or directions i d in
      sym
      (ap (λ (n : ℕ). flat_map rows_in (take n directions)) (add-one i)
      ∙ ap (flat_map rows_in) (take-suc directions i d h)
      ∙ flat_map-append rows_in (take i directions) (x ∷ [])
      ∙ ap (λ (r : List Row). rows_to i ++ r) (append-nil (rows_in x)))

  pub rows-none : [] ≡ rows_to 0
  unfolding flat_map
  rows-none = refl

  pub rows-all : (i : ℕ) → length directions ≤ i → rows_to i ≡ partner_rows_of book kind receiver partner
  unfolding partner_rows_by
  rows-all i h = ap (flat_map rows_in) (take_all i directions h)
