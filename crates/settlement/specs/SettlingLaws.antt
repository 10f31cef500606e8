-- An engagement of a book that is settled can be settled, and the rows of all engagements are the book's.
use Rattle.std.specs.Prelude.{◌≡◌, List, ℕ, ◌≤◌, ◌<◌}
use Rattle.std.proofs.Math.Option.{none}
use Rattle.book.specs.Engagements.{engagement_at}
use Rattle.volumes.specs.Settlement.{refusal_number, settlement_refusal, rows_of, rows}
use Rattle.volumes.proofs.SettlementLaws.{all-settle}
use Rattle.settlement.specs.SectionsInner.{engagement_count_in, book_with, Opened}
use Rattle.settlement.specs.DrawnLaws.{member}
use Rattle.settlement.specs.PartsLaws.{parts_to, parts_all}

module _ {bytes engagements : List ℕ} (s : Opened bytes engagements) where
  -- no engagement of a book that is settled is refused
  pub not-refused : settlement_refusal (book_with bytes engagements) ≡ none → (i : ℕ) → i < engagement_count_in engagements → refusal_number (book_with bytes engagements) (engagement_at engagements i) ≡ none
  unfolding refusal_number
  not-refused h i k =
      let t = all-settle (book_with bytes engagements) h (engagement_at engagements i) (member s i k) in
      rw (t.known, t.enough)

-- the rows that are filled one engagement after the other are the book's
pub rows-all : (bytes engagements : List ℕ) (i : ℕ) → engagement_count_in engagements ≤ i → parts_to (rows_of (book_with bytes engagements)) engagements i ≡ rows (book_with bytes engagements)
unfolding rows book_with
rows-all bytes engagements i h = parts_all (rows_of (book_with bytes engagements)) engagements i h
