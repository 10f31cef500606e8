-- An engagement of a book that is settled can be settled.
use Rattle.std.specs.Prelude.{◌≡◌, List, ℕ, ◌<◌}
use Rattle.std.proofs.Math.Option.{none}
use Rattle.book.specs.Header.{calendar_section}
use Rattle.book.specs.Engagements.{engagement_at}
use Rattle.volumes.specs.Settlement.{refusal_number}
use Rattle.baseline.specs.FilledInner.{Unrefused, Accepts}
use Rattle.settlement.specs.SectionsInner.{engagement_count_in, book_with, shown_in, readings_of, Opened}
use Rattle.settlement.specs.DaysInner.{Gathered}
use Rattle.settlement.specs.DrawnLaws.{drawn}

module _ {bytes engagements masks : List ℕ} (s : Opened bytes engagements) (m : Gathered engagements masks) (i : ℕ) (h : i < engagement_count_in engagements) (good : refusal_number (book_with bytes engagements) (engagement_at engagements i) ≡ none) where
  -- what settling an engagement asks, of one that is not refused
  pub settled : Unrefused (shown_in bytes engagements masks i) (calendar_section bytes) (readings_of bytes (engagement_at engagements i).point) (book_with bytes engagements)
  unfolding shown_in
  settled = record { shows = (drawn s m i h).shows; good = good }

  pub accepts : Accepts (shown_in bytes engagements masks i) (calendar_section bytes) (readings_of bytes (engagement_at engagements i).point)
  accepts = record { fits = (drawn s m i h).fits; book = book_with bytes engagements; settled = settled }
