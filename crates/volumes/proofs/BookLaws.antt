-- The points and engagements of a book, as its sections have them.
use Rattle.std.specs.Prelude.{◌≡◌, List, ℕ, ◌<◌, length, get_or}
use Rattle.std.proofs.Math.Path.{ap}
use Rattle.std.proofs.Common.{◌∙◌, zero-add}
use Rattle.std.proofs.Math.ListN.{length-map}
use Rattle.integers.specs.Ranges.{range}
use Rattle.book.specs.declared.Engagement.{Engagement}
use Rattle.book.specs.Header.{point_count, engagement_count, register_section, engagement_section}
use Rattle.book.specs.Register.{point_at}
use Rattle.book.specs.Engagements.{engagement_at}
use Rattle.book.specs.Book.{book_of}
use Rattle.volumes.specs.Baseline.{no_point, point_of}
use Rattle.integers.proofs.RangesLaws.{length-range, get_d-map-range}

module _ (bytes : List ℕ) where
  pub points-length : length (book_of bytes).points ≡ point_count bytes
  unfolding book_of
  points-length = length-map (range 0 (point_count bytes)) (point_at (register_section bytes)) ∙ length-range 0 (point_count bytes)

  pub engagements-length : length (book_of bytes).engagements ≡ engagement_count bytes
  unfolding book_of
  engagements-length = length-map (range 0 (engagement_count bytes)) (engagement_at (engagement_section bytes)) ∙ length-range 0 (engagement_count bytes)

  pub point-of : (e : Engagement) → e.point < point_count bytes → point_of (book_of bytes) e ≡ point_at (register_section bytes) e.point
  unfolding book_of point_of
  point-of e h = get_d-map-range (point_at (register_section bytes)) 0 (point_count bytes) e.point no_point h ∙ ap (point_at (register_section bytes)) (zero-add e.point)

  pub engagement-at : (i : ℕ) (z : Engagement) → i < engagement_count bytes → get_or (book_of bytes).engagements i z ≡ engagement_at (engagement_section bytes) i
  unfolding book_of
  engagement-at i z h = get_d-map-range (engagement_at (engagement_section bytes)) 0 (engagement_count bytes) i z h ∙ ap (engagement_at (engagement_section bytes)) (zero-add i)
