-- A series of a file as the code goes through it: its grains by the engagements passed.
use Rattle.std.specs.Prelude.{◌≡◌, List, ◌++◌, map, ℕ, zero, suc, pred, ◌+◌, ◌*◌, ◌^◌, ◌≤◌, ◌<◌, length, get_or, take, drop, set}
use Rattle.std.proofs.Math.Option.{none}
use Rattle.integers.specs.Ranges.{range}
use Rattle.integers.specs.Sums.{sum_of}
use Rattle.quarters.specs.declared.Calendar.{Calendar}
use Rattle.book.specs.Header.{calendar_of, register_section, engagement_section}
use Rattle.book.specs.Register.{point_at}
use Rattle.book.specs.Engagements.{engagement_at}
use Rattle.book.specs.Book.{Book, book_of}
use Rattle.volumes.specs.Baseline.{point_of}
use Rattle.volumes.specs.Settlement.{book_refusal}
use Rattle.volumes.specs.declared.Series.{Series}
use Rattle.volumes.specs.Series.{Kind, grains_of}
use Rattle.volumes.specs.SoundInner.{Sound}
use Rattle.settlement.specs.SectionsInner.{engagement_count_in, engagements_in}
use Rattle.series.specs.VolumesInner.{book_volumes}

-- numbers by position in a list's first n cells, and the rest as before
abbrev pub by_position : (ℕ → ℕ) → ℕ → List ℕ → List ℕ
by_position f n before = map f (range 1 n) ++ drop n before

-- the numbers of a list, by position
abbrev pub cell_at : List ℕ → ℕ → ℕ
cell_at l p = get_or l (pred p) 0

-- a series' grains at a position, of the first i engagements
unfoldable pub grains_to : Book → Kind → ℕ → Series → ℕ → ℕ → ℕ
grains_to book kind receiver s i p = sum_of (grains_of book kind receiver s p) (take i book.engagements)

-- n numbers added to the cells from a place on
unfoldable pub added : List ℕ → ℕ → (ℕ → ℕ) → ℕ → List ℕ
added l at v zero = l
added l at v (suc k) = set (added l at v k) (at + k) (get_or l (at + k) 0 + v k)

-- n volumes from a place on can be added to the cells from another on: no sum wraps
pub record VolumesAddable (grains : List ℕ) (first : ℕ) (volumes : List ℕ) (at n : ℕ) : Type 0 where
  pub cells : first + n ≤ length grains
  pub given : at + n ≤ length volumes
  pub fits : (k : ℕ) → k < n → get_or grains (first + k) 0 + get_or volumes (at + k) 0 < 2 ^ 64

-- a calendar, a register, engagements and volumes are those of a book that passes refusals 1 to 7
pub record Parts (c : Calendar) (register engagements volumes : List ℕ) (book : Book) : Type 0 where
  pub sound : Sound book
  pub when : book.calendar ≡ c
  pub listed : book.engagements ≡ engagements_in engagements
  pub registered : (i : ℕ) → i < engagement_count_in engagements → 64 * (engagement_at engagements i).point + 64 ≤ length register
  pub owner : (i : ℕ) → i < engagement_count_in engagements → point_of book (engagement_at engagements i) ≡ point_at register (engagement_at engagements i).point
  pub starts : take (length (book_volumes book)) volumes ≡ book_volumes book

-- the bytes of a book that refusals 1 to 9 pass, and numbers that start with its delivered volumes
pub record DeliveredIn (bytes volumes : List ℕ) : Type 0 where
  pub accepted : book_refusal bytes ≡ none
  pub starts : take (length (book_volumes (book_of bytes))) volumes ≡ book_volumes (book_of bytes)

-- the calendar, the register and the engagements that a book's bytes say
pub record PartsOf (bytes : List ℕ) (c : Calendar) (third fifth : List ℕ) : Type 0 where
  pub when : c ≡ calendar_of bytes
  pub register : third ≡ register_section bytes
  pub engagements : fifth ≡ engagement_section bytes
