-- What a receiver's file says of a book, part by part: the case of the book's own grains.
use Rattle.std.specs.Prelude.{List, ℕ}
use Rattle.integers.specs.Ranges.{range}
use Rattle.book.specs.declared.Supply.{Supply}
use Rattle.book.specs.declared.Direction.{Direction}
use Rattle.book.specs.Book.{Book}
use Rattle.volumes.specs.declared.Series.{Series}
use Rattle.volumes.specs.Series.{Kind, grains_at}
use Rattle.message.specs.Contents.{Observation, TimeSeries, Partner}
use Rattle.quarters.specs.Quarters.{month_quarters}
use Rattle.reports.specs.FileRows.{observation_by, observations_by, time_series_by, partner_by}

-- ---- a book's own: its grains in its month

unfoldable pub positions : Book → List ℕ
positions book = range 1 (month_quarters book.calendar)

unfoldable pub observation_at : Book → Kind → ℕ → Series → ℕ → Observation
observation_at book kind receiver s p = observation_by (grains_at book kind receiver s) p

unfoldable pub observations_of : Book → Kind → ℕ → Series → List Observation
observations_of book kind receiver s = observations_by (grains_at book kind receiver s) (month_quarters book.calendar)

unfoldable pub time_series : Book → Kind → ℕ → ℕ → Supply × Direction → TimeSeries
time_series book kind receiver partner d = time_series_by (grains_at book kind receiver) (book.calendar.year, book.calendar.month) (month_quarters book.calendar) partner d

unfoldable pub partner_at : Book → Kind → ℕ → ℕ → Partner
partner_at book kind receiver partner = partner_by (grains_at book kind receiver) (book.calendar.year, book.calendar.month) (month_quarters book.calendar) partner

unfoldable pub time_series_of : Book → Kind → ℕ → ℕ → List TimeSeries
time_series_of book kind receiver partner = (partner_at book kind receiver partner).series
