-- Document 01, "Baseline": "Let A be the engagement's day, s its first quarter-hour." k is one of its quarter-hours, counted from 0.
use Rattle.std.specs.Prelude.{Bool, true, false, cond, not, ◌&&◌, ℕ, zero, suc, ◌+◌, ◌-◌, eqb, leb, ℤ, pos, ◌+ℤ◌, ◌-ℤ◌, ◌*ℤ◌, length, take, get_or, Some, None}
use mathlib.Core.List.{List, [], ◌∷◌, map, flat_map}
use Rattle.integers.specs.Ranges.{range}
use Rattle.integers.specs.Sums.{sum_z}
use Rattle.integers.specs.Keep.{keep}
use Rattle.integers.specs.First.{any_of}
use Rattle.wire.specs.Readings.{Reading}
use Rattle.grains.specs.Grains.{grains_z, share}
use Rattle.book.specs.declared.Situation.TheVariants.{OptOut}
use Rattle.book.specs.declared.Takers.TheVariants.{Neither}
use Rattle.book.specs.declared.Supply.TheVariants.{OffTake}
use Rattle.book.specs.declared.Method.{Method}
use Rattle.book.specs.declared.Method.TheVariants.{LastQuarter, HighXOfY, Adjusted}
use Rattle.quarters.specs.declared.Calendar.{Calendar}
use Rattle.quarters.specs.Quarters.{is_clock_change}
use Rattle.book.specs.declared.Point.{Point}
use Rattle.book.specs.declared.Engagement.{Engagement}
use Rattle.book.specs.Register.{excludes}
use Rattle.book.specs.Book.{Book}
use Rattle.volumes.specs.Quarters.{quarter_hours, start, reference, touches}
use Rattle.volumes.specs.Ranking.{ranked}

-- an engagement's delivery point; its index is below the number of points, so `no_point` is never met
abbrev pub no_point : Point
no_point =
    record {
      delivery = 0;
      access = 0;
      supplier = 0;
      fsp = 0;
      mask = 0;
      upward = 0;
      downward = 0;
      sourceparty = 0;
      fspparty = 0;
      injectionparty = 0;
      situation = OptOut;
      takers = Neither;
      supply = OffTake;
      method = LastQuarter;
    }

unfoldable pub point_of : Book → Engagement → Point
point_of book e = get_or book.points e.point no_point

-- a reading's watts; in an accepted book no reading that is used is missing
unfoldable pub watts : Reading → ℤ
watts (Some w) = w
watts None = pos 0

-- a reading that isn't missing, and readings of which none is
unfoldable pub known : Reading → Bool
known (Some w) = true
known None = false

unfoldable pub complete : List Reading → Bool
complete [] = true
complete (r ∷ l) = known r && complete l

-- the mean of readings, in grains: whole where their number divides a watt's grains
unfoldable pub mean : List Reading → ℤ
mean l = sum_z watts l *ℤ pos (share (length l))

-- of point p, the reading n quarter-hours before quarter-hour q of the calendar; before the calendar there is none
unfoldable pub reading_before : Book → ℕ → ℕ → ℕ → Reading
reading_before book p q n = cond (leb n q) (book.reading p (q - n)) None

-- "the 12 readings from 96 A + s - 24", q being 96 A + s or what stands for it on another day: "24 before the place so found for the first quarter-hour"
unfoldable pub window : Book → ℕ → ℕ → List Reading
window book p q = map (λ i. reading_before book p q (24 - i)) (range 0 12)

-- the reading of A in quarter-hour k of the engagement, and that of day d which stands for it
unfoldable pub own_reading : Book → Engagement → ℕ → Reading
own_reading book e k = book.reading e.point (start book.calendar e + k)

unfoldable pub day_reading : Book → Engagement → ℕ → ℕ → Reading
day_reading book e k d = book.reading e.point (reference book.calendar e d k)

-- the readings of day d "in the engagement's quarter-hours"
unfoldable pub day_readings : Book → Engagement → ℕ → List Reading
day_readings book e d = map (λ k. day_reading book e k d) (quarter_hours e)

-- the 12 of A, and the "corresponding 12" of day d
unfoldable pub own_window : Book → Engagement → List Reading
own_window book e = window book e.point (start book.calendar e)

unfoldable pub day_window : Book → Engagement → ℕ → List Reading
day_window book e d = window book e.point (reference book.calendar e d 0)

-- method 2: "An eligible day's 12 must lie in the calendar and not be missing."
unfoldable pub windowed : Method → List Reading → Bool
windowed LastQuarter twelve = true
windowed HighXOfY twelve = true
windowed Adjusted twelve = complete twelve

-- "it has A's category, isn't excluded"
unfoldable pub allowed : Book → Engagement → ℕ → Bool
allowed book e d = eqb (book.category d) (book.category e.day) && not (excludes (point_of book e).mask d)

-- "day d before A is eligible if it has A's category, isn't excluded and misses no reading in the engagement's quarter-hours": what document 01 asks of it
unfoldable pub suits : Book → Engagement → ℕ → Bool
suits book e d = allowed book e d && (complete (day_readings book e d) && windowed (point_of book e).method (day_window book e d))

-- an engagement of point p on day d, at whatever quarter-hour
abbrev pub is_on : ℕ → ℕ → Engagement → Bool
is_on p d e = eqb e.point p && eqb e.day d

-- document 02, C-11: "the book holds an engagement of that point on it"
unfoldable pub engaged : Book → ℕ → ℕ → Bool
engaged book p d = any_of (is_on p d) book.engagements

-- document 02, C-12: "for method 2 neither is a day whose window of 12 touches one", the window being from 24 before quarter-hour q of the calendar
unfoldable pub clear : Method → Calendar → ℕ → Bool
clear LastQuarter c q = true
clear HighXOfY c q = true
clear Adjusted c q = not (touches c q)

-- "A clock-change day is never a reference day", nor is one whose window touches it
unfoldable pub regular : Book → Engagement → ℕ → Bool
regular book e d =
    not (is_clock_change book.calendar d)
    && clear (point_of book e).method book.calendar (reference book.calendar e d 0)

-- "a day isn't eligible if the book holds an engagement of that point on it"; it is regular, and is what document 01 asks for
unfoldable pub eligible : Book → Engagement → ℕ → Bool
eligible book e d = not (engaged book e.point d) && (regular book e d && suits book e d)

-- the days before a, the latest first
unfoldable pub before : ℕ → List ℕ
before zero = []
before (suc d) = d ∷ before d

unfoldable pub eligible_days : Book → Engagement → List ℕ
eligible_days book e = keep (eligible book e) (before e.day)

-- X and Y of A's category
abbrev pub x_of : Book → Engagement → ℕ
x_of book e = book.x (book.category e.day)

abbrev pub y_of : Book → Engagement → ℕ
y_of book e = book.y (book.category e.day)

-- "The Y latest eligible days are taken"
unfoldable pub latest : Book → Engagement → List ℕ
latest book e = take (y_of book e) (eligible_days book e)

-- the "sum over the engagement's quarter-hours"
unfoldable pub day_sum : Book → Engagement → ℕ → ℤ
day_sum book e d = sum_z watts (day_readings book e d)

-- "of them the X with the greatest sum over the engagement's quarter-hours, the later day first among equal sums"
unfoldable pub taken : Book → Engagement → List ℕ
taken book e = take (x_of book e) (ranked (day_sum book e) (latest book e))

-- "The baseline of a quarter-hour is the mean of its X readings."
unfoldable pub high : Book → Engagement → ℕ → ℤ
high book e k = mean (map (day_reading book e k) (taken book e))

-- "the mean of the 12 readings from 96 A + s - 24 less the mean over the X days of their corresponding 12"
unfoldable pub addend : Book → Engagement → ℤ
addend book e = mean (own_window book e) -ℤ mean (flat_map (day_window book e) (taken book e))

-- "the reading just before quarter-hour 96 A + s - notice"
unfoldable pub last_reading : Book → Engagement → Reading
last_reading book e = reading_before book e.point (start book.calendar e) (e.notice + 1)

-- "Method 0 ..: the reading just before"; "Method 1 ..: the mean of its X readings"; "Method 2: method 1 plus one addend"
unfoldable pub baseline_by : Method → Book → Engagement → ℕ → ℤ
baseline_by LastQuarter book e k = grains_z (watts (last_reading book e))
baseline_by HighXOfY book e k = high book e k
baseline_by Adjusted book e k = high book e k +ℤ addend book e

-- the baseline of quarter-hour k of an engagement, in grains
unfoldable pub baseline : Book → Engagement → ℕ → ℤ
baseline book e k = baseline_by (point_of book e).method book e k
