-- Moments: their bytes, which are real, how bytes are judged, the instant, the period of a month (document 01, "The file").
use Rattle.std.specs.Prelude.{Bool, true, false, ◌&&◌, List, ◌++◌, ℕ, eqb, leb, length, Option, Some, None, unwrap_or}
use Rattle.text.specs.Ascii.{bytes}
use Rattle.text.specs.Decimal.{fixed, fixed_at}
use Rattle.text.specs.Tag.{begins}
use Rattle.calendar.specs.Dates.{month_length, offset_hours, next_year, next_month}
use Rattle.moments.specs.declared.Moment.{Moment}

-- "moment in the form shown": 2021-08-02, T09:00:00, .000+02:00
unfoldable pub date_bytes : Moment → List ℕ
date_bytes m = fixed 4 m.year ++ bytes "-" ++ fixed 2 m.month ++ bytes "-" ++ fixed 2 m.day

unfoldable pub time_bytes : Moment → List ℕ
time_bytes m = bytes "T" ++ fixed 2 m.hour ++ bytes ":" ++ fixed 2 m.minute ++ bytes ":" ++ fixed 2 m.second

unfoldable pub tail_bytes : Moment → List ℕ
tail_bytes m = bytes "." ++ fixed 3 m.milli ++ bytes "+" ++ fixed 2 m.offset ++ bytes ":00"

unfoldable pub moment_bytes : Moment → List ℕ
moment_bytes m = date_bytes m ++ time_bytes m ++ tail_bytes m

-- from the first number to the last, both taken in
abbrev pub within : ℕ → ℕ → ℕ → Bool
within low n high = leb low n && leb n high

-- "a real date and time of 2018 to 2099, with either offset" (what isn't a month has no days)
unfoldable pub real_date : ℕ → ℕ → ℕ → Bool
real_date year month day = within 2018 year 2099 && within 1 day (month_length year month)

unfoldable pub real_time : ℕ → ℕ → ℕ → ℕ → Bool
real_time hour minute second milli = leb hour 23 && leb minute 59 && leb second 59 && leb milli 999

unfoldable pub real : Moment → Bool
real m =
    real_date m.year m.month m.day && real_time m.hour m.minute m.second m.milli && within 1 m.offset 2

-- the number of n digits at a place, 0 where there is none
unfoldable pub value_at : List ℕ → ℕ → ℕ → ℕ
value_at s at n = unwrap_or (fixed_at s at n) 0

-- what stands at the places of the form
unfoldable pub parts : List ℕ → Moment
parts s =
    record {
      year = value_at s 0 4;
      month = value_at s 5 2;
      day = value_at s 8 2;
      hour = value_at s 11 2;
      minute = value_at s 14 2;
      second = value_at s 17 2;
      milli = value_at s 20 3;
      offset = value_at s 24 2;
    }

-- a moment where a test passes
abbrev pub pick_read : Bool → Moment → Option Moment
pick_read true m = Some m
pick_read false m = None

-- bytes are a moment where what stands at the places is real and has these bytes: so they are the bytes of a real
-- moment, and the bytes of each real moment are read as it (`judged-is`, `is-judged` of MomentsLaws)
unfoldable pub moment_of : List ℕ → Option Moment
moment_of s = pick_read (eqb (length s) 29 && real (parts s) && begins (moment_bytes (parts s)) s) (parts s)

-- "PeriodStart", "PeriodEnd": the first of the month and of the next one, each with its own date's offset
unfoldable pub period_start : ℕ → ℕ → Moment
period_start y m =
    record {
      year = y;
      month = m;
      day = 1;
      hour = 0;
      minute = 0;
      second = 0;
      milli = 0;
      offset = offset_hours y m 1;
    }

unfoldable pub period_end : ℕ → ℕ → Moment
period_end y m = period_start (next_year y m) (next_month m)
