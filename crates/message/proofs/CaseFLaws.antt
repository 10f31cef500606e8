-- Case F of document 01: its file's bytes, both ways.
use Rattle.std.specs.Prelude.{◌≡◌, refl, true, ℕ, ◌≤◌, ◌<◌}
use Rattle.std.proofs.Common.{ap, ap₂, arith, le-leb, lt-ltb}
use mathlib.Core.List.{List, [], ◌∷◌, ◌++◌, flat_map}
use Rattle.text.specs.Ascii.{bytes}
use Rattle.text.specs.Decimal.{above, fixed, plain, count, value_from, fixed_at}
use Rattle.text.specs.Decimal.{digits as is_digits}
use Rattle.text.specs.Tag.{begins}
use Rattle.integers.specs.Running.{up_to}
use Rattle.integers.specs.Rises.{rises}
use Rattle.integers.specs.All.{All}
use Rattle.formats.specs.Format.{got, read_all}
use Rattle.formats.specs.FormatLaws.{there_and_back}
use Rattle.formats.specs.Name.{each}
use Rattle.formats.specs.Words.{word_at}
use Rattle.quarters.specs.Quarters.{quarters_in_month}
use Rattle.calendar.specs.Dates.{leap, month_length, march_sunday, october_sunday, day_number, offset_hours, next_year, next_month}
use Rattle.calendar.proofs.DatesLaws.{last-sunday-is, month-length}
use Rattle.moments.specs.Moments.{moment_bytes, date_bytes, time_bytes, tail_bytes, period_start, period_end, real_date, real_time, real, value_at, parts, moment_of}
use Rattle.moments.specs.Ids.{is_transaction_id}
use Rattle.kinds.specs.declared.Kind.TheVariants.{Toe01}
use Rattle.message.specs.Contents.{Observation, TimeSeries, File}
use Rattle.message.specs.Bytes.{element, opening, ending, closing, root, counter, group, partner, digits, quantity_bytes, observation_bytes, period_bytes, supplies, deliveries, supply_bytes, volume_bytes, series_bytes, supply_of, partner_bytes, file_bytes}
use Rattle.message.specs.Valid.{is_moment, last_position, periods, first_of, IsVolume, IsFile}
use Rattle.message.proofs.FileForm.{file}

-- the first of a month from April to September is in summer, here June and July
june-march : (year : ℕ) → march_sunday year ≤ day_number year 6 1
unfolding march_sunday day_number up_to
june-march year = omega (arith, (last-sunday-is year 3 (omega arith) (omega arith)).last)

june-october : (year : ℕ) → day_number year 6 1 < october_sunday year
unfolding october_sunday day_number up_to
june-october year = omega (arith, (last-sunday-is year 10 (omega arith) (omega arith)).first, month-length year 6 (omega arith) (omega arith))

july-march : (year : ℕ) → march_sunday year ≤ day_number year 7 1
unfolding march_sunday day_number up_to
july-march year = omega (arith, (last-sunday-is year 3 (omega arith) (omega arith)).last)

july-october : (year : ℕ) → day_number year 7 1 < october_sunday year
unfolding october_sunday day_number up_to
july-october year = omega (arith, (last-sunday-is year 10 (omega arith) (omega arith)).first, month-length year 7 (omega arith) (omega arith))

june : offset_hours 2021 6 1 ≡ 2
unfolding offset_hours
june = rw (le-leb (march_sunday 2021) (day_number 2021 6 1) (june-march 2021), lt-ltb (day_number 2021 6 1) (october_sunday 2021) (june-october 2021))

july : offset_hours 2021 7 1 ≡ 2
unfolding offset_hours
july = rw (le-leb (march_sunday 2021) (day_number 2021 7 1) (july-march 2021), lt-ltb (day_number 2021 7 1) (october_sunday 2021) (july-october 2021))

starts : moment_bytes (period_start 2021 6) ≡ bytes "2021-06-01T00:00:00.000+02:00"
unfolding period_start moment_bytes date_bytes time_bytes tail_bytes fixed above bytes
starts = ap (λ (o : ℕ). moment_bytes (record { year = 2021; month = 6; day = 1; hour = 0; minute = 0; second = 0; milli = 0; offset = o })) june

ends : moment_bytes (period_end 2021 6) ≡ bytes "2021-07-01T00:00:00.000+02:00"
unfolding period_end next_year next_month period_start moment_bytes date_bytes time_bytes tail_bytes fixed above bytes
ends = ap (λ (o : ℕ). moment_bytes (record { year = 2021; month = 7; day = 1; hour = 0; minute = 0; second = 0; milli = 0; offset = o })) july

period : period_bytes 2021 6 ≡ bytes "<PeriodStart>2021-06-01T00:00:00.000+02:00</PeriodStart><PeriodEnd>2021-07-01T00:00:00.000+02:00</PeriodEnd><PeriodResolution>PT15M</PeriodResolution>"
unfolding period_bytes opening closing ending bytes
period = ap₂ (λ (a b : List ℕ). element "PeriodStart" a ++ element "PeriodEnd" b ++ element "PeriodResolution" (bytes "PT15M")) starts ends

unfoldable pub observations : List Observation
observations = record { position = 1; watts = 2500 } ∷ record { position = 2; watts = 2500 } ∷ []

unfoldable pub series : TimeSeries
series = record { supply = 0; delivery = 0; year = 2021; month = 6; observations = observations }

unfoldable pub case_f : File
case_f =
    record {
      kind = Toe01;
      receiver = 7;
      id = bytes "T-1";
      moment = bytes "2021-08-02T09:00:00.000+02:00";
      partners = record { number = 3; series = series ∷ [] } ∷ [];
    }

unfoldable pub text : List ℕ
text = bytes "<AggregatedToEVolumesForFSP><TransactionID>T-1</TransactionID><MessageCreateDateTime>2021-08-02T09:00:00.000+02:00</MessageCreateDateTime><ReceiverID>0000000007</ReceiverID><SupplierCounter>1</SupplierCounter><SupplierSeries><SupplierEnterpriseNumber>0000000003</SupplierEnterpriseNumber><DirectionCounter>1</DirectionCounter><ToETimeSeries><SupplyDirection>Off-take</SupplyDirection><DeliveryDirection>DeliveryUp</DeliveryDirection><UnitType>KWT</UnitType><ObservationCounter>2</ObservationCounter><TimeSeriesPeriod><PeriodStart>2021-06-01T00:00:00.000+02:00</PeriodStart><PeriodEnd>2021-07-01T00:00:00.000+02:00</PeriodEnd><PeriodResolution>PT15M</PeriodResolution><Observation><Position>1</Position><Quantity>2.500</Quantity></Observation><Observation><Position>2</Position><Quantity>2.500</Quantity></Observation></TimeSeriesPeriod></ToETimeSeries></SupplierSeries></AggregatedToEVolumesForFSP>"

-- the file around its period
around : List ℕ → List ℕ
around q =
    element (root Toe01) (element "TransactionID" (bytes "T-1") ++ element "MessageCreateDateTime" (bytes "2021-08-02T09:00:00.000+02:00")
    ++ element "ReceiverID" (fixed 10 7) ++ element (counter Toe01) (plain 1)
    ++ (element (group Toe01) (element (partner Toe01) (fixed 10 3) ++ [] ++ element "DirectionCounter" (plain 1)
    ++ (element "ToETimeSeries" (supply_bytes 0 ++ (element "DeliveryDirection" (word_at deliveries 0) ++ element "UnitType" (bytes "KWT")
    ++ element "ObservationCounter" (plain 2) ++ element "TimeSeriesPeriod" (q ++ flat_map observation_bytes observations))) ++ [])) ++ []))

pub renders : file_bytes case_f ≡ text
unfolding around case_f series observations text file_bytes partner_bytes series_bytes volume_bytes supply_bytes supplies deliveries supply_of observation_bytes quantity_bytes digits partner group counter root closing ending opening word_at flat_map fixed plain count above bytes
renders = ap around period

-- it is valid
volume : IsVolume series
unfolding series observations All rises last_position quarters_in_month month_length
volume =
    record {
      delivery = omega arith;
      period = record { from = omega arith; to = omega arith; january = omega arith; december = omega arith };
      counted = record { some = omega arith; fits = omega arith };
      rising = refl;
      each = (record { within = omega arith; some = omega arith; below = omega arith }, (record { within = omega arith; some = omega arith; below = omega arith }, tt));
    }

moment : is_moment (bytes "2021-08-02T09:00:00.000+02:00") ≡ true
unfolding moment_of parts value_at fixed_at is_digits value_from real real_date real_time month_length leap moment_bytes date_bytes time_bytes tail_bytes fixed above bytes begins
moment = refl

pub valid : IsFile case_f
unfolding case_f series All rises periods flat_map first_of is_transaction_id each bytes digits
valid =
    record {
      receiver = omega arith;
      id = refl;
      moment = moment;
      fits = omega arith;
      rising = refl;
      each = (record { number = omega arith; counted = record { some = omega arith; fits = omega arith }; rising = refl; each = (record { supply = omega arith; volume = volume }, tt); one = tt }, tt);
      same = (refl, tt);
    }

pub reads : read_all file text ≡ got case_f []
unfolding file
reads = rw (← renders) (there_and_back file case_f valid)
