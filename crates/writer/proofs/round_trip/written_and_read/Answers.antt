-- The round trip holds of the calls' records.
use Rattle.writer.proofs.RoundTripLaws.{round_trip}
use Rattle.writer.proofs.round_trip.written_and_read.Goals as goal

pub returns : goal.returns
returns c = round_trip
