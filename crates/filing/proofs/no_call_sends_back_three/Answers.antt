-- A law of the three calls' contracts.
use Rattle.filing.specs.NeverThreeLaws.{never-three}
use Rattle.filing.proofs.no_call_sends_back_three.Goals as goal

pub returns : goal.returns
returns c = never-three
