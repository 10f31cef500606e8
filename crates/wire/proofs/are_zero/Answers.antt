-- All bytes are zero where their number is.
use Rattle.std.proofs.Common.{rules}
use Rattle.std.proofs.iter.runs.Made.{chains}
use Rattle.wire.proofs.ZerosLaws.{zeros_are}
use Rattle.wire.proofs.are_zero.Goals as goal

pub returns : goal.returns
returns c = zeros_are c.args.bytes.now c.all.result (search (rules, chains))
