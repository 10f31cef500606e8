-- The line is judged, then the length of the input, then the file call.
use Rattle.std.proofs.Common.{◌≡◌, Some, None, Err, rules}
use Rattle.requests.specs.LineInner.{request_of}
use Rattle.refusals.specs.declared.Refused.TheVariants.{Malformed}
use Rattle.outputs.proofs.OutputLaws.{no_line, too_long}
use Rattle.outputs.proofs.file.Goals as goal

pub returns-in_err-asked : goal.returns-in_err-asked
returns-in_err-asked c =
    let none : None ≡ request_of c.args.input.now = search rules in
    let same : c.from_residual.result ≡ Err Malformed = search rules in
    rw same (no_line c.args.input.now c.args.rows.now c.args.out.now none)

pub returns-then-input-gt65536 : goal.returns-then-input-gt65536
returns-then-input-gt65536 c =
    let some : Some c.in_ok-asked.asked ≡ request_of c.args.input.now = search rules in
    too_long c.args.input.now c.args.rows.now c.args.out.now c.in_ok-asked.asked some c.if-input-gt65536.true
