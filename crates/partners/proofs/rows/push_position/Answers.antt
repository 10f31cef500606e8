-- A row is stored, or nothing.
use native.Mathlib.Omega.{arith}
use Rattle.partners.specs.PartnerRowsLaws.{filled_is, filled_none, position-none, position-one}
use Rattle.partners.proofs.rows.push_position.Goals as goal

pub returns-then-watts-eq0 : goal.returns-then-watts-eq0
returns-then-watts-eq0 c = filled_is _ (position-none c.args.s c.args.position c.args.watts (omega arith)) (filled_none _ _)

pub returns : goal.returns
returns c = filled_is _ (position-one c.args.s c.args.position c.args.watts (omega arith)) c.push_row.ensures
