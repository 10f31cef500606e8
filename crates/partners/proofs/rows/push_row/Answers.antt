-- One store is a row's numbers; a direction's number is its place among its enum's variants.
use Rattle.std.proofs.Common.{rules}
use Rattle.message.specs.Rows.{row_numbers}
use Rattle.reports.specs.FileRows.{supply_number, delivery_number}
use Rattle.partners.proofs.rows.push_row.Goals as goal

pub returns : goal.returns
unfolding row_numbers supply_number delivery_number
returns c = search rules
