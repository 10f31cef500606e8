-- Days and quarter-hours of a calendar: few, and some.
use Rattle.quarters.proofs.QuartersLaws.{days-few, quarters-few, quarters-some}

pub ruleset few_rows = (days-few, quarters-few, quarters-some)
