-- The places of a book's sections are sums of small numbers.
use Rattle.quarters.proofs.QuartersLaws.{days-few, quarters-few, readings-few}

pub ruleset few_places = (days-few, quarters-few, readings-few)
