use Rattle.grid_core.proofs.Searches.{found_at, found_none}
use Rattle.grid_core.proofs.sorted_area.overlaps_one_of.Goals as goal

pub returns-in-Some : goal.returns-in-Some
returns-in-Some c = found_at c.args.own c.args.intervals.now c.first_from.result c.in-Some.first.now c.requires.ordered c.requires.apart c.first_from.ensures c.in-Some.ensures.lookup.3.0 c.in-Some.ensures.lookup.1

pub returns-in-None : goal.returns-in-None
returns-in-None c = found_none c.args.own c.args.intervals.now c.first_from.result c.first_from.ensures c.in-None.ensures.lookup.3
