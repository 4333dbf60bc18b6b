use Rattle.lookup.specs.Lookups.{multiplicity_start}
use Rattle.lookup.proofs.starts.multiplicity_start.Goals as goal

pub returns : goal.returns
unfolding multiplicity_start
returns c = c.total_of.ensures
