use Rattle.lookup.specs.Lookups.{tuple_start}
use Rattle.lookup.proofs.starts.tuple_start.Goals as goal

pub returns : goal.returns
unfolding tuple_start
returns c = c.total_of.ensures
